-- The holds that outlive a sign-off, point by point.
use Rattle.std.proofs.Common.{◌≡◌, ℕ, ◌==◌, not, ◌&&◌, Bool, true, false, cond, List, ◌∷◌, Option}
use Rattle.std.proofs.Common.{None, is_some, refl, sym, ap, subst, ◌∙◌, if◌then◌else◌, arith}
use Rattle.std.proofs.lemmas.Bool.Decides.{nat_tests}
use Rattle.std.specs.Ordering.{nat_cmp, eq_by_cmp}
use Rattle.std.specs.Cmp.{nat_cmp_total, unsigned_tied}
use Rattle.std.specs.FinMap as finite
use Rattle.std.specs.FinMap.{FinMap, same_map, get-remove, get-retain_keys, nat_cmp-IsAntisymmetric}
use Rattle.fuelling_point.specs.KeptPoints.{Facts}
use Rattle.site_base.specs.Table.{row_of}
use Rattle.fuelling_point.specs.Holds.{is_held_by}
use Rattle.written_site.specs.SiteState.{rests, facts_in, is_resting}
use Rattle.written_site.specs.SiteStep.{ends_at_sign_off, holds_without}

-- the holder of q once the till has let go of those of these points that rest
abbrev pub left : List (ℕ × Facts) → ℕ → List (ℕ × Facts) → ℕ → Option ℕ → Option ℕ
left points t rows q holder = if is_some (row_of q rows) && (rests points q && is_held_by t holder)
    then None else holder

none_either_way : (b : Bool) → cond {A = Option ℕ} b None None ≡ None
none_either_way true = refl
none_either_way false = refl

stays : (a : Bool) (holder : Option ℕ) → (if a && false then None else holder) ≡ holder
stays true holder = refl
stays false holder = refl

-- the holds once the till has let go of this point
abbrev end_holds : List (ℕ × Facts) → FinMap nat_cmp ℕ → ℕ → ℕ → FinMap nat_cmp ℕ
end_holds points holds t p = if ends_at_sign_off points holds t p then finite.remove holds p else
    holds

gone : (holds : FinMap nat_cmp ℕ) (p : ℕ) → finite.get (finite.remove holds p) p ≡ None
gone holds p = let same : eq_by_cmp nat_cmp p p ≡ true = unsigned_tied p p
    ∙ grind (arith, nat_tests) in get-remove nat_cmp_total holds p p ∙ rw same refl

others_stay : (holds : FinMap nat_cmp ℕ) (p q : ℕ) → (p == q) ≡ false
    → finite.get (finite.remove holds p) q ≡ finite.get holds q
others_stay holds p q other = let apart : eq_by_cmp nat_cmp q p ≡ false = unsigned_tied q p
    ∙ grind (arith, nat_tests) in get-remove nat_cmp_total holds p q ∙ rw apart refl

-- letting go of the first of the points, as that point sees it
left_first : (points : List (ℕ × Facts)) (t : ℕ) (row : ℕ × Facts) (rows : List (ℕ × Facts))
    (holds : FinMap nat_cmp ℕ)
    → left points t rows row.0 (finite.get (end_holds points holds t row.0) row.0)
    ≡ left points t (row ∷ rows) row.0 (finite.get holds row.0)
left_first points t row rows holds = by_test (ends_at_sign_off points holds t row.0) refl
  where
    found : (row.0 == row.0) ≡ true
    found = grind (arith, nat_tests)

    by_test : (b : Bool) → ends_at_sign_off points holds t row.0 ≡ b
        → left points t rows row.0 (finite.get (end_holds points holds t row.0) row.0)
        ≡ left points t (row ∷ rows) row.0 (finite.get holds row.0)
    by_test true ending = rw (ending, found, gone holds row.0) (none_either_way _)
    by_test false staying = rw (staying, staying, found)
        (stays (is_some (row_of row.0 rows)) (finite.get holds row.0))

-- letting go of the first of the points
pub left_next : (points : List (ℕ × Facts)) (t : ℕ) (row : ℕ × Facts) (rows : List (ℕ × Facts))
    (holds : FinMap nat_cmp ℕ) (q : ℕ)
    → left points t rows q (finite.get (end_holds points holds t row.0) q)
    ≡ left points t (row ∷ rows) q (finite.get holds q)
left_next points t row rows holds q =
    by_tests (row.0 == q) refl (ends_at_sign_off points holds t row.0) refl
  where
    by_tests : (a : Bool) → (row.0 == q) ≡ a → (b : Bool)
        → ends_at_sign_off points holds t row.0 ≡ b
        → left points t rows q (finite.get (end_holds points holds t row.0) q)
        ≡ left points t (row ∷ rows) q (finite.get holds q)
    by_tests true here b ending =
        let same : row.0 ≡ q = grind (arith, nat_tests) in
        subst (λ r. left points t rows r (finite.get (end_holds points holds t row.0) r)
        ≡ left points t (row ∷ rows) r (finite.get holds r)) same
        (left_first points t row rows holds)
    by_tests false other true ending = rw (ending, other, others_stay holds row.0 q other) refl
    by_tests false other false staying = rw (staying, other) refl

kept : (a b held : Bool) (holder : Option ℕ)
    → (if a && ((a && b) && held) then None else holder) ≡ cond (not ((a && b) && held)) holder None
kept true true true holder = refl
kept true true false holder = refl
kept true false held holder = refl
kept false b held holder = refl

-- once the till has let go of them all
pub all_left : (points : List (ℕ × Facts)) (t : ℕ) (old new : FinMap nat_cmp ℕ)
    → ((q : ℕ) → finite.get new q ≡ left points t points q (finite.get old q))
    → new ≡ holds_without points old t
all_left points t old new each = same_map nat_cmp_total nat_cmp-IsAntisymmetric _ _ (λ q.
    each q
    ∙ kept (is_some (row_of q points)) (is_resting (facts_in points q).state)
    (is_held_by t (finite.get old q)) (finite.get old q)
    ∙ sym (get-retain_keys old (λ p. not (ends_at_sign_off points old t p)) q
    (λ x tied. ap (λ (y : ℕ). not (ends_at_sign_off points old t y))
    (sym (nat_cmp-IsAntisymmetric q x tied)))))
