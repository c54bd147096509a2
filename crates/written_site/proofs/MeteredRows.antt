-- What the meters of a product have counted is what the rows tell.
use Rattle.std.proofs.Common.{◌≡◌, ℕ, ◌+◌, ◌-◌, ◌*◌, ◌==◌, ◌&&◌, ◌||◌, not, Bool, true, false, cond}
use Rattle.std.proofs.Common.{List, [], ◌∷◌, Some, refl, sym, ap, subst, ◌∙◌, if◌then◌else◌, arith}
use Rattle.std.proofs.lemmas.Bool.{and_parts, false≢true}
use Rattle.site_base.specs.declared.event.Event.{Event}
use Rattle.site_base.specs.declared.event.Event.TheVariants.{ReplaceMeter, Flow, HangUp}
use Rattle.site_base.specs.declared.row.Row.{Row}
use Rattle.site_base.specs.Configured.{Configured}
use Rattle.meters.specs.MeteredVolumes.{volume_metered, metered_by, product_alone, product_total}
use Rattle.meters.specs.Nozzles.{Nozzle, is_nozzle, opening_nozzles, nozzle_of, with_nozzle}
use Rattle.meters.specs.Nozzles.{read_at, replaced_at}
use Rattle.meters.proofs.Lookups.{KeepsName}
use Rattle.written_site.specs.MeteredRows.{metered_read, is_among, metered_of, metered_rows}
use Rattle.written_site.specs.MeterLaws.{began_after, read_after}
use Rattle.written_site.specs.SiteRun.{site_of_rows, IsLegal}
use Rattle.written_site.specs.SiteState.{SiteState, opening}
use Rattle.written_site.specs.SiteStep.{nozzles_after, reply_to, site_after}
use Rattle.written_site.proofs.MeterLaws.{EachFresh, fresh_points, meters_read}
use Rattle.written_site.proofs.RowWords.{of_row, kept}
use Rattle.written_site.proofs.SoundMeters.{read_keeps, replaced_keeps}
use Rattle.written_site.proofs.SoundTables.{same, itself}

-- ---- the nozzles of a site stand as configured

-- The nozzles stand in configured order with their names and products; one whose name stands before
-- it, so that no event can name it, has metered nothing.
abbrev pub Aligned : List Nozzle → List Nozzle → List Nozzle → Type 0
Aligned seen [] [] = Unit {0}
Aligned seen [] (y ∷ ys) = ⊥
Aligned seen (x ∷ xs) [] = ⊥
Aligned seen (x ∷ xs) (y ∷ ys) =
    (y.point ≡ x.point) × ((y.number ≡ x.number) × ((y.product ≡ x.product)
    × ((is_among seen x.point x.number ≡ true → volume_metered y ≡ 0) × Aligned (x ∷ seen) xs ys)))

-- the name of a nozzle that stands as another
named_as : (p n : ℕ) (x y : Nozzle) → y.point ≡ x.point → y.number ≡ x.number
    → is_nozzle p n y ≡ is_nozzle p n x
named_as p n x y point number =
    ap (λ (r : ℕ). r == p && y.number == n) point ∙ ap (λ (m : ℕ). x.point == p && m == n) number

aligned_with : (seen : List Nozzle) (p n : ℕ) (change : Nozzle → Nozzle) (xs ys : List Nozzle)
    → KeepsName change → ((y : Nozzle) → (change y).product ≡ y.product)
    → is_among seen p n ≡ false → Aligned seen xs ys → Aligned seen xs (with_nozzle p n change ys)
aligned_with seen p n change [] [] keeps same_product unseen aligned = tt
aligned_with seen p n change [] (y ∷ ys) keeps same_product unseen aligned = absurd aligned
aligned_with seen p n change (x ∷ xs) [] keeps same_product unseen aligned = absurd aligned
aligned_with seen p n change (x ∷ xs) (y ∷ ys) keeps same_product unseen aligned =
    by_test (is_nozzle p n y) refl
    (λ other. aligned_with (x ∷ seen) p n change xs ys keeps same_product other aligned.1.1.1.1)
  where
    as_configured : is_nozzle p n y ≡ is_nozzle p n x
    as_configured = named_as p n x y aligned.0 aligned.1.0

    by_test : (b : Bool) → is_nozzle p n y ≡ b
        → (is_among (x ∷ seen) p n ≡ false → Aligned (x ∷ seen) xs (with_nozzle p n change ys))
        → Aligned seen (x ∷ xs) (with_nozzle p n change (y ∷ ys))
    by_test true at behind =
        let moved : with_nozzle p n change (y ∷ ys) ≡ change y ∷ ys = rw at refl in
        let parts = and_parts (x.point == p) (x.number == n) (sym as_configured ∙ at) in
        let first : is_among seen x.point x.number ≡ false =
        ap (λ (r : ℕ). is_among seen r x.number) (same x.point p parts.0)
        ∙ ap (is_among seen p) (same x.number n parts.1) ∙ unseen in
        subst (Aligned seen (x ∷ xs)) (sym moved) (
          keeps.point y ∙ aligned.0,
          (
            keeps.number y ∙ aligned.1.0,
            (
              same_product y ∙ aligned.1.1.0,
              ((λ shadow. absurd (false≢true (sym first ∙ shadow))), aligned.1.1.1.1),
            ),
          ),
        )
    by_test false at behind =
        let moved : with_nozzle p n change (y ∷ ys) ≡ y ∷ with_nozzle p n change ys = rw at refl in
        let other : is_nozzle p n x ≡ false = sym as_configured ∙ at in
        subst (Aligned seen (x ∷ xs)) (sym moved) (
          aligned.0,
          (
            aligned.1.0,
            (
              aligned.1.1.0,
              (
                aligned.1.1.1.0,
                behind (ap (λ (b : Bool). b || is_among seen p n) other ∙ unseen),
              ),
            ),
          ),
        )

aligned_after : (s : SiteState) (e : Event) (xs : List Nozzle) → Aligned [] xs s.nozzles
    → Aligned [] xs (nozzles_after s e)
aligned_after s (Flow p n reading) xs aligned =
    aligned_with [] p n (read_at reading) xs s.nozzles (read_keeps reading) (λ y. refl) refl aligned
aligned_after s (HangUp p n reading) xs aligned =
    aligned_with [] p n (read_at reading) xs s.nozzles (read_keeps reading) (λ y. refl) refl aligned
aligned_after s (ReplaceMeter p n reading) xs aligned =
    aligned_with [] p n (replaced_at reading) xs s.nozzles (replaced_keeps reading) (λ y. refl) refl
    aligned
aligned_after s e xs aligned = aligned

aligned_first : (seen xs : List Nozzle) → EachFresh xs → Aligned seen xs xs
aligned_first seen [] fresh = tt
aligned_first seen (x ∷ xs) fresh =
    (refl, (refl, (refl, ((λ shadow. nothing), aligned_first (x ∷ seen) xs fresh.1))))
  where
    nothing : volume_metered x ≡ 0
    nothing =
        let began = fresh.0.began in
        let earlier = fresh.0.earlier in
        omega (arith, began, earlier)

-- ---- the sum

weighed : (b d : Bool) (v w : ℕ) → (d ≡ true → v ≡ 0) → (d ≡ false → v ≡ w)
    → ◌≡◌ {A = ℕ} (cond b 1 0 * v) (if b && not d then w else 0)
weighed true true v w none some = let is = none refl in omega (arith, is)
weighed true false v w none some = let is = some refl in omega (arith, is)
weighed false d v w none some = omega arith

pub metered_as_read : (c : Configured) (q : ℕ) (rows : List Row) (seen xs ys : List Nozzle)
    → Aligned seen xs ys
    → ((p n : ℕ) (z : Nozzle) → is_among seen p n ≡ false → nozzle_of p n ys ≡ Some z
    → volume_metered z ≡ metered_read c p n rows)
    → metered_by (product_alone q) ys ≡ metered_of c q rows seen xs
metered_as_read c q rows seen [] [] aligned each = refl
metered_as_read c q rows seen [] (y ∷ ys) aligned each = absurd aligned
metered_as_read c q rows seen (x ∷ xs) [] aligned each = absurd aligned
metered_as_read c q rows seen (x ∷ xs) (y ∷ ys) aligned each =
    let rest = metered_as_read c q rows (x ∷ seen) xs ys aligned.1.1.1.1 later in
    let here : product_alone q y.product * volume_metered y
    ≡ (if x.product == q && not (is_among seen x.point x.number)
    then metered_read c x.point x.number rows else 0) =
    ap (λ (r : ℕ). product_alone q r * volume_metered y) aligned.1.1.0
    ∙ weighed (x.product == q) (is_among seen x.point x.number) (volume_metered y)
    (metered_read c x.point x.number rows) aligned.1.1.1.0 first in
    omega (arith, here, rest)
  where
    its_name : is_nozzle x.point x.number y ≡ true
    its_name = named_as x.point x.number x y aligned.0 aligned.1.0
        ∙ ap (λ (b : Bool). b && x.number == x.number) (itself x.point) ∙ itself x.number

    first : is_among seen x.point x.number ≡ false → volume_metered y
        ≡ metered_read c x.point x.number rows
    first unseen = each x.point x.number y unseen (rw its_name refl)

    later : (p n : ℕ) (z : Nozzle) → is_among (x ∷ seen) p n ≡ false → nozzle_of p n ys ≡ Some z
        → volume_metered z ≡ metered_read c p n rows
    later p n z unseen is = by_test (is_nozzle p n x) refl unseen
      where
        by_test : (b : Bool) → is_nozzle p n x ≡ b → (b || is_among seen p n) ≡ false
            → volume_metered z ≡ metered_read c p n rows
        by_test true at unseen = cc
        by_test false at unseen =
            let other : is_nozzle p n y ≡ false = named_as p n x y aligned.0 aligned.1.0 ∙ at in
            let found : nozzle_of p n (y ∷ ys) ≡ nozzle_of p n ys = rw other refl in
            each p n z unseen (found ∙ is)

-- ---- every history

aligned_at : (c : Configured) (rows : List Row) → IsLegal (opening c) rows
    → Aligned [] (opening_nozzles c) (site_of_rows (opening c) rows).nozzles
aligned_at c rows legal =
    kept (λ earlier s. Aligned [] (opening_nozzles c) s.nozzles) more [] (opening c) rows
    (aligned_first [] (opening_nozzles c) (fresh_points c.points)) legal
  where
    more : (earlier : List Row) (s : SiteState) (r : Row) → Aligned [] (opening_nozzles c) s.nozzles
        → r.reply ≡ reply_to s r.actor r.event
        → Aligned [] (opening_nozzles c) (site_after s r.actor r.event).nozzles
    more earlier s r aligned replies =
        of_row (λ row new. Aligned [] (opening_nozzles c) new.nozzles) s r replies
        (λ refusal. aligned) (λ passes. aligned_after s r.event (opening_nozzles c) aligned)

pub totals_read : (c : Configured) (rows : List Row) → IsLegal (opening c) rows → (q : ℕ)
    → product_total q (site_of_rows (opening c) rows).nozzles ≡ metered_rows c q rows
totals_read c rows legal q =
    metered_as_read c q rows [] (opening_nozzles c) (site_of_rows (opening c) rows).nozzles
    (aligned_at c rows legal)
    (λ p n z unseen is.
    let read = (meters_read c rows legal).nozzles p n z is in
    ap (λ (v : ℕ). (v - z.began) + z.earlier) read.last
    ∙ ap (λ (v : ℕ). (read_after c p n rows - v) + z.earlier) read.began
    ∙ ap (λ (v : ℕ). (read_after c p n rows - began_after c p n rows) + v) read.earlier)
