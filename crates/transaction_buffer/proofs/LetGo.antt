-- How far a walk over a till's points has let their shelves go.
use Rattle.std.proofs.Common.{◌≡◌, ℕ, ◌+◌, ◌<◌, ◌==◌, ◌&&◌, not, Bool, true, false, List, length}
use Rattle.std.proofs.Common.{get_or, inl, inr, refl, sym, ap, subst, ◌∙◌, arith}
use Rattle.std.proofs.Math.ListN.{set}
use Rattle.std.proofs.lemmas.Bool.{cases_eq}
use Rattle.std.proofs.lemmas.Bool.Decides.{nat_tests}
use Rattle.std.proofs.lemmas.Grind.{get_or-set_at}
use Rattle.std.proofs.lemmas.List.{get_or-set_other, get_or_default}
use Rattle.site_base.specs.declared.limits.TheConstants.{POINT_CELLS, POINTS}
use Rattle.site_base.specs.PointSets.{has_point, IsWithout, NoneBefore}
use Rattle.transaction_buffer.specs.SignOffs.{IsLetGo, IsLetGoWhere, AreLetGo}
use Rattle.transaction_buffer.specs.Shelves.{Shelf}

-- a shelf whose point is one of those to visit or not, and still left to visit or not
abbrev pub IsStage : ℕ → Bool → Bool → Shelf → Shelf → Type 0
IsStage t true true old now = now ≡ old
IsStage t true false old now = IsLetGo t old now
IsStage t false true old now = ⊥
IsStage t false false old now = now ≡ old

abbrev pub AreStages : ℕ → ℕ → ℕ → List Shelf → List Shelf → Type 0
AreStages t points left old now = (i : ℕ) (d : Shelf) → i < length old
    → IsStage t (has_point (i + 1) points) (has_point (i + 1) left) (get_or old i d)
    (get_or now i d)

at_first : (t : ℕ) (b : Bool) (x : Shelf) → IsStage t b b x x
at_first t true x = refl
at_first t false x = refl

-- before the first point
pub stages_first : (t points : ℕ) (shelves : List Shelf) → AreStages t points points shelves shelves
stages_first t points shelves i d within =
    at_first t (has_point (i + 1) points) (get_or shelves i d)

at_visit : (t : ℕ) (b : Bool) (old now new : Shelf) → IsStage t b true old now → IsLetGo t now new
    → IsStage t b false old new
at_visit t true old now new stage gone = subst (λ x. IsLetGo t x new) stage gone
at_visit t false old now new stage gone = absurd stage

-- after one more point
pub stages_next : (t points left rest p k : ℕ) (old now : List Shelf) (d new : Shelf)
    → length old ≡ POINT_CELLS → length now ≡ POINT_CELLS → k + 1 ≡ p → k < POINT_CELLS
    → has_point p left ≡ true → IsWithout p left rest → IsLetGo t (get_or now k d) new
    → AreStages t points left old now → AreStages t points rest old (set now k new)
stages_next t points left rest p k old now d new count_old count_now place inside member without
    gone stages i e within =
    elim (cases_eq i k) [
      | inl here ↦
          let at : i + 1 ≡ p = omega arith in
          let left_here : has_point (i + 1) left ≡ true = ap (λ n. has_point n left) at ∙ member in
          let same : (i + 1 == p) ≡ true = grind (arith, nat_tests) in
          let rest_here : has_point (i + 1) rest ≡ false =
          without (i + 1) (omega arith) (omega arith)
          ∙ ap (λ b. not b && has_point (i + 1) left) same in
          let is : get_or (set now k new) i e ≡ new =
          get_or-set_at now k i new e here (omega arith) in
          let was : IsStage t (has_point (i + 1) points) true (get_or old i d) (get_or now i d) =
          subst (λ b. IsStage t (has_point (i + 1) points) b (get_or old i d) (get_or now i d))
          left_here (stages i d within) in
          let goes : IsLetGo t (get_or now i d) new =
          subst (λ n. IsLetGo t (get_or now n d) new) (sym here) gone in
          let one_old : get_or old i d ≡ get_or old i e = get_or_default old i d e within in
          subst (λ b. IsStage t (has_point (i + 1) points) b (get_or old i e)
          (get_or (set now k new) i e))
          (sym rest_here)
          (subst (λ x. IsStage t (has_point (i + 1) points) false (get_or old i e) x) (sym is)
          (subst (λ x. IsStage t (has_point (i + 1) points) false x new) one_old
          (at_visit t (has_point (i + 1) points) (get_or old i d) (get_or now i d) new was goes)))
      | inr other ↦
          let apart : (i + 1 == p) ≡ false = grind (arith, nat_tests) in
          let rest_here : has_point (i + 1) rest ≡ has_point (i + 1) left =
          without (i + 1) (omega arith) (omega arith)
          ∙ ap (λ b. not b && has_point (i + 1) left) apart in
          subst (λ b. IsStage t (has_point (i + 1) points) b (get_or old i e)
          (get_or (set now k new) i e))
          (sym rest_here)
          (subst (λ x. IsStage t (has_point (i + 1) points) (has_point (i + 1) left)
          (get_or old i e) x)
          (sym (get_or-set_other now k i new e other)) (stages i e within))
    ]

at_end : (t : ℕ) (b : Bool) (old now : Shelf) → IsStage t b false old now → IsLetGoWhere t b old now
at_end t true old now stage = stage
at_end t false old now stage = stage

-- after the last point
pub stages_last : (t points left : ℕ) (old now : List Shelf) → length old ≡ POINT_CELLS
    → NoneBefore (POINTS + 1) left → AreStages t points left old now → AreLetGo t points old now
stages_last t points left old now count none stages i d within =
    at_end t (has_point (i + 1) points) (get_or old i d) (get_or now i d)
    (subst (λ b. IsStage t (has_point (i + 1) points) b (get_or old i d) (get_or now i d))
    (none (i + 1) (omega arith) (omega arith)) (stages i d within))
