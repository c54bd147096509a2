-- The index of holds by till: what a hold taken or given back does to it.
use Rattle.std.proofs.Common.{◌≡◌, ◌≢◌, ℕ, ◌+◌, ◌<◌, true, false, ◌==◌, List, length, get_or}
use Rattle.std.proofs.Common.{Option, Some, None, inl, inr, refl, sym, ap, ◌∙◌, arith, length-set}
use Rattle.std.proofs.Math.ListN.{set}
use Rattle.std.proofs.lemmas.Bool.{cases_eq}
use Rattle.std.proofs.lemmas.Bool.Decides.{nat_tests}
use Rattle.std.proofs.lemmas.Grind.{get_or-set_at}
use Rattle.std.proofs.lemmas.List.{get_or-set_other}
use Rattle.site_base.specs.declared.limits.TheConstants.{POINT_CELLS, TILL_CELLS}
use Rattle.site_base.specs.PointSets.{has_point, IsWith, IsWithout}
use Rattle.fuelling_point.specs.Holds.{is_free_for, is_held_by, AreIndexed}

same_number : (q p : ℕ) → q ≡ p → (q == p) ≡ true
same_number q p same = grind (arith, nat_tests)

other_number : (q p : ℕ) → q ≢ p → (q == p) ≡ false
other_number q p other = grind (arith, nat_tests)

-- a point that is free for a till is held by no other
held_by_none_else : (t u : ℕ) (holder : Option ℕ) → is_free_for t holder ≡ true → u ≢ t
    → is_held_by u holder ≡ false
held_by_none_else t u None free other = refl
held_by_none_else t u (Some holder) free other = grind (arith, nat_tests)

module _ (holders : List (Option ℕ)) (held : List ℕ) (i k p t s : ℕ)
    (index : AreIndexed holders held) (place : i + 1 ≡ p) (cell : k + 1 ≡ t)
    (within : i < length holders) (inside : k < length held) where
  -- a point of which nothing was written, in a set that was written or not
  elsewhere : (holder : Option ℕ) (j m : ℕ) → j ≢ i → j < POINT_CELLS → m < TILL_CELLS
      → has_point (j + 1) (get_or held m 0)
      ≡ is_held_by (m + 1) (get_or (set holders i holder) j None)
  elsewhere holder j m there point till =
      index.same j m point till ∙ ap (is_held_by (m + 1))
      (sym (get_or-set_other holders i j holder None there))

  -- a till's set with the point that it takes
  taken_points : is_free_for t (get_or holders i None) ≡ true → IsWith p (get_or held k 0) s
      → (j m : ℕ) → j < POINT_CELLS → m < TILL_CELLS
      → has_point (j + 1) (get_or (set held k s) m 0)
      ≡ is_held_by (m + 1) (get_or (set holders i (Some t)) j None)
  taken_points free with j m point till =
      elim (cases_eq m k) [
        | inl his ↦
            let is : get_or (set held k s) m 0 ≡ s = get_or-set_at held k m s 0 his inside in
            ap (has_point (j + 1)) is ∙ with (j + 1) (omega arith) (omega arith)
            ∙ elim (cases_eq j i) [
              | inl here ↦
                  let is_p : (j + 1 == p) ≡ true = same_number (j + 1) p (omega arith) in
                  let is_t : (t == m + 1) ≡ true = same_number t (m + 1) (omega arith) in
                  rw (is_p, get_or-set_at holders i j (Some t) None here within, is_t) refl
              | inr there ↦
                  let isnt_p : (j + 1 == p) ≡ false = other_number (j + 1) p (omega arith) in
                  rw isnt_p (ap (λ x. has_point (j + 1) (get_or held x 0)) (sym his)
                  ∙ elsewhere (Some t) j m there point till)
            ]
        | inr other ↦
            let is : get_or (set held k s) m 0 ≡ get_or held m 0 =
            get_or-set_other held k m s 0 other in
            ap (has_point (j + 1)) is
            ∙ elim (cases_eq j i) [
              | inl here ↦
                  let isnt_t : (t == m + 1) ≡ false = other_number t (m + 1) (omega arith) in
                  index.same j m point till
                  ∙ ap (λ x. is_held_by (m + 1) (get_or holders x None)) here
                  ∙ held_by_none_else t (m + 1) (get_or holders i None) free (omega arith)
                  ∙ sym (ap (is_held_by (m + 1))
                  (get_or-set_at holders i j (Some t) None here within)
                  ∙ isnt_t)
              | inr there ↦ elsewhere (Some t) j m there point till
            ]
      ]

  -- a till's set without the point that it gives back
  freed_points : get_or holders i None ≡ Some t → IsWithout p (get_or held k 0) s
      → (j m : ℕ) → j < POINT_CELLS → m < TILL_CELLS
      → has_point (j + 1) (get_or (set held k s) m 0)
      ≡ is_held_by (m + 1) (get_or (set holders i None) j None)
  freed_points his_point without j m point till =
      elim (cases_eq m k) [
        | inl his ↦
            let is : get_or (set held k s) m 0 ≡ s = get_or-set_at held k m s 0 his inside in
            ap (has_point (j + 1)) is ∙ without (j + 1) (omega arith) (omega arith)
            ∙ elim (cases_eq j i) [
              | inl here ↦
                  let is_p : (j + 1 == p) ≡ true = same_number (j + 1) p (omega arith) in
                  rw (is_p, get_or-set_at holders i j None None here within) refl
              | inr there ↦
                  let isnt_p : (j + 1 == p) ≡ false = other_number (j + 1) p (omega arith) in
                  rw isnt_p (ap (λ x. has_point (j + 1) (get_or held x 0)) (sym his)
                  ∙ elsewhere None j m there point till)
            ]
        | inr other ↦
            let is : get_or (set held k s) m 0 ≡ get_or held m 0 =
            get_or-set_other held k m s 0 other in
            ap (has_point (j + 1)) is
            ∙ elim (cases_eq j i) [
              | inl here ↦
                  let isnt_t : (t == m + 1) ≡ false = other_number t (m + 1) (omega arith) in
                  index.same j m point till
                  ∙ ap (λ x. is_held_by (m + 1) (get_or holders x None)) here
                  ∙ ap (is_held_by (m + 1)) his_point ∙ isnt_t
                  ∙ sym (ap (is_held_by (m + 1)) (get_or-set_at holders i j None None here within))
              | inr there ↦ elsewhere None j m there point till
            ]
      ]

  pub taken : is_free_for t (get_or holders i None) ≡ true → IsWith p (get_or held k 0) s
      → AreIndexed (set holders i (Some t)) (set held k s)
  taken free with = record {
    cells = length-set holders i (Some t) ∙ index.cells;
    same = taken_points free with;
  }

  pub freed : get_or holders i None ≡ Some t → IsWithout p (get_or held k 0) s
      → AreIndexed (set holders i None) (set held k s)
  freed his_point without = record {
    cells = length-set holders i None ∙ index.cells;
    same = freed_points his_point without;
  }

-- what is no till's is nobody's
pub none_there : (holder : Option ℕ) → ((x : ℕ) → holder ≡ Some x → ⊥) → holder ≡ None
none_there None none = refl
none_there (Some x) none = absurd (none x refl)
