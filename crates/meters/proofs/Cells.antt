-- The places of the nozzles, cell by cell, as a walk over the nozzles fills them.
use Rattle.std.proofs.Common.{◌≡◌, ◌≢◌, ℕ, suc, ◌+◌, ◌<◌, ◌≤◌, Bool, true, false, List, [], ◌∷◌}
use Rattle.std.proofs.Common.{◌++◌, length, get_or, Option, Some, None, is_some, option_map}
use Rattle.std.proofs.Common.{if◌then◌else◌, refl, sym, ap, ◌∙◌, arith}
use Rattle.std.proofs.Math.ListN.{set}
use Rattle.std.proofs.lemmas.Bool.{false≢true}
use Rattle.std.proofs.lemmas.Grind.{get_or-set_at, common_steps}
use Rattle.std.proofs.lemmas.List.{get_or-set_other}
use Rattle.site_base.specs.declared.limits.TheConstants.{NOZZLES, POINTS}
use Rattle.meters.specs.Nozzles.{Nozzle, is_nozzle}
use Rattle.meters.specs.Places.{place_in, nozzle_cell, ArePlaces}

-- an option that is nothing, and one that is something
pub is_nothing : (o : Option ℕ) → is_some o ≡ false → o ≡ None
is_nothing None is = refl
is_nothing (Some i) is = absurd (false≢true (sym is))

something : (o : Option ℕ) → is_some o ≡ true → (i : ℕ) × (o ≡ Some i)
something None is = absurd (false≢true is)
something (Some i) is = (i, refl)

-- the place in two lists, one behind the other
abbrev pub or_place : Option ℕ → Option ℕ → Option ℕ
or_place None next = next
or_place (Some i) next = Some i

pub place_in-push : (p n : ℕ) (xs : List Nozzle) (x : Nozzle) → place_in p n (xs ++ x ∷ [])
    ≡ or_place (place_in p n xs) (if is_nozzle p n x then Some (length xs) else None)
place_in-push p n [] x = refl
place_in-push p n (y ∷ ys) x = by_test (is_nozzle p n y) refl (place_in-push p n ys x)
  where
    further : (o : Option ℕ) (b : Bool) (k : ℕ)
        → option_map (λ i. i + 1) (or_place o (if b then Some k else None))
        ≡ or_place (option_map (λ i. i + 1) o) (if b then Some (suc k) else None)
    further None true k = ap (λ (i : ℕ). Some i) (omega arith)
    further None false k = refl
    further (Some i) b k = refl

    by_test : (b : Bool) → is_nozzle p n y ≡ b
        → place_in p n (ys ++ x ∷ [])
        ≡ or_place (place_in p n ys) (if is_nozzle p n x then Some (length ys) else None)
        → place_in p n ((y ∷ ys) ++ x ∷ [])
        ≡ or_place (place_in p n (y ∷ ys))
        (if is_nozzle p n x then Some (length (y ∷ ys)) else None)
    by_test true is rest = rw is refl
    by_test false is rest =
        rw (is, rest) (further (place_in p n ys) (is_nozzle p n x) (length ys))

or_none : (o : Option ℕ) → or_place o None ≡ o
or_none None = refl
or_none (Some i) = refl

-- the place of a nozzle among some and one more
module _ (xs : List Nozzle) (x : Nozzle) (cells : List (Option ℕ)) (c : ℕ)
    (are : ArePlaces xs cells) (cell : c ≡ nozzle_cell x.point x.number)
    (point : (1 ≤ x.point) × (x.point ≤ POINTS)) (number : (1 ≤ x.number) × (x.number ≤ NOZZLES))
    (within : c < length cells) where
  same_cell : (p n : ℕ) → is_nozzle p n x ≡ true → nozzle_cell p n ≡ c
  same_cell p n is =
      let point_is : x.point ≡ p = grind (arith, common_steps) in
      let number_is : x.number ≡ n = grind (arith, common_steps) in
      omega (arith, cell, point_is, number_is)

  other_cell : (p n : ℕ) → 1 ≤ p → 1 ≤ n → n ≤ NOZZLES → is_nozzle p n x ≡ false
      → nozzle_cell p n ≢ c
  other_cell p n low from most isnt same =
      let point_is : x.point ≡ p = omega (arith, cell, same, point, number) in
      let number_is : x.number ≡ n = omega (arith, cell, same, point, number) in
      let is : is_nozzle p n x ≡ true = grind (arith, common_steps) in
      false≢true (sym isnt ∙ is)

  -- a cell that was empty tells the place of the one more
  pub filled : get_or cells c None ≡ None
      → ArePlaces (xs ++ x ∷ []) (set cells c (Some (length xs)))
  filled none p n low high from most =
      by_test (is_nozzle p n x) refl
    where
      by_test : (b : Bool) → is_nozzle p n x ≡ b
          → get_or (set cells c (Some (length xs))) (nozzle_cell p n) None
          ≡ place_in p n (xs ++ x ∷ [])
      by_test true is =
          let here : nozzle_cell p n ≡ c = same_cell p n is in
          let before : place_in p n xs ≡ None =
          sym (are p n low high from most) ∙ ap (λ i. get_or cells i None) here ∙ none in
          get_or-set_at cells c (nozzle_cell p n) (Some (length xs)) None here within
          ∙ sym (place_in-push p n xs x ∙ rw (before, is) refl)
      by_test false is =
          get_or-set_other cells c (nozzle_cell p n) (Some (length xs)) None
          (other_cell p n low from most is)
          ∙ are p n low high from most
          ∙ sym (place_in-push p n xs x ∙ rw is (or_none (place_in p n xs)))

  left_some : (i : ℕ) → get_or cells c None ≡ Some i → ArePlaces (xs ++ x ∷ []) cells
  left_some i some p n low high from most = by_test (is_nozzle p n x) refl
    where
      by_test : (b : Bool) → is_nozzle p n x ≡ b
          → get_or cells (nozzle_cell p n) None ≡ place_in p n (xs ++ x ∷ [])
      by_test true is =
          let here : nozzle_cell p n ≡ c = same_cell p n is in
          let found : get_or cells (nozzle_cell p n) None ≡ Some i =
          ap (λ j. get_or cells j None) here ∙ some in
          let before : place_in p n xs ≡ Some i = sym (are p n low high from most) ∙ found in
          found ∙ sym (place_in-push p n xs x ∙ rw before refl)
      by_test false is =
          are p n low high from most
          ∙ sym (place_in-push p n xs x ∙ rw is (or_none (place_in p n xs)))

  -- a cell that wasn't stays
  pub left : is_some (get_or cells c None) ≡ true → ArePlaces (xs ++ x ∷ []) cells
  left some =
      let there = something (get_or cells c None) some in
      left_some there.0 there.1
