-- Finite maps from numbers to lists: what stands under a number after a change, and each value
-- changed.
use Rattle.std.proofs.Common.{◌≡◌, ℕ, ◌<◌, ◌==◌, ◌&&◌, T, Bool, true, false, cond, List, [], ◌∷◌}
use Rattle.std.proofs.Common.{map, Option, option_map, Some, None, unwrap_or, Less, refl, sym, ap}
use Rattle.std.proofs.Common.{subst, ◌∙◌, arith}
use Rattle.std.proofs.lemmas.Bool.Decides.{nat_tests}
use Rattle.std.specs.declared.cmp.Ordering.{Ordering}
use Rattle.std.specs.declared.cmp.Ordering.TheVariants.{Equal, Greater}
use Rattle.std.specs.Ordering.{nat_cmp, eq_by_cmp, is_lt}
use Rattle.std.specs.Cmp.{nat_cmp_total, unsigned_tied}
use Rattle.std.proofs.lemmas.Cmp.{ranked}
use Rattle.std.specs.FinMap as finite
use Rattle.std.specs.FinMap.{FinMap, find, entries, entries_sorted, same_map, get-entries}
use Rattle.std.specs.FinMap.{get-from_entries, get-insert, get-from_sorted, entries-from_sorted}
use Rattle.std.specs.FinMap.{nat_cmp-IsAntisymmetric, is_sorted}
use Rattle.std.specs.FinMap.Entries.{below_all}

spread : {A : Type 0} (b : Bool) (xs : List A) (o : Option (List A))
    → unwrap_or (cond b (Some xs) o) [] ≡ cond b xs (unwrap_or o [])
spread true xs o = refl
spread false xs o = refl

-- the list under a number, after one was put there
pub at_insert : {A : Type 0} (m : FinMap nat_cmp (List A)) (p : ℕ) (xs : List A) (q : ℕ)
    → unwrap_or (finite.get (finite.insert m p xs) q) []
    ≡ cond (q == p) xs (unwrap_or (finite.get m q) [])
at_insert {A} m p xs q =
    ap (λ (o : Option (List A)). unwrap_or o [])
    (get-insert nat_cmp_total m p xs q
    ∙ ap (λ (b : Bool). cond b (Some xs) (finite.get m q)) (unsigned_tied q p))
    ∙ spread (q == p) xs (finite.get m q)

-- a value put where it stands
pub insert_same : {X : Type 0} (m : FinMap nat_cmp X) (p : ℕ) (x : X) → finite.get m p ≡ Some x
    → finite.insert m p x ≡ m
insert_same {X} m p x is = same_map nat_cmp_total nat_cmp-IsAntisymmetric _ _
    (λ q. get-insert nat_cmp_total m p x q ∙ by_test q (eq_by_cmp nat_cmp q p) refl)
  where
    by_test : (q : ℕ) (b : Bool) → eq_by_cmp nat_cmp q p ≡ b
        → cond b (Some x) (finite.get m q) ≡ finite.get m q
    by_test q true at = let same : q ≡ p =
        (let e : (q == p) ≡ true = sym (unsigned_tied q p) ∙ at in grind (arith, nat_tests)) in sym
        is ∙ ap (finite.get m) (sym same)
    by_test q false at = refl

-- the entries of a map that is made from a list in order
pub entries_of_sorted : {X : Type 0} (es : List (ℕ × X)) → T (is_sorted nat_cmp es)
    → entries (finite.from_entries {R = nat_cmp} es) ≡ es
entries_of_sorted es rises =
    ap entries (same_map nat_cmp_total nat_cmp-IsAntisymmetric _ _
    (λ q. get-from_entries nat_cmp_total es q ∙ sym (get-from_sorted nat_cmp es q rises)))
    ∙ entries-from_sorted nat_cmp es rises

module _ {X Y : Type 0} (change : X → Y) where
  -- each value changed
  abbrev pub each : List (ℕ × X) → List (ℕ × Y)
  each es = map (λ (e : ℕ × X). (e.0, change e.1)) es

  below_each : (x : ℕ) (es : List (ℕ × X)) → below_all nat_cmp x (each es) ≡ below_all nat_cmp x es
  below_each x [] = refl
  below_each x (e ∷ es) = ap (λ (b : Bool). is_lt (nat_cmp x e.0) && b) (below_each x es)

  sorted_each : (es : List (ℕ × X)) → is_sorted nat_cmp (each es) ≡ is_sorted nat_cmp es
  sorted_each [] = refl
  sorted_each (e ∷ es) = ap (λ (b : Bool). b && is_sorted nat_cmp (each es)) (below_each e.0 es)
      ∙ ap (λ (b : Bool). below_all nat_cmp e.0 es && b) (sorted_each es)

  pub entries_each : (m : FinMap nat_cmp X)
      → entries (finite.from_entries {R = nat_cmp} (each (entries m))) ≡ each (entries m)
  entries_each m = entries_of_sorted (each (entries m))
      (subst T (sym (sorted_each (entries m))) (entries_sorted m))

  find_each : (q : ℕ) (es : List (ℕ × X))
      → find nat_cmp q (each es) ≡ option_map change (find nat_cmp q es)
  find_each q [] = refl
  find_each q (e ∷ es) = by_test (eq_by_cmp nat_cmp q e.0) (find_each q es)
    where
      by_test : (b : Bool) → find nat_cmp q (each es) ≡ option_map change (find nat_cmp q es)
          → cond b (Some (change e.1)) (find nat_cmp q (each es))
          ≡ option_map change (cond b (Some e.1) (find nat_cmp q es))
      by_test true rest = refl
      by_test false rest = rest

  pub get_each : (m : FinMap nat_cmp X) (q : ℕ)
      → finite.get (finite.from_entries {R = nat_cmp} (each (entries m))) q
      ≡ option_map change (finite.get m q)
  get_each m q = get-from_entries nat_cmp_total (each (entries m)) q ∙ find_each q (entries m)
      ∙ ap (option_map change) (sym (get-entries m q))

pub first_half : (a b : Bool) → T (a && b) → T a
first_half true b p = tt
first_half false b p = absurd p

pub second_half : (a b : Bool) → T (a && b) → T b
second_half true b p = p
second_half false b p = absurd p

less : (x y : ℕ) (o : Ordering) → o ≡ nat_cmp x y → T (is_lt o) → x < y
less x y Less is lt = ranked x y Less is
less x y Equal is lt = absurd lt
less x y Greater is lt = absurd lt

apart : (q p : ℕ) → q < p → eq_by_cmp nat_cmp q p ≡ false
apart q p lt = unsigned_tied q p ∙ grind (arith, nat_tests)

-- a number before the first of a list in order isn't found in it
pub find_before : {X : Type 0} (p x : ℕ) (es : List (ℕ × X)) → p < x → T (below_all nat_cmp x es)
    → find nat_cmp p es ≡ None
find_before p x [] lt above = refl
find_before {X} p x (e ∷ es) lt above =
    let next : x < e.0 = less x e.0 (nat_cmp x e.0) refl
    (first_half (is_lt (nat_cmp x e.0)) (below_all nat_cmp x es) above) in
    ap (λ (b : Bool). cond b (Some e.1) (find nat_cmp p es)) (apart p e.0 (omega arith))
    ∙ find_before p x es lt (second_half (is_lt (nat_cmp x e.0)) (below_all nat_cmp x es) above)
