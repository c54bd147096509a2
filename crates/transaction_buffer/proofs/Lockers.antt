-- Which till has locked what: what the two unpaid places of a shelf tell of all its sales, and what
-- each change of a shelf does to the tills' sets.
use Rattle.std.proofs.Common.{◌≡◌, ℕ, ◌+◌, ◌<◌, ◌==◌, ◌&&◌, not, Bool, true, false, cond}
use Rattle.std.proofs.Common.{if◌then◌else◌, List, [], ◌∷◌, length, get_or, map, Option, option_map}
use Rattle.std.proofs.Common.{option_and_then, Some, None, slice_get, inl, inr, refl, sym, ap}
use Rattle.std.proofs.Common.{subst, ◌∙◌, arith, length-set}
use Rattle.std.proofs.Math.ListN.{set}
use Rattle.std.proofs.lemmas.Bool.{cases_eq}
use Rattle.std.proofs.lemmas.Bool.Decides.{nat_tests}
use Rattle.std.proofs.lemmas.Grind.{get_or-set_at}
use Rattle.std.proofs.lemmas.List.{get_or-set_other, get_or-map, length-map, same_lists}
use Rattle.std.proofs.lemmas.Option.{slice_get-map, slice_get-get_or}
use Rattle.site_base.specs.declared.limits.TheConstants.{POINT_CELLS, TILL_CELLS}
use Rattle.site_base.specs.PointSets.{has_point}
use Rattle.transaction_buffer.specs.declared.locked_points.Lockers.{Lockers}
use Rattle.transaction_buffer.specs.declared.locked_points.LockedPoints.{LockedPoints}
use Rattle.transaction_buffer.specs.declared.standing.Standing.{Standing}
use Rattle.transaction_buffer.specs.declared.standing.Standing.TheVariants.{Payable, LockedBy}
use Rattle.transaction_buffer.specs.declared.standing.Standing.TheVariants.{ClearedBy}
use Rattle.transaction_buffer.specs.KeptSales.{AreNoted}
use Rattle.transaction_buffer.specs.SignOffs.{IsLetGo, IsLetGoWhere, AreLetGo}
use Rattle.transaction_buffer.specs.LockedSales.{locker_at, lockers_at, no_lockers, is_locker}
use Rattle.transaction_buffer.specs.LockedSales.{locker_without, lockers_without, AreTold}
use Rattle.transaction_buffer.specs.LockedSales.{IsForgotten}
use Rattle.transaction_buffer.specs.LockedSales.{IsNoted, KeepsOthers}
use Rattle.transaction_buffer.specs.Sales.{Sale}
use Rattle.transaction_buffer.specs.Shelves.{Shelf, rooms_on}
use Rattle.transaction_buffer.specs.TransactionTable.{is_locked_by, unlock_all_of, locker}
use Rattle.transaction_buffer.specs.UnpaidPlaces.{AreUnpaid, IsLetGoAt}
use Rattle.transaction_buffer.proofs.TwoPlaces.{let_go_both}

same_number : (n m : ℕ) → (n == m) ≡ true → n ≡ m
same_number n m is = grind (arith, nat_tests)

-- ---- what the two places tell

locked_is : (t : ℕ) (standing : Standing) → is_locked_by t standing ≡ is_locker t (locker standing)
locked_is t Payable = refl
locked_is t (LockedBy u) = refl
locked_is t (ClearedBy u shift) = refl

stays : (t : ℕ) (x : Sale) → is_locker t (locker x.standing) ≡ false → unlock_all_of t x ≡ x
stays t x isnt = ap (λ (b : Bool). cond b (record x { standing = Payable }) x)
    (locked_is t x.standing ∙ isnt)

stays_at : (t : ℕ) (a : Option ℕ) (xs : List Sale) → is_locker t (locker_at a xs) ≡ false
    → IsLetGoAt t a xs xs
stays_at t None xs isnt = record { long = refl; each = λ i d within. refl }
stays_at t (Some k) xs isnt = record {
  long = refl;
  each = λ i d within. by_test i d within (k == i) refl;
}
  where
    by_test : (i : ℕ) (d : Sale) → i < length xs → (b : Bool) → (k == i) ≡ b
        → get_or xs i d ≡ (if b then unlock_all_of t (get_or xs i d) else get_or xs i d)
    by_test i d within true at =
        let here : slice_get xs k ≡ Some (get_or xs i d) =
        ap (slice_get xs) (same_number k i at) ∙ slice_get-get_or xs i d within in
        sym (stays t (get_or xs i d)
        (sym (ap (λ (o : Option Sale). is_locker t (option_and_then (λ x. locker x.standing) o))
        here)
        ∙ isnt))
    by_test i d within false at = refl

pub told : (xs : List Sale) (a b : Option ℕ) → AreUnpaid xs a b → AreTold xs (lockers_at a b xs)
told xs a b are t one other =
    sym (let_go_both t xs xs xs a b are (stays_at t a xs one) (stays_at t b xs other))

-- ---- a till that lets go

let_go_again : (t : ℕ) (x : Sale) → unlock_all_of t (unlock_all_of t x) ≡ unlock_all_of t x
let_go_again t x = by_test (is_locked_by t x.standing) refl
  where
    by_test : (b : Bool) → is_locked_by t x.standing ≡ b
        → unlock_all_of t (cond b (record x { standing = Payable }) x)
        ≡ cond b (record x { standing = Payable }) x
    by_test true is = refl
    by_test false is = ap (λ (b : Bool). cond b (record x { standing = Payable }) x) is

all_again : (t : ℕ) (xs : List Sale)
    → map (unlock_all_of t) (map (unlock_all_of t) xs) ≡ map (unlock_all_of t) xs
all_again t [] = refl
all_again t (x ∷ xs) =
    ap (λ (y : Sale). y ∷ map (unlock_all_of t) (map (unlock_all_of t) xs)) (let_go_again t x)
    ∙ ap (λ (ys : List Sale). unlock_all_of t x ∷ ys) (all_again t xs)

was_locker : (t : ℕ) (standing : Standing) → is_locked_by t standing ≡ true
    → locker_without t (locker standing) ≡ None
was_locker t Payable is = refl
was_locker t (LockedBy u) is = ap (λ (b : Bool). cond b None (Some u)) is
was_locker t (ClearedBy u shift) is = refl

wasn't_locker : (t : ℕ) (standing : Standing) → is_locked_by t standing ≡ false
    → locker_without t (locker standing) ≡ locker standing
wasn't_locker t Payable isnt = refl
wasn't_locker t (LockedBy u) isnt = ap (λ (b : Bool). cond b None (Some u)) isnt
wasn't_locker t (ClearedBy u shift) isnt = refl

locker_let_go : (t : ℕ) (x : Sale)
    → locker (unlock_all_of t x).standing ≡ locker_without t (locker x.standing)
locker_let_go t x = by_test (is_locked_by t x.standing) refl
  where
    by_test : (b : Bool) → is_locked_by t x.standing ≡ b
        → locker (cond b (record x { standing = Payable }) x).standing
        ≡ locker_without t (locker x.standing)
    by_test true is = sym (was_locker t x.standing is)
    by_test false is = sym (wasn't_locker t x.standing is)

-- the lockers once a till has let go
place_let_go : (t : ℕ) (a : Option ℕ) (xs : List Sale)
    → locker_at a (map (unlock_all_of t) xs) ≡ locker_without t (locker_at a xs)
place_let_go t None xs = refl
place_let_go t (Some k) xs =
    ap (option_and_then (λ (x : Sale). locker x.standing)) (slice_get-map (unlock_all_of t) xs k)
    ∙ by_sale (slice_get xs k)
  where
    by_sale : (o : Option Sale)
        → option_and_then (λ (x : Sale). locker x.standing) (option_map (unlock_all_of t) o)
        ≡ locker_without t (option_and_then (λ (x : Sale). locker x.standing) o)
    by_sale None = refl
    by_sale (Some x) = locker_let_go t x

pub lockers_let_go : (t : ℕ) (a b : Option ℕ) (xs : List Sale)
    → lockers_at a b (map (unlock_all_of t) xs) ≡ lockers_without t (lockers_at a b xs)
lockers_let_go t a b xs = rw (place_let_go t a xs, place_let_go t b xs) refl

without_again : (t : ℕ) (o : Option ℕ) → locker_without t (locker_without t o) ≡ locker_without t o
without_again t None = refl
without_again t (Some u) = by_test (u == t) refl
  where
    by_test : (b : Bool) → (u == t) ≡ b
        → locker_without t (cond b None (Some u)) ≡ cond b None (Some u)
    by_test true is = refl
    by_test false isnt = ap (λ (b : Bool). cond b None (Some u)) isnt

without_none : (t : ℕ) (o : Option ℕ) → is_locker t o ≡ false → locker_without t o ≡ o
without_none t None isnt = refl
without_none t (Some u) isnt = ap (λ (b : Bool). cond b None (Some u)) isnt

-- another till's locks stay
without_other : (u t : ℕ) (o : Option ℕ)
    → (not (u == t) && is_locker u o) ≡ is_locker u (locker_without t o)
without_other u t None = by_test (u == t)
  where
    by_test : (b : Bool) → (not b && false) ≡ false
    by_test true = refl
    by_test false = refl
without_other u t (Some v) = by_test (v == t) refl
  where
    by_test : (b : Bool) → (v == t) ≡ b
        → (not (u == t) && (v == u)) ≡ is_locker u (cond b None (Some v))
    by_test true is = by_tests (u == t) refl (v == u) refl
      where
        by_tests : (b : Bool) → (u == t) ≡ b → (c : Bool) → (v == u) ≡ c → (not b && c) ≡ false
        by_tests true p c q = refl
        by_tests false p true q = absurd (grind (arith, nat_tests))
        by_tests false p false q = refl
    by_test false isnt = by_tests (u == t) refl (v == u) refl
      where
        by_tests : (b : Bool) → (u == t) ≡ b → (c : Bool) → (v == u) ≡ c → (not b && c) ≡ c
        by_tests true p true q = absurd (grind (arith, nat_tests))
        by_tests true p false q = refl
        by_tests false p c q = refl

-- ---- the tills' sets

-- one shelf and one point of the sets are changed
pub noted_change : (shelves : List Shelf) (i : ℕ) (new : Shelf) (was now : LockedPoints)
    → AreNoted shelves was → i < length shelves → AreTold new.sales new.lockers
    → IsNoted (i + 1) new.lockers now → KeepsOthers (i + 1) was now
    → AreNoted (set shelves i new) now
noted_change shelves i new was now are inside told_new noted_new keeps = record {
  cells = length-set shelves i new ∙ are.cells;
  each = λ j d within. elim (cases_eq j i) [
    | inl here ↦
        let is : get_or (set shelves i new) j d ≡ new =
        get_or-set_at shelves i j new d here inside in
        subst (λ (x : Shelf). IsNoted (j + 1) x.lockers now) (sym is)
        (subst (λ n. IsNoted (n + 1) new.lockers now) (sym here) noted_new)
    | inr other ↦
        let there : get_or (set shelves i new) j d ≡ get_or shelves j d =
        get_or-set_other shelves i j new d other in
        let old : j < length shelves = omega (arith, length-set shelves i new) in
        subst (λ (x : Shelf). IsNoted (j + 1) x.lockers now) (sym there)
        (λ k till.
        let kept = keeps (j + 1) k (λ e. other (omega arith)) (omega arith)
        (omega (arith, are.cells)) till in
        let before = are.each j d old k till in
        (kept.0 ∙ before.0, kept.1 ∙ before.1))
  ];
  told = λ j d within. elim (cases_eq j i) [
    | inl here ↦
        subst (λ (x : Shelf). AreTold x.sales x.lockers)
        (sym (get_or-set_at shelves i j new d here inside)) told_new
    | inr other ↦
        subst (λ (x : Shelf). AreTold x.sales x.lockers)
        (sym (get_or-set_other shelves i j new d other))
        (are.told j d (omega (arith, length-set shelves i new)))
  ];
}

-- what the sets have of one point
pub noted_there : (shelves : List Shelf) (i p : ℕ) (d : Shelf) (locked : LockedPoints)
    (before : Lockers) → AreNoted shelves locked → i + 1 ≡ p → i < length shelves
    → before ≡ (get_or shelves i d).lockers → IsNoted p before locked
noted_there shelves i p d locked before are place inside is =
    subst (λ n. IsNoted n before locked) place
    (subst (λ l. IsNoted (i + 1) l locked) (sym is) (are.each i d inside))

-- one shelf is changed, and noted
pub noted_after : (shelves : List Shelf) (i p : ℕ) (new : Shelf) (was now : LockedPoints)
    (after : Lockers) → AreNoted shelves was → i + 1 ≡ p → i < length shelves
    → after ≡ new.lockers → AreTold new.sales new.lockers → IsNoted p after now
    → KeepsOthers p was now → AreNoted (set shelves i new) now
noted_after shelves i p new was now after are place inside is told_new noted_new keeps =
    noted_change shelves i new was now are inside told_new
    (subst (λ n. IsNoted n new.lockers now) (sym place)
    (subst (λ l. IsNoted p l now) is noted_new))
    (subst (λ n. KeepsOthers n was now) (sym place) keeps)

-- one shelf has the same sales and lockers as before
pub noted_same : (shelves : List Shelf) (i : ℕ) (new d : Shelf) (locked : LockedPoints)
    → AreNoted shelves locked → i < length shelves → new.sales ≡ (get_or shelves i d).sales
    → new.lockers ≡ (get_or shelves i d).lockers → AreNoted (set shelves i new) locked
noted_same shelves i new d locked are inside sales lockers =
    noted_change shelves i new locked locked are inside
    (subst (λ xs. AreTold xs new.lockers) (sym sales)
    (subst (λ l. AreTold (get_or shelves i d).sales l) (sym lockers) (are.told i d inside)))
    (subst (λ l. IsNoted (i + 1) l locked) (sym lockers) (are.each i d inside))
    (λ q k other low high till. (refl, refl))

-- ---- a sign-off

-- the shelf of a point that is let go where the till has locked a sale at either place
let_go_twice : (t : ℕ) (x y z : Shelf) (b c : Bool) → is_locker t x.lockers.one ≡ b
    → is_locker t x.lockers.other ≡ c → AreTold x.sales x.lockers → IsLetGoWhere t b x y
    → IsLetGoWhere t c y z → IsLetGo t x z
let_go_twice t x y z true true p q tells first second = record {
  sales = second.sales ∙ ap (map (unlock_all_of t)) first.sales ∙ all_again t x.sales;
  room = second.room ∙ first.room;
  lockers = second.lockers ∙ ap (lockers_without t) first.lockers
      ∙ rw (without_again t x.lockers.one, without_again t x.lockers.other) refl;
  told = second.told;
}
let_go_twice t x y z true false p q tells first second = subst (IsLetGo t x) (sym second) first
let_go_twice t x y z false true p q tells first second = subst (λ w. IsLetGo t w z) first second
let_go_twice t x y z false false p q tells first second =
    subst (IsLetGo t x) (sym (second ∙ first)) (record {
      sales = sym (tells t p q);
      room = refl;
      lockers = rw (without_none t x.lockers.one p, without_none t x.lockers.other q) refl;
      told = tells;
    })

module _ (t k one other : ℕ) (first second third : List Shelf) (was now : LockedPoints)
    (are : AreNoted first was) (cell : k + 1 ≡ t) (till : k < TILL_CELLS)
    (is_one : one ≡ get_or was.one k 0) (is_other : other ≡ get_or was.other k 0)
    (middle : length second ≡ POINT_CELLS) (end : length third ≡ POINT_CELLS)
    (at_one : AreLetGo t one first second) (at_other : AreLetGo t other second third)
    (forgotten : IsForgotten t was now) where
  -- each shelf
  pub shelf_let_go : (i : ℕ) (d : Shelf) → i < length first
      → IsLetGo t (get_or first i d) (get_or third i d)
  shelf_let_go i d within =
      let noted = are.each i d within k till in
      let x : Shelf = get_or first i d in
      let his_one : has_point (i + 1) one ≡ is_locker t x.lockers.one =
      ap (has_point (i + 1)) is_one ∙ noted.0 ∙ ap (λ n. is_locker n x.lockers.one) cell in
      let his_other : has_point (i + 1) other ≡ is_locker t x.lockers.other =
      ap (has_point (i + 1)) is_other ∙ noted.1 ∙ ap (λ n. is_locker n x.lockers.other) cell in
      let_go_twice t x (get_or second i d) (get_or third i d) (is_locker t x.lockers.one)
      (is_locker t x.lockers.other) refl refl (are.told i d within)
      (subst (λ b. IsLetGoWhere t b x (get_or second i d)) his_one (at_one i d within))
      (subst (λ b. IsLetGoWhere t b (get_or second i d) (get_or third i d)) his_other
      (at_other i d (omega (arith, are.cells))))

  pub sales_let_go : map (λ (x : Shelf). x.sales) third
      ≡ map (map (unlock_all_of t)) (map (λ (x : Shelf). x.sales) first)
  sales_let_go =
      let count_third : length (map (λ (x : Shelf). x.sales) third) ≡ length third =
      length-map third (λ (x : Shelf). x.sales) in
      let count_first : length (map (λ (x : Shelf). x.sales) first) ≡ length first =
      length-map first (λ (x : Shelf). x.sales) in
      same_lists (map (λ (x : Shelf). x.sales) third)
      (map (map (unlock_all_of t)) (map (λ (x : Shelf). x.sales) first))
      (omega (
        arith,
        count_third,
        count_first,
        are.cells,
        length-map (map (λ (x : Shelf). x.sales) first) (map (unlock_all_of t)),
      ))
      (λ i d within.
      let inside : i < length first = omega (arith, count_third, are.cells) in
      let e : Shelf = record { sales = d; room = 0; lockers = no_lockers } in
      get_or-map (λ (x : Shelf). x.sales) third i e d (omega (arith, are.cells))
      ∙ (shelf_let_go i e inside).sales
      ∙ sym (get_or-map (map (unlock_all_of t)) (map (λ (x : Shelf). x.sales) first) i d d
      (omega (arith, count_first))
      ∙ ap (map (unlock_all_of t)) (get_or-map (λ (x : Shelf). x.sales) first i e d inside)))

  pub rooms_let_go : rooms_on third ≡ rooms_on first
  rooms_let_go =
      let count_third : length (rooms_on third) ≡ length third =
      length-map third (λ (x : Shelf). x.room) in
      let count_first : length (rooms_on first) ≡ length first =
      length-map first (λ (x : Shelf). x.room) in
      same_lists (rooms_on third) (rooms_on first)
      (omega (arith, count_third, count_first, are.cells))
      (λ i d within.
      let inside : i < length first = omega (arith, count_third, are.cells) in
      let e : Shelf = record { sales = []; room = d; lockers = no_lockers } in
      get_or-map (λ (x : Shelf). x.room) third i e d (omega (arith, are.cells))
      ∙ (shelf_let_go i e inside).room
      ∙ sym (get_or-map (λ (x : Shelf). x.room) first i e d inside))

  pub noted_let_go : AreNoted third now
  noted_let_go = record {
    cells = end;
    each = λ i d within m cells.
        let inside : i < length first = omega (arith, are.cells) in
        let x : Shelf = get_or first i d in
        let gone : (get_or third i d).lockers ≡ lockers_without t x.lockers =
        (shelf_let_go i d inside).lockers in
        let before = are.each i d inside m cells in
        let after = forgotten (i + 1) m cells in (
          after.0 ∙ ap (λ b. not (m + 1 == t) && b) before.0
              ∙ without_other (m + 1) t x.lockers.one
              ∙ ap (λ (l : Lockers). is_locker (m + 1) l.one) (sym gone),
          after.1 ∙ ap (λ b. not (m + 1 == t) && b) before.1
              ∙ without_other (m + 1) t x.lockers.other
              ∙ ap (λ (l : Lockers). is_locker (m + 1) l.other) (sym gone),
        );
    told = λ i d within. (shelf_let_go i d (omega (arith, are.cells))).told;
  }
