-- What the shelves of the points say of the sales, and what a change of one shelf changes.
use Rattle.std.proofs.Common.{◌≡◌, ◌≢◌, ℕ, zero, suc, ◌+◌, ◌-◌, ◌<◌, ◌≤◌, ◌==◌, Bool, true, false}
use Rattle.std.proofs.Common.{if◌then◌else◌, List, [], ◌∷◌, ◌++◌, length, get_or, map, Option, Some}
use Rattle.std.proofs.Common.{None, unwrap_or, inl, inr, refl, sym, ap, subst, ◌∙◌, arith}
use Rattle.std.proofs.Common.{length-set, get_or-set_same}
use Rattle.std.proofs.Math.ListN.{set}
use Rattle.std.proofs.lemmas.List.{map-set, get_or-map, set-get_or, length-map}
use Rattle.std.specs.FinMap as finite
use Rattle.site_base.specs.Cells.{entries_from}
use Rattle.site_base.proofs.Cells.{cell_read, cell_filled, entries_of_cells}
use Rattle.site_base.proofs.Numbering.{numbered_within, numbered_with_other, with_numbered_place}
use Rattle.site_base.specs.Members.{with_numbered}
use Rattle.std.proofs.lemmas.Bool.{cases_eq}
use Rattle.transaction_buffer.specs.Sales.{Sale, no_sales, sales_at, sale_in, with_in}
use Rattle.transaction_buffer.specs.TransactionTable.{unlock_all_of, after_sign_off}
use Rattle.transaction_buffer.specs.Sums.{sum_among, sum_over, sum_of}
use Rattle.transaction_buffer.specs.Rooms.{one_taken, room_at}
use Rattle.transaction_buffer.specs.Shelves.{Shelf, stock, sales_on, rooms_on, sum_on}

-- the cells in which the shelves' sales stand
abbrev cells_of : List Shelf → List (Option (List Sale))
cells_of shelves = map (λ (x : Shelf). stock x.sales) shelves

unstocked : (xs : List Sale) → unwrap_or (stock xs) [] ≡ xs
unstocked [] = refl
unstocked (x ∷ xs) = refl

within_cells : (shelves : List Shelf) (i : ℕ) → i < length shelves → i < length (cells_of shelves)
within_cells shelves i within = let count : length (cells_of shelves) ≡ length shelves =
    length-map shelves (λ (x : Shelf). stock x.sales) in omega arith

-- the sales of a point are those on its shelf
pub sales_there : (shelves : List Shelf) (i p : ℕ) (d : Shelf) → i + 1 ≡ p → i < length shelves
    → sales_at p (sales_on shelves) ≡ (get_or shelves i d).sales
sales_there shelves i p d place within =
    ap (λ (o : Option (List Sale)). unwrap_or o [])
    (cell_read (cells_of shelves) i p place (within_cells shelves i within)
    ∙ get_or-map (λ (x : Shelf). stock x.sales) shelves i d None within)
    ∙ unstocked (get_or shelves i d).sales

-- a shelf with other sales in the place of another
pub shelf_filled : (shelves : List Shelf) (i p : ℕ) (new : Shelf) → i + 1 ≡ p → i < length shelves
    → stock new.sales ≡ Some new.sales
    → sales_on (set shelves i new) ≡ finite.insert (sales_on shelves) p new.sales
shelf_filled shelves i p new place within some =
    ap (λ (cells : List (Option (List Sale))). finite.from_entries (entries_from 1 cells))
    (map-set (λ (x : Shelf). stock x.sales) shelves i new ∙ ap (set (cells_of shelves) i) some)
    ∙ cell_filled (cells_of shelves) i p new.sales place (within_cells shelves i within)

-- a shelf with the same sales in the place of another
pub shelf_same : (shelves : List Shelf) (i : ℕ) (new d : Shelf) → i < length shelves
    → new.sales ≡ (get_or shelves i d).sales → sales_on (set shelves i new) ≡ sales_on shelves
shelf_same shelves i new d within same =
    ap (λ (cells : List (Option (List Sale))). finite.from_entries (entries_from 1 cells))
    (map-set (λ (x : Shelf). stock x.sales) shelves i new
    ∙ ap (set (cells_of shelves) i)
    (ap stock same ∙ sym (get_or-map (λ (x : Shelf). stock x.sales) shelves i d None within))
    ∙ set-get_or (cells_of shelves) i None)

-- the room of a point is that on its shelf
pub room_there : (shelves : List Shelf) (i p : ℕ) (d : Shelf) → i + 1 ≡ p → i < length shelves
    → room_at p (rooms_on shelves) ≡ (get_or shelves i d).room
room_there shelves i p d place within =
    let count : length (rooms_on shelves) ≡ length shelves =
    length-map shelves (λ (x : Shelf). x.room) in
    ap (λ (o : Option ℕ). unwrap_or o 0)
    (numbered_within p (rooms_on shelves) i 0 place (omega arith))
    ∙ get_or-map (λ (x : Shelf). x.room) shelves i d 0 within

-- after a reservation the point has the room of its new shelf
pub room_written : (shelves : List Shelf) (i p : ℕ) (new : Shelf) → i + 1 ≡ p → i < length shelves
    → room_at p (rooms_on (set shelves i new)) ≡ new.room
room_written shelves i p new place within =
    let count : length (set shelves i new) ≡ length shelves = length-set shelves i new in
    room_there (set shelves i new) i p new place (omega arith)
    ∙ ap (λ (x : Shelf). x.room) (get_or-set_same shelves i new new within)

-- the rooms with that of one shelf in the place of another
rooms_written : (shelves : List Shelf) (i p : ℕ) (new : Shelf) → i + 1 ≡ p
    → rooms_on (set shelves i new) ≡ with_numbered p new.room (rooms_on shelves)
rooms_written shelves i p new place =
    let back : i ≡ p - 1 = omega arith in
    map-set (λ (x : Shelf). x.room) shelves i new
    ∙ ap (λ k. set (rooms_on shelves) k new.room) back
    ∙ sym (with_numbered_place p new.room (rooms_on shelves) (omega arith))

-- where the new shelf has one place less, the point's place is taken
pub room_taken : (shelves : List Shelf) (i p : ℕ) (new d : Shelf) → i + 1 ≡ p → i < length shelves
    → new.room + 1 ≡ (get_or shelves i d).room
    → rooms_on (set shelves i new) ≡ one_taken p (rooms_on shelves)
room_taken shelves i p new d place within fewer =
    rooms_written shelves i p new place
    ∙ ap (λ n. with_numbered p n (rooms_on shelves))
    (omega (arith, fewer, room_there shelves i p d place within))

-- every other point has the room that it had
pub room_elsewhere : (shelves : List Shelf) (i p q : ℕ) (new : Shelf) → i + 1 ≡ p → q ≢ p
    → room_at q (rooms_on (set shelves i new)) ≡ room_at q (rooms_on shelves)
room_elsewhere shelves i p q new place other =
    ap (room_at q) (rooms_written shelves i p new place)
    ∙ ap (λ (o : Option ℕ). unwrap_or o 0)
    (numbered_with_other p q (rooms_on shelves) new.room other)

-- where the new shelf has no less room, no point has less
pub room_kept : (shelves : List Shelf) (i p : ℕ) (new d : Shelf) → i + 1 ≡ p → i < length shelves
    → (get_or shelves i d).room ≤ new.room → (q : ℕ)
    → room_at q (rooms_on shelves) ≤ room_at q (rooms_on (set shelves i new))
room_kept shelves i p new d place within more q = elim (cases_eq q p) [
  | inl here ↦
      let before = room_there shelves i p d place within in
      let after = room_written shelves i p new place within in
      subst (λ n. room_at n (rooms_on shelves) ≤ room_at n (rooms_on (set shelves i new)))
      (sym here) (omega (arith, before, after, more))
  | inr other ↦ let same = room_elsewhere shelves i p q new place other in omega (arith, same)
]

-- where the new shelf has the same room, every point has
pub rooms_same : (shelves : List Shelf) (i : ℕ) (new d : Shelf) → i < length shelves
    → new.room ≡ (get_or shelves i d).room → rooms_on (set shelves i new) ≡ rooms_on shelves
rooms_same shelves i new d within same =
    map-set (λ (x : Shelf). x.room) shelves i new
    ∙ ap (set (rooms_on shelves) i)
    (same ∙ sym (get_or-map (λ (x : Shelf). x.room) shelves i d 0 within))
    ∙ set-get_or (rooms_on shelves) i 0

-- a point that has sold has sales to show
pub stock_push : (xs : List Sale) (y : Sale) → stock (xs ++ y ∷ []) ≡ Some (xs ++ y ∷ [])
stock_push [] y = refl
stock_push (x ∷ xs) y = refl

pub stock_with : (h n : ℕ) (xs : List Sale) (x y : Sale) → sale_in h n xs ≡ Some x
    → stock (with_in h n y xs) ≡ Some (with_in h n y xs)
stock_with h n [] x y is = cc
stock_with h n (z ∷ zs) x y is = by_tests (z.shift == h) (n == 1)
  where
    by_tests : (a b : Bool)
        → stock (if a then (if b then y ∷ zs else z ∷ with_in h (n - 1) y zs)
        else z ∷ with_in h n y zs)
        ≡ Some (if a then (if b then y ∷ zs else z ∷ with_in h (n - 1) y zs)
        else z ∷ with_in h n y zs)
    by_tests true true = refl
    by_tests true false = refl
    by_tests false b = refl

-- the sums over the shelves and over the sales are the same
sums_from : (figure : Sale → ℕ) (n : ℕ) (shelves : List Shelf)
    → sum_over figure (entries_from n (cells_of shelves)) ≡ sum_on figure shelves
sums_from figure n [] = refl
sums_from figure n (x ∷ xs) = by_sales x.sales (sums_from figure (n + 1) xs)
  where
    by_sales : (sales : List Sale)
        → sum_over figure (entries_from (n + 1) (cells_of xs)) ≡ sum_on figure xs
        → sum_over figure (entries_from n (stock sales ∷ cells_of xs))
        ≡ sum_among figure sales + sum_on figure xs
    by_sales [] rest = omega (arith, rest)
    by_sales (s ∷ ss) rest = ap (λ (k : ℕ). sum_among figure (s ∷ ss) + k) rest

pub sums_there : (figure : Sale → ℕ) (shelves : List Shelf)
    → sum_of figure (sales_on shelves) ≡ sum_on figure shelves
sums_there figure shelves = ap (sum_over figure) (entries_of_cells (cells_of shelves))
    ∙ sums_from figure 1 shelves

-- the sum over one shelf is part of that over all
pub sum_part : (figure : Sale → ℕ) (shelves : List Shelf) (i : ℕ) (d : Shelf) → i < length shelves
    → sum_among figure (get_or shelves i d).sales ≤ sum_on figure shelves
sum_part figure [] i d within = absurd (omega arith)
sum_part figure (x ∷ xs) zero d within = omega arith
sum_part figure (x ∷ xs) (suc i) d within = omega (arith, sum_part figure xs i d (omega arith))

-- the sum once another shelf is in the place of one
pub sum_changed : (figure : Sale → ℕ) (shelves : List Shelf) (i : ℕ) (new d : Shelf)
    → i < length shelves
    → sum_on figure (set shelves i new) + sum_among figure (get_or shelves i d).sales
    ≡ sum_on figure shelves + sum_among figure new.sales
sum_changed figure [] i new d within = absurd (omega arith)
sum_changed figure (x ∷ xs) zero new d within = omega arith
sum_changed figure (x ∷ xs) (suc i) new d within =
    omega (arith, sum_changed figure xs i new d (omega arith))

cells_of_sales : (shelves : List Shelf)
    → cells_of shelves ≡ map stock (map (λ (x : Shelf). x.sales) shelves)
cells_of_sales [] = refl
cells_of_sales (x ∷ xs) = ap (λ (cells : List (Option (List Sale))). stock x.sales ∷ cells)
    (cells_of_sales xs)

-- what each shelf lets go, each point lets go
let_go_from : (t n : ℕ) (xss : List (List Sale))
    → entries_from n (map stock (map (map (unlock_all_of t)) xss))
    ≡ map (λ (e : ℕ × List Sale). (e.0, map (unlock_all_of t) e.1)) (entries_from n (map stock xss))
let_go_from t n [] = refl
let_go_from t n ([] ∷ xss) = let_go_from t (n + 1) xss
let_go_from t n ((x ∷ xs) ∷ xss) =
    ap (λ (es : List (ℕ × List Sale)). (n, map (unlock_all_of t) (x ∷ xs)) ∷ es)
    (let_go_from t (n + 1) xss)

pub let_go_there : (t : ℕ) (old new : List Shelf)
    → map (λ (x : Shelf). x.sales) new
    ≡ map (map (unlock_all_of t)) (map (λ (x : Shelf). x.sales) old)
    → sales_on new ≡ after_sign_off t (sales_on old)
let_go_there t old new each =
    ap finite.from_entries
    (ap (entries_from 1) (cells_of_sales new ∙ ap (map stock) each)
    ∙ let_go_from t 1 (map (λ (x : Shelf). x.sales) old)
    ∙ ap (λ (cells : List (Option (List Sale))). map
    (λ (e : ℕ × List Sale). (e.0, map (unlock_all_of t) e.1)) (entries_from 1 cells))
    (sym (cells_of_sales old))
    ∙ ap (map (λ (e : ℕ × List Sale). (e.0, map (unlock_all_of t) e.1)))
    (sym (entries_of_cells (cells_of old))))

-- where nothing stands on the shelves, no point has sold anything
nothing_from : (n : ℕ) (shelves : List Shelf)
    → ((i : ℕ) (d : Shelf) → i < length shelves → (get_or shelves i d).sales ≡ [])
    → entries_from n (cells_of shelves) ≡ []
nothing_from n [] nothing = refl
nothing_from n (x ∷ xs) nothing =
    ap (λ (sales : List Sale). entries_from n (stock sales ∷ cells_of xs))
    (nothing zero x (omega arith)) ∙ nothing_from (n + 1) xs
    (λ i d within. nothing (suc i) d (omega arith))

pub nothing_there : (shelves : List Shelf)
    → ((i : ℕ) (d : Shelf) → i < length shelves → (get_or shelves i d).sales ≡ [])
    → sales_on shelves ≡ no_sales
nothing_there shelves nothing = ap finite.from_entries (nothing_from 1 shelves nothing)

-- where nothing is sold, there is no sum
pub nothing_sold : (figure : Sale → ℕ) → sum_of figure no_sales ≡ 0
nothing_sold figure =
    ap (sum_of figure) (sym (nothing_there [] (λ i d within. absurd (omega arith))))
    ∙ sums_there figure []
