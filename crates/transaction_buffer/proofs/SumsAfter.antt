-- The kept sums after each change.
use Rattle.std.proofs.Common.{◌≡◌, ℕ, ◌+◌, ◌^◌, ◌<◌, ◌≤◌, ◌==◌, ◌&&◌, Bool, true, false, cond, List}
use Rattle.std.proofs.Common.{[], ◌∷◌, length, get_or, map, Some, refl, sym, ap, ◌∙◌, arith}
use Rattle.std.proofs.Math.ListN.{set}
use Rattle.std.proofs.lemmas.Bool.{eq-eqb}
use Rattle.std.proofs.lemmas.Bool.Decides.{nat_tests}
use Rattle.site_base.specs.declared.limits.TheConstants.{PRODUCTS}
use Rattle.site_base.specs.declared.state.Status.{Status}
use Rattle.site_base.specs.declared.state.Status.TheVariants as statuses
use Rattle.transaction_buffer.specs.declared.standing.Standing.{Standing}
use Rattle.transaction_buffer.specs.declared.standing.Standing.TheVariants.{Payable, LockedBy}
use Rattle.transaction_buffer.specs.declared.standing.Standing.TheVariants.{ClearedBy}
use Rattle.transaction_buffer.specs.declared.sums.Sums.{Sums}
use Rattle.transaction_buffer.specs.Sales.{Key, Sale, Sales, sale_of, status_of, with_sale}
use Rattle.transaction_buffer.specs.Sales.{with_new}
use Rattle.transaction_buffer.specs.TransactionTable.{unlock_all_of}
use Rattle.transaction_buffer.specs.KeptSums.{kept_sum, AreMoved, AreSums, AreWith, AreWithout}
use Rattle.transaction_buffer.specs.KeptSums.{CanMove}
use Rattle.transaction_buffer.specs.Shelves.{Shelf, sales_on}
use Rattle.transaction_buffer.specs.Sums.{sum_among, sum_of, has_status, volume_in, volume_with}
use Rattle.transaction_buffer.specs.Sums.{volume_locked_by, volume_of, volume_by}
use Rattle.transaction_buffer.proofs.OnShelves.{sums_there, sum_part, sum_changed}
use Rattle.transaction_buffer.proofs.Summing.{replaced_sum, sold_sum}
use Rattle.transaction_buffer.proofs.Volumes.{add_up, let_go_payable, let_go_locked, let_go_cleared}
use Rattle.transaction_buffer.proofs.Volumes.{let_go_whole}

-- a sale has its own status
own_status : (standing : Standing) → has_status (status_of standing) standing ≡ true
own_status Payable = refl
own_status (LockedBy t) = refl
own_status (ClearedBy t shift) = refl

own_volume : (x : Sale) → volume_with x.product (status_of x.standing) x ≡ x.volume
own_volume x = rw (eq-eqb x.product x.product refl, own_status x.standing) refl

own_in : (x : Sale) → volume_in x.product x ≡ x.volume
own_in x = rw (eq-eqb x.product x.product refl) refl

emptied : (b : Bool) → cond {A = ℕ} b 0 0 ≡ 0
emptied true = refl
emptied false = refl

-- what a sale that is there adds to a sum is in it
member_volume : (q : ℕ) (status : Status) (k : Key) (x : Sale) (s : Sales) → sale_of k s ≡ Some x
    → volume_with q status x ≤ volume_by q status s
member_volume q status k x s is =
    let none : Sale = record x { volume = 0 } in
    let moved : volume_by q status (with_sale k none s) + volume_with q status x
    ≡ volume_by q status s + volume_with q status none =
    replaced_sum (volume_with q status) k x none s is in
    let nothing : volume_with q status none ≡ 0 =
    emptied (x.product == q && has_status status x.standing) in
    omega (arith, moved, nothing)

-- a product's volume of one status is no more than that of all sales
part_of_all : (q : ℕ) (status : Status) (s : Sales) → volume_by q status s ≤ volume_of q s
part_of_all q statuses.Payable s = omega (arith, add_up q s)
part_of_all q statuses.Locked s = omega (arith, add_up q s)
part_of_all q statuses.Cleared s = omega (arith, add_up q s)

-- a sale in the place of another of the same product and volume
module _ (s : Sales) (sums : Sums) (k : Key) (x y : Sale) (are : AreSums s sums)
    (is : sale_of k s ≡ Some x) (product : y.product ≡ x.product) (volume : y.volume ≡ x.volume)
    (low : 1 ≤ x.product) (high : x.product ≤ PRODUCTS) where
  pub among : x.volume ≤ kept_sum x.product (status_of x.standing) sums
  among = omega (
    arith,
    own_volume x,
    are.kept x.product (status_of x.standing) low high,
    member_volume x.product (status_of x.standing) k x s is,
  )

  alike : (q : ℕ) → volume_in q y ≡ volume_in q x
  alike q = ap (λ (p : ℕ). cond (p == q) y.volume 0) product
      ∙ ap (λ (v : ℕ). cond (x.product == q) v 0) volume

  all_fit : (q : ℕ) → volume_of q (with_sale k y s) < 2 ^ 64
  all_fit q = omega (arith, replaced_sum (volume_in q) k x y s is, alike q, are.fit q)

  module _ (left : Sums) (without : AreWithout x sums left) where
    left_by : (q : ℕ) (status : Status) → 1 ≤ q → q ≤ PRODUCTS
        → kept_sum q status left + volume_with q status y ≡ volume_by q status (with_sale k y s)
    left_by q status from most =
        omega (
          arith,
          without q status from most,
          are.kept q status from most,
          replaced_sum (volume_with q status) k x y s is,
        )

    pub fits_again : kept_sum y.product (status_of y.standing) left + y.volume < 2 ^ 64
    fits_again =
        omega (
          arith,
          own_volume y,
          left_by y.product (status_of y.standing)
              (omega (arith, product)) (omega (arith, product)),
          part_of_all y.product (status_of y.standing) (with_sale k y s),
          all_fit y.product,
        )

    pub kept_replaced : (new : Sums) → AreWith y left new → AreSums (with_sale k y s) new
    kept_replaced new with = record {
      fit = all_fit;
      kept = λ q status from most. with q status from most ∙ left_by q status from most;
    }

-- one more sale
module _ (s : Sales) (sums : Sums) (p : ℕ) (x : Sale) (are : AreSums s sums)
    (fits : volume_of x.product s + x.volume < 2 ^ 64) where
  pub fits_more : 1 ≤ x.product → x.product ≤ PRODUCTS
      → kept_sum x.product (status_of x.standing) sums + x.volume < 2 ^ 64
  fits_more low high = omega (
    arith,
    are.kept x.product (status_of x.standing) low high,
    part_of_all x.product (status_of x.standing) s,
  )

  by_product : (q : ℕ) (b : Bool) → (x.product == q) ≡ b
      → volume_of q s + cond b x.volume 0 < 2 ^ 64
  by_product q true is =
      let same : x.product ≡ q = grind (arith, nat_tests) in
      omega (arith, ap (λ (r : ℕ). volume_of r s) same)
  by_product q false is = omega (arith, are.fit q)

  pub kept_sold : (new : Sums) → AreWith x sums new → AreSums (with_new p x s) new
  kept_sold new with = record {
    fit = λ q. omega (arith, sold_sum (volume_in q) p x s, by_product q (x.product == q) refl);
    kept = λ q status low high.
        with q status low high
        ∙ ap (λ (n : ℕ). n + volume_with q status x) (are.kept q status low high)
        ∙ sym (sold_sum (volume_with q status) p x s);
  }

-- ---- a till lets go of what it has locked on one shelf

-- what a till has locked among some sales
abbrev locked_among : ℕ → List Sale → ℕ → ℕ
locked_among t xs q = sum_among (volume_locked_by q t) xs

payable_let_go : (q t : ℕ) (xs : List Sale)
    → sum_among (volume_with q statuses.Payable) (map (unlock_all_of t) xs)
    ≡ sum_among (volume_with q statuses.Payable) xs + locked_among t xs q
payable_let_go q t [] = refl
payable_let_go q t (x ∷ xs) = omega (arith, let_go_payable q t x, payable_let_go q t xs)

locked_let_go : (q t : ℕ) (xs : List Sale)
    → sum_among (volume_with q statuses.Locked) (map (unlock_all_of t) xs) + locked_among t xs q
    ≡ sum_among (volume_with q statuses.Locked) xs
locked_let_go q t [] = refl
locked_let_go q t (x ∷ xs) = omega (arith, let_go_locked q t x, locked_let_go q t xs)

cleared_let_go : (q t : ℕ) (xs : List Sale)
    → sum_among (volume_with q statuses.Cleared) (map (unlock_all_of t) xs)
    ≡ sum_among (volume_with q statuses.Cleared) xs
cleared_let_go q t [] = refl
cleared_let_go q t (x ∷ xs) = omega (arith, let_go_cleared q t x, cleared_let_go q t xs)

whole_let_go : (q t : ℕ) (xs : List Sale)
    → sum_among (volume_in q) (map (unlock_all_of t) xs) ≡ sum_among (volume_in q) xs
whole_let_go q t [] = refl
whole_let_go q t (x ∷ xs) = omega (arith, let_go_whole q t x, whole_let_go q t xs)

module _ (t : ℕ) (shelves : List Shelf) (i : ℕ) (d : Shelf) (sums : Sums)
    (inside : i < length shelves)
    (are : AreSums (sales_on shelves) sums) where
  abbrev here : List Sale
  here = (get_or shelves i d).sales

  pub can_let_go : CanMove (locked_among t here) sums
  can_let_go = record {
    among = λ q low high. omega (
      arith,
      are.kept q statuses.Locked low high,
      sums_there (volume_with q statuses.Locked) shelves,
      sum_part (volume_with q statuses.Locked) shelves i d inside,
      locked_let_go q t here,
    );
    fits = λ q low high. omega (
      arith,
      are.kept q statuses.Payable low high,
      are.fit q,
      add_up q (sales_on shelves),
      sums_there (volume_with q statuses.Locked) shelves,
      sum_part (volume_with q statuses.Locked) shelves i d inside,
      locked_let_go q t here,
    );
  }

  module _ (shelf : Shelf) (is : shelf.sales ≡ map (unlock_all_of t) here) (new : Sums)
      (moved : AreMoved (locked_among t here) sums new) where
    changed : (figure : Sale → ℕ) → sum_of figure (sales_on (set shelves i shelf))
        + sum_among figure here
        ≡ sum_of figure (sales_on shelves) + sum_among figure (map (unlock_all_of t) here)
    changed figure = omega (
      arith,
      sums_there figure shelves,
      sums_there figure (set shelves i shelf),
      sum_changed figure shelves i shelf d inside,
      ap (sum_among figure) is,
    )

    kept_by : (q : ℕ) (status : Status) → 1 ≤ q → q ≤ PRODUCTS
        → kept_sum q status new ≡ volume_by q status (sales_on (set shelves i shelf))
    kept_by q statuses.Payable low high = omega (
      arith,
      moved.payable q low high,
      are.kept q statuses.Payable low high,
      changed (volume_with q statuses.Payable),
      payable_let_go q t here,
    )
    kept_by q statuses.Locked low high = omega (
      arith,
      moved.locked q low high,
      are.kept q statuses.Locked low high,
      changed (volume_with q statuses.Locked),
      locked_let_go q t here,
    )
    kept_by q statuses.Cleared low high = omega (
      arith,
      moved.cleared q low high,
      are.kept q statuses.Cleared low high,
      changed (volume_with q statuses.Cleared),
      cleared_let_go q t here,
    )

    pub kept_let_go : AreSums (sales_on (set shelves i shelf)) new
    kept_let_go = record {
      fit = λ q. omega (arith, are.fit q, changed (volume_in q), whole_let_go q t here);
      kept = kept_by;
    }

-- ---- so many millilitres let go in two steps
module _ (one other both : ℕ → ℕ) (parts : (q : ℕ) → both q ≡ one q + other q) (sums left : Sums)
  where
    pub can_first : CanMove both sums → CanMove one sums
    can_first can = record {
      among = λ q low high. omega (arith, parts q, can.among q low high);
      fits = λ q low high. omega (arith, parts q, can.fits q low high);
    }

    pub can_second : CanMove both sums → AreMoved one sums left → CanMove other left
    can_second can moved = record {
      among = λ q low high. omega (arith, parts q, can.among q low high, moved.locked q low high);
      fits = λ q low high. omega (arith, parts q, can.fits q low high, moved.payable q low high);
    }

    pub moved_twice : (new : Sums) → AreMoved one sums left → AreMoved other left new
        → AreMoved both sums new
    moved_twice new first second = record {
      payable = λ q low high.
          omega (arith, parts q, first.payable q low high, second.payable q low high);
      locked = λ q low high.
          omega (arith, parts q, first.locked q low high, second.locked q low high);
      cleared = λ q low high. second.cleared q low high ∙ first.cleared q low high;
    }
