-- Rows of closed shifts stay, and each new shift is empty.
use Rattle.std.proofs.Common.{◌≡◌, ℕ, zero, suc, ◌+◌, ◌-◌, ◌<◌, ◌≤◌, List, [], ◌∷◌, ◌++◌, length}
use Rattle.std.proofs.Common.{replicate, unwrap_or, refl, sym, ap, ◌∙◌, arith, length-append}
use Rattle.site_base.specs.declared.limits.TheConstants.{TILL_CELLS, PRODUCT_CELLS}
use Rattle.site_base.specs.Members.{member}
use Rattle.site_base.proofs.Numbering.{numbered_place, numbered_push_here, numbered_push_other}
use Rattle.std.specs.List.{slice_get}
use Rattle.shift_ledger.specs.Figures.{empty_figures}
use Rattle.shift_ledger.specs.Shifts.{Shifts, open_number, figures_of, after_close}
use Rattle.shift_ledger.specs.Laws.{ShiftChange, clears, draws, closes, after_change, after_changes}
use Rattle.shift_ledger.specs.Laws.{DoStay, IsOpenedEmpty}

-- a member of a list of one value is that value
all_same : {A : Type 0} (k i : ℕ) (d : A) → unwrap_or (slice_get (replicate k d) i) d ≡ d
all_same zero i d = refl
all_same (suc k) zero d = refl
all_same (suc k) (suc i) d = all_same k i d

pub nothing : {A : Type 0} (k n : ℕ) (d : A) → unwrap_or (member n (replicate k d)) d ≡ d
nothing k zero d = refl
nothing k (suc n) d = ap (λ o. unwrap_or o d) (numbered_place (suc n) (replicate k d) (omega arith))
    ∙ all_same k (suc n - 1) d

pub is_opened_empty : IsOpenedEmpty
is_opened_empty = record {
  first_till = λ t. nothing TILL_CELLS t (0, 0);
  first_product = λ q. nothing PRODUCT_CELLS q 0;
  first_product_cents = λ q. nothing PRODUCT_CELLS q 0;
  first_drawn = λ q. nothing PRODUCT_CELLS q 0;
  till = λ t s. nothing TILL_CELLS t (0, 0);
  product = λ q s. nothing PRODUCT_CELLS q 0;
  product_cents = λ q s. nothing PRODUCT_CELLS q 0;
  drawn = λ q s. nothing PRODUCT_CELLS q 0;
}

pub next : (s : Shifts) → open_number (after_close s) ≡ open_number s + 1
next s = let one_more : length (s.closed ++ s.current ∷ []) ≡ length s.closed + 1 =
    length-append s.closed (s.current ∷ []) in omega arith

-- one clear, draw or close
pub closed_once : (change : ShiftChange) (n : ℕ) (s : Shifts) → n < open_number s
    → figures_of n (after_change change s) ≡ figures_of n s
closed_once (clears t q ml cents) n s below =
    numbered_push_other n s.closed _ (omega arith)
    ∙ sym (numbered_push_other n s.closed s.current (omega arith))
closed_once (draws q ml) n s below =
    numbered_push_other n s.closed _ (omega arith)
    ∙ sym (numbered_push_other n s.closed s.current (omega arith))
closed_once closes n s below =
    let count : open_number (after_close s) ≡ open_number s + 1 = next s in
    numbered_push_other n (s.closed ++ s.current ∷ []) empty_figures (omega arith)

open_after : (change : ShiftChange) (s : Shifts)
    → open_number s ≤ open_number (after_change change s)
open_after (clears t q ml cents) s = omega arith
open_after (draws q ml) s = omega arith
open_after closes s = omega (arith, next s)

closed : (changes : List ShiftChange) (n : ℕ) (s : Shifts) → n < open_number s
    → figures_of n (after_changes changes s) ≡ figures_of n s
closed [] n s below = refl
closed (change ∷ changes) n s below =
    let later : open_number s ≤ open_number (after_change change s) = open_after change s in
    closed changes n (after_change change s) (omega arith) ∙ closed_once change n s below

pub do_stay : DoStay
do_stay = record {
  shown = λ s. numbered_push_here s.closed s.current;
  joins = λ s.
      let count : open_number (after_close s) ≡ open_number s + 1 = next s in
      numbered_push_other (open_number s) (s.closed ++ s.current ∷ []) empty_figures (omega arith)
      ∙ numbered_push_here s.closed s.current;
  next = next;
  closed = closed;
}
