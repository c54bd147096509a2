-- Numbers in order, counted so far.
use Rattle.std.proofs.Common.{◌≡◌, ◌≤◌, ◌<◌, ◌+◌, ◌∙◌, ◌⊎◌, ℕ, List, arith, get_or, inl, inr}
use Rattle.std.proofs.Common.{length, subst, sym}
use Rattle.std.proofs.lemmas.Bool.{cases_lt}
use Rattle.std.proofs.lemmas.List.{get_or_default}
use Rattle.std.proofs.lemmas.List.Elements.{Contains-get_or}
use Rattle.std.proofs.lemmas.List.Sorted.{All-permutation, Contains-permutation, IsPermutation-sym}
use Rattle.std.proofs.lemmas.List.Sorted.{IsNonDecreasingBy-from_sort}
use Rattle.std.specs.List.{All, Contains}
use Rattle.std.specs.List.Sorted.{IsNonDecreasing, IsPermutation, IsSortedByKey}
use Rattle.std.specs.Ordering.{nat_cmp}
use Rattle.chapters.specs.declared.history_end.TheConstants.{MOST_CHAPTERS}
use Rattle.history_folder.specs.Names.{IsChapter}
use Rattle.history_folder.specs.Numbers.{AreAllTo, IsLeftOut}

-- of the numbers at the first so many places none is greater than this one, and each from 1 to it
-- is there
pub record IsCountedTo (place last : ℕ) (numbers : List ℕ) : Type 0 where
  pub low : last ≤ MOST_CHAPTERS
  pub most : (k d : ℕ) → k < place → get_or numbers k d ≤ last
  pub each : (j : ℕ) → 1 ≤ j → j ≤ last → Contains numbers j

-- chapters' numbers in order
pub record AreInOrder (numbers : List ℕ) : Type 0 where
  pub up : IsNonDecreasing numbers
  pub chapters : All IsChapter numbers

pub counts_none : (numbers : List ℕ) → IsCountedTo 0 0 numbers
counts_none numbers = record {
  low = omega arith;
  most = λ k d below. absurd (omega arith);
  each = λ j one less. absurd (omega arith);
}

-- the number at this place is counted, where it is at most the next one
pub counts_more : (numbers : List ℕ) (place last next : ℕ) → AreInOrder numbers
    → IsCountedTo place last numbers → place < length numbers → next ≡ get_or numbers place 0
    → next ≤ last + 1 → IsCountedTo (place + 1) next numbers
counts_more numbers place last next order h within is near =
    let at : (d : ℕ) → get_or numbers place d ≡ next =
    λ d. get_or_default numbers place d 0 within ∙ sym is
    in
    record {
      low = subst (λ n. n ≤ MOST_CHAPTERS) (sym is) (order.chapters place 0 within).1;
      most = λ k d below.
          let up = order.up k place d (omega arith) within in omega (arith, up, at d);
      each = λ j one less. each_to j (cases_lt last j) one less;
    }
  where
    each_to : (j : ℕ) → (last < j) ⊎ (j ≤ last) → 1 ≤ j → j ≤ next → Contains numbers j
    each_to j (inr low) one less = h.each j one low
    each_to j (inl high) one less =
        let same : get_or numbers place 0 ≡ j = omega (arith, is) in
        subst (Contains numbers) same (Contains-get_or numbers place 0 within)

-- the number behind the last one is left out, where the next one is greater
pub is_left_out : (numbers : List ℕ) (place last : ℕ) → AreInOrder numbers
    → IsCountedTo place last numbers → place < length numbers
    → last + 1 < get_or numbers place 0 → IsLeftOut (last + 1) numbers
is_left_out numbers place last order h within far = record {
  before = λ j one less. h.each j one (omega arith);
  out = λ w. not_there w.0 (cases_lt w.0 place) w.1 w.2;
  one = omega arith;
  greater = get_or numbers place 0;
  above = far;
  there = Contains-get_or numbers place 0 within;
}
  where
    not_there : (k : ℕ) → (k < place) ⊎ (place ≤ k) → k < length numbers
        → get_or numbers k (last + 1) ≡ last + 1 → ⊥
    not_there k (inl low) inside same =
        let most = h.most k (last + 1) low in omega (arith, most, same)
    not_there k (inr high) inside same =
        let up = order.up place k (last + 1) high inside in
        let first = get_or_default numbers place (last + 1) 0 within in
        omega (arith, up, first, same, far)

-- all are counted
pub are_all : (numbers : List ℕ) (place last : ℕ) → AreInOrder numbers
    → IsCountedTo place last numbers → length numbers ≤ place → AreAllTo last numbers
are_all numbers place last order h end k =
    (λ w. (to_one w, to_last w), λ within. h.each k within.0 within.1)
  where
    to_one : Contains numbers k → 1 ≤ k
    to_one w = subst (λ n. 1 ≤ n) w.2 (order.chapters w.0 k w.1).0

    to_last : Contains numbers k → k ≤ last
    to_last w =
        let most = h.most w.0 k (omega (arith, w.1, end)) in omega (arith, most, w.2)

-- ---- numbers, and the same in order

-- these numbers, read in order
pub record IsSortOf (numbers sorted : List ℕ) : Type 0 where
  pub moved : IsPermutation numbers sorted
  pub order : IsSortedByKey (λ n. n) nat_cmp sorted

pub in_order : (numbers sorted : List ℕ) → IsSortOf numbers sorted → All IsChapter numbers
    → AreInOrder sorted
in_order numbers sorted h all = record {
  up = IsNonDecreasingBy-from_sort (λ n. n) sorted h.order;
  chapters = All-permutation IsChapter numbers sorted h.moved all;
}

to_sorted : (numbers sorted : List ℕ) → IsSortOf numbers sorted → (k : ℕ)
    → Contains numbers k → Contains sorted k
to_sorted numbers sorted h k = Contains-permutation numbers sorted k h.moved

from_sorted : (numbers sorted : List ℕ) → IsSortOf numbers sorted → (k : ℕ)
    → Contains sorted k → Contains numbers k
from_sorted numbers sorted h k =
    Contains-permutation sorted numbers k (IsPermutation-sym numbers sorted h.moved)

pub left_out_before : (numbers sorted : List ℕ) (k : ℕ) → IsSortOf numbers sorted
    → IsLeftOut k sorted → IsLeftOut k numbers
left_out_before numbers sorted k h out = record {
  before = λ j one less. from_sorted numbers sorted h j (out.before j one less);
  out = λ there. out.out (to_sorted numbers sorted h k there);
  one = out.one;
  greater = out.greater;
  above = out.above;
  there = from_sorted numbers sorted h out.greater out.there;
}

pub all_before : (numbers sorted : List ℕ) (last : ℕ) → IsSortOf numbers sorted
    → AreAllTo last sorted → AreAllTo last numbers
all_before numbers sorted last h all k = (
  λ there. (all k).0 (to_sorted numbers sorted h k there),
  λ within. from_sorted numbers sorted h k ((all k).1 within),
)
