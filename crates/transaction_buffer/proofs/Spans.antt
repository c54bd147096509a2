-- Where the sales of a shift stand: places by the shifts alone, and the spans that tell them.
use Rattle.std.proofs.Common.{◌≡◌, ◌≢◌, ℕ, zero, suc, ◌+◌, ◌-◌, ◌<◌, ◌≤◌, ◌==◌, Bool, true, false}
use Rattle.std.proofs.Common.{cond, if◌then◌else◌, List, [], ◌∷◌, ◌++◌, length, get_or, map, Option}
use Rattle.std.proofs.Common.{option_map, Some, None, inl, inr, refl, sym, ap, subst, ◌∙◌, arith}
use Rattle.std.proofs.Math.ListN.{set}
use Rattle.std.proofs.lemmas.Bool.{cases_eq, cases_lt}
use Rattle.std.proofs.lemmas.Bool.Decides.{nat_tests}
use Rattle.std.proofs.lemmas.Grind.{get_or-set_at}
use Rattle.std.proofs.lemmas.List.{get_or-set_other, length_push}
use Rattle.site_base.specs.declared.numbers.TheConstants.{GREATEST_SHIFT}
use Rattle.site_base.specs.declared.numbers.TheConstants.{GREATEST_SEQ}
use Rattle.transaction_buffer.specs.declared.span.Span.{Span}
use Rattle.transaction_buffer.specs.Sales.{Sale, sale_in, made_in, with_in}
use Rattle.transaction_buffer.specs.Shelves.{shifts_of, count_in, place_in, NoneAfter, IsSpan}
use Rattle.transaction_buffer.specs.Shelves.{AreSpans, no_span}
use Rattle.transaction_buffer.specs.Spans.{with_one_more}

same : (n m : ℕ) → (n == m) ≡ true → n ≡ m
same n m is = grind (arith, nat_tests)

apart : (n m : ℕ) → (n == m) ≡ false → n ≢ m
apart n m is = grind (arith, nat_tests)

is_same : (n m : ℕ) → n ≡ m → (n == m) ≡ true
is_same n m is = grind (arith, nat_tests)

is_apart : (n m : ℕ) → n ≢ m → (n == m) ≡ false
is_apart n m isnt = grind (arith, nat_tests)

abbrev further : Option ℕ → Option ℕ
further o = option_map (λ i. i + 1) o

-- ---- what stands at a place

pub made_counts : (h : ℕ) (xs : List Sale) → made_in h xs ≡ count_in h (shifts_of xs)
made_counts h [] = refl
made_counts h (x ∷ xs) = ap (λ (n : ℕ). (if x.shift == h then 1 else 0) + n) (made_counts h xs)

-- the sale at a place, and what a write there changes
pub record StandsAt (h n : ℕ) (xs : List Sale) (i : ℕ) : Type 0 where
  pub within : i < length xs
  pub sale : (d : Sale) → sale_in h n xs ≡ Some (get_or xs i d)
  pub write : (y : Sale) → with_in h n y xs ≡ set xs i y

here_is : (h n : ℕ) (x : Sale) (xs : List Sale) → (x.shift == h) ≡ true → (n == 1) ≡ true
    → StandsAt h n (x ∷ xs) 0
here_is h n x xs here first = record {
  within = omega arith;
  sale = λ d. rw (here, first) refl;
  write = λ y. rw (here, first) refl;
}

behind_is : (h n : ℕ) (x : Sale) (xs : List Sale) (i : ℕ) → (x.shift == h) ≡ true
    → (n == 1) ≡ false → StandsAt h (n - 1) xs i → StandsAt h n (x ∷ xs) (suc i)
behind_is h n x xs i here later at = record {
  within = let within : i < length xs = at.within in omega arith;
  sale = λ d. rw (here, later) (at.sale d);
  write = λ y. rw (here, later) (ap (λ ys. x ∷ ys) (at.write y));
}

past_is : (h n : ℕ) (x : Sale) (xs : List Sale) (i : ℕ) → (x.shift == h) ≡ false
    → StandsAt h n xs i → StandsAt h n (x ∷ xs) (suc i)
past_is h n x xs i there at = record {
  within = let within : i < length xs = at.within in omega arith;
  sale = λ d. rw there (at.sale d);
  write = λ y. rw there (ap (λ ys. x ∷ ys) (at.write y));
}

one_further : (o : Option ℕ) (i : ℕ) → further o ≡ Some i
    → (i ≡ 0 → ⊥) × ((j : ℕ) → i ≡ suc j → o ≡ Some j)
one_further None i is = absurd cc
one_further (Some k) i is =
    let at : k + 1 ≡ i = (let both : Some (k + 1) ≡ Some i = is in cc) in
    (λ none. omega arith, λ j next. ap (λ x. Some x) (omega arith))

pub stands : (h n : ℕ) (xs : List Sale) (i : ℕ) → place_in h n (shifts_of xs) ≡ Some i
    → StandsAt h n xs i
stands h n [] i is = absurd cc
stands h n (x ∷ xs) i is =
    by_tests (x.shift == h) refl (n == 1) refl i is (λ m. stands h m xs)
  where
    by_tests : (a : Bool) → (x.shift == h) ≡ a → (b : Bool) → (n == 1) ≡ b → (i : ℕ)
        → place_in h n (shifts_of (x ∷ xs)) ≡ Some i
        → ((m j : ℕ) → place_in h m (shifts_of xs) ≡ Some j → StandsAt h m xs j)
        → StandsAt h n (x ∷ xs) i
    by_tests true here true first i is behind =
        let at : place_in h n (shifts_of (x ∷ xs)) ≡ Some 0 = rw (here, first) refl in
        let place : 0 ≡ i = (let both : Some 0 ≡ Some i = sym at ∙ is in cc) in
        subst (StandsAt h n (x ∷ xs)) place (here_is h n x xs here first)
    by_tests true here false later zero is behind =
        let at : place_in h n (shifts_of (x ∷ xs)) ≡ further (place_in h (n - 1) (shifts_of xs)) =
        rw (here, later) refl in
        absurd ((one_further (place_in h (n - 1) (shifts_of xs)) 0 (sym at ∙ is)).0 refl)
    by_tests true here false later (suc i) is behind =
        let at : place_in h n (shifts_of (x ∷ xs)) ≡ further (place_in h (n - 1) (shifts_of xs)) =
        rw (here, later) refl in
        behind_is h n x xs i here later (behind (n - 1) i
        ((one_further (place_in h (n - 1) (shifts_of xs)) (suc i) (sym at ∙ is)).1 i refl))
    by_tests false there b first zero is behind =
        let at : place_in h n (shifts_of (x ∷ xs)) ≡ further (place_in h n (shifts_of xs)) =
        rw there refl in
        absurd ((one_further (place_in h n (shifts_of xs)) 0 (sym at ∙ is)).0 refl)
    by_tests false there b first (suc i) is behind =
        let at : place_in h n (shifts_of (x ∷ xs)) ≡ further (place_in h n (shifts_of xs)) =
        rw there refl in
        past_is h n x xs i there (behind n i
        ((one_further (place_in h n (shifts_of xs)) (suc i) (sym at ∙ is)).1 i refl))

-- the shifts stay, where a sale is replaced by one of its shift
pub shifts_put : (xs : List Sale) (i : ℕ) (y d : Sale) → i < length xs
    → (get_or xs i d).shift ≡ y.shift → shifts_of (set xs i y) ≡ shifts_of xs
shifts_put [] i y d within same = absurd (omega arith)
shifts_put (x ∷ xs) zero y d within same = ap (λ (k : ℕ). k ∷ shifts_of xs) (sym same)
shifts_put (x ∷ xs) (suc i) y d within same =
    ap (λ ks. x.shift ∷ ks) (shifts_put xs i y d (omega arith) same)

pub shifts_with : (h n : ℕ) (xs : List Sale) (y : Sale) → y.shift ≡ h
    → shifts_of (with_in h n y xs) ≡ shifts_of xs
shifts_with h n [] y its = refl
shifts_with h n (z ∷ zs) y its =
    by_tests (z.shift == h) refl (n == 1) refl (λ m. shifts_with h m zs y its)
  where
    by_tests : (a : Bool) → (z.shift == h) ≡ a → (b : Bool) → (n == 1) ≡ b
        → ((m : ℕ) → shifts_of (with_in h m y zs) ≡ shifts_of zs)
        → shifts_of (with_in h n y (z ∷ zs)) ≡ shifts_of (z ∷ zs)
    by_tests true here true first behind =
        rw (here, first) (ap (λ (k : ℕ). k ∷ shifts_of zs) (its ∙ sym (same z.shift h here)))
    by_tests true here false later behind =
        rw (here, later) (ap (λ ks. z.shift ∷ ks) (behind (n - 1)))
    by_tests false there b first behind = rw there (ap (λ ks. z.shift ∷ ks) (behind n))

pub shifts_mapped : (change : Sale → Sale) (xs : List Sale)
    → ((x : Sale) → (change x).shift ≡ x.shift)
    → shifts_of (map change xs) ≡ shifts_of xs
shifts_mapped change [] keeps = refl
shifts_mapped change (x ∷ xs) keeps =
    ap (λ (k : ℕ). k ∷ shifts_of (map change xs)) (keeps x)
    ∙ ap (λ ks. x.shift ∷ ks) (shifts_mapped change xs keeps)

pub shifts_pushed : (xs : List Sale) (x : Sale)
    → shifts_of (xs ++ x ∷ []) ≡ shifts_of xs ++ x.shift ∷ []
shifts_pushed [] x = refl
shifts_pushed (z ∷ zs) x = ap (λ ks. z.shift ∷ ks) (shifts_pushed zs x)

-- ---- one more

-- no number above the last has a place
pub no_place : (h n : ℕ) (gs : List ℕ) → count_in h gs < n → place_in h n gs ≡ None
no_place h n [] above = refl
no_place h n (g ∷ gs) above =
    by_tests (g == h) refl (n == 1) refl (λ m. no_place h m gs)
  where
    by_tests : (a : Bool) → (g == h) ≡ a → (b : Bool) → (n == 1) ≡ b
        → ((m : ℕ) → count_in h gs < m → place_in h m gs ≡ None) → place_in h n (g ∷ gs) ≡ None
    by_tests true here true first behind =
        let count : count_in h (g ∷ gs) ≡ 1 + count_in h gs = rw here refl in
        let one = same n 1 first in absurd (omega arith)
    by_tests true here false later behind =
        let count : count_in h (g ∷ gs) ≡ 1 + count_in h gs = rw here refl in
        rw (here, later) (ap further (behind (n - 1) (omega arith)))
    by_tests false there b first behind =
        let count : count_in h (g ∷ gs) ≡ 0 + count_in h gs = rw there refl in
        rw there (ap further (behind n (omega arith)))

count_pushed : (h : ℕ) (gs : List ℕ) (g : ℕ)
    → count_in h (gs ++ g ∷ []) ≡ count_in h gs + (if g == h then 1 else 0)
count_pushed h [] g = omega arith
count_pushed h (k ∷ ks) g = omega (arith, count_pushed h ks g)

-- what has a place keeps it
kept_place : (h n : ℕ) (gs : List ℕ) (g i : ℕ) → place_in h n gs ≡ Some i
    → place_in h n (gs ++ g ∷ []) ≡ Some i
kept_place h n [] g i is = absurd cc
kept_place h n (k ∷ ks) g i is =
    by_tests (k == h) refl (n == 1) refl i is (λ m j. kept_place h m ks g j)
  where
    by_tests : (a : Bool) → (k == h) ≡ a → (b : Bool) → (n == 1) ≡ b → (i : ℕ)
        → place_in h n (k ∷ ks) ≡ Some i
        → ((m j : ℕ) → place_in h m ks ≡ Some j → place_in h m (ks ++ g ∷ []) ≡ Some j)
        → place_in h n (k ∷ ks ++ g ∷ []) ≡ Some i
    by_tests true here true first i is behind =
        let at : place_in h n (k ∷ ks) ≡ Some 0 = rw (here, first) refl in
        rw (here, first) (sym at ∙ is)
    by_tests true here false later zero is behind =
        let at : place_in h n (k ∷ ks) ≡ further (place_in h (n - 1) ks) = rw (here, later) refl in
        absurd ((one_further (place_in h (n - 1) ks) 0 (sym at ∙ is)).0 refl)
    by_tests true here false later (suc i) is behind =
        let at : place_in h n (k ∷ ks) ≡ further (place_in h (n - 1) ks) = rw (here, later) refl in
        let old = (one_further (place_in h (n - 1) ks) (suc i) (sym at ∙ is)).1 i refl in
        rw (here, later) (ap further (behind (n - 1) i old) ∙ sym (ap further old) ∙ sym at ∙ is)
    by_tests false there b first zero is behind =
        let at : place_in h n (k ∷ ks) ≡ further (place_in h n ks) = rw there refl in
        absurd ((one_further (place_in h n ks) 0 (sym at ∙ is)).0 refl)
    by_tests false there b first (suc i) is behind =
        let at : place_in h n (k ∷ ks) ≡ further (place_in h n ks) = rw there refl in
        let old = (one_further (place_in h n ks) (suc i) (sym at ∙ is)).1 i refl in
        rw there (ap further (behind n i old) ∙ sym (ap further old) ∙ sym at ∙ is)

-- the one more stands at the end
new_place : (h : ℕ) (gs : List ℕ) → place_in h (count_in h gs + 1) (gs ++ h ∷ []) ≡ Some (length gs)
new_place h [] = let one : (h == h) ≡ true = is_same h h refl in rw one refl
new_place h (k ∷ ks) = by_test (k == h) refl (new_place h ks)
  where
    by_test : (a : Bool) → (k == h) ≡ a
        → place_in h (count_in h ks + 1) (ks ++ h ∷ []) ≡ Some (length ks)
        → place_in h (count_in h (k ∷ ks) + 1) (k ∷ ks ++ h ∷ []) ≡ Some (length (k ∷ ks))
    by_test true here behind =
        let count : count_in h (k ∷ ks) ≡ 1 + count_in h ks = rw here refl in
        let step : (n : ℕ) → (n == 1) ≡ false → place_in h n (k ∷ ks ++ h ∷ [])
        ≡ further (place_in h (n - 1) (ks ++ h ∷ [])) = λ n later. rw (here, later) refl in
        let at : count_in h (k ∷ ks) + 1 ≡ count_in h ks + 2 = omega (arith, count) in
        let back : count_in h ks + 2 - 1 ≡ count_in h ks + 1 = omega arith in
        ap (λ (n : ℕ). place_in h n (k ∷ ks ++ h ∷ [])) at
        ∙ step (count_in h ks + 2) (is_apart (count_in h ks + 2) 1 (λ e. absurd (omega (arith, e))))
        ∙ ap (λ (n : ℕ). further (place_in h n (ks ++ h ∷ []))) back ∙ ap further behind
        ∙ ap (λ (n : ℕ). Some n) (omega arith)
    by_test false there behind =
        let count : count_in h (k ∷ ks) ≡ count_in h ks = rw there (omega arith) in
        let at : place_in h (count_in h (k ∷ ks) + 1) (k ∷ ks ++ h ∷ [])
        ≡ further (place_in h (count_in h (k ∷ ks) + 1) (ks ++ h ∷ [])) = rw there refl in
        at ∙ ap (λ (n : ℕ). further (place_in h (n + 1) (ks ++ h ∷ []))) count ∙ ap further behind
        ∙ ap (λ (n : ℕ). Some n) (omega arith)

-- ---- spans

module _ (gs : List ℕ) (g : ℕ) (none_after : NoneAfter g gs) (top : g ≤ GREATEST_SHIFT) where
  count_own : count_in g (gs ++ g ∷ []) ≡ count_in g gs + 1
  count_own =
      let own : (g == g) ≡ true = is_same g g refl in
      count_pushed g gs g ∙ ap (λ (b : Bool). count_in g gs + cond b 1 0) own

  -- where the new one of the shift stands, from the first of the shift on
  last_place : (span : Span) → IsSpan g gs span
      → (with_one_more span (length gs)).first + span.count ≡ length gs
  last_place span is = by_count (span.count == 0) refl
    where
      by_count : (b : Bool) → (span.count == 0) ≡ b
          → (if b then length gs else span.first) + span.count ≡ length gs
      by_count true none = let e = same span.count 0 none in omega arith
      by_count false some =
          let e = apart span.count 0 some in is.ends none_after (omega arith)

  kept_first : (span : Span) (n : ℕ) → n < span.count → (with_one_more span (length gs)).first
      ≡ span.first
  kept_first span n below =
      let some : (span.count == 0) ≡ false = is_apart span.count 0 (λ e. absurd (omega arith)) in
      ap (λ (b : Bool). cond b (length gs) span.first) some

  pub span_grown : (span : Span) → IsSpan g gs span → count_in g gs < GREATEST_SEQ
      → IsSpan g (gs ++ g ∷ []) (with_one_more span (length gs))
  span_grown span is fewer = record {
    counts = ap (λ (n : ℕ). n + 1) is.counts ∙ sym count_own;
    few = omega (arith, is.counts);
    places = λ n below. elim (cases_lt n span.count) [
      | inl old ↦
          kept_place g (n + 1) gs g (span.first + n) (is.places n old)
          ∙ ap (λ (k : ℕ). Some (k + n)) (sym (kept_first span n old))
      | inr new ↦
          let at : n ≡ count_in g gs = omega (arith, is.counts) in
          ap (λ (k : ℕ). place_in g (k + 1) (gs ++ g ∷ [])) at ∙ new_place g gs
          ∙ ap (λ (k : ℕ). Some k) (sym (last_place span is)
          ∙ ap (λ (k : ℕ). (with_one_more span (length gs)).first + k) (is.counts ∙ sym at))
    ];
    ends = λ none some.
        let count : length (gs ++ g ∷ []) ≡ length gs + 1 = length_push gs g in
        omega (arith, last_place span is, count);
  }

  pub span_kept : (h : ℕ) (span : Span) → h ≢ g → h ≤ GREATEST_SHIFT → IsSpan h gs span
      → IsSpan h (gs ++ g ∷ []) span
  span_kept h span other high is =
      let isnt : (g == h) ≡ false = is_apart g h (λ e. other (sym e)) in
      let counts : count_in h (gs ++ g ∷ []) ≡ count_in h gs =
      count_pushed h gs g ∙ ap (λ (b : Bool). count_in h gs + cond b 1 0) isnt ∙ omega arith in
      record {
        counts = is.counts ∙ sym counts;
        few = is.few;
        places = λ n below. kept_place h (n + 1) gs g (span.first + n) (is.places n below);
        ends = λ none some. elim (cases_lt h g) [
          | inl before ↦ absurd (let zero_own : count_in g (gs ++ g ∷ []) ≡ 0 =
              none g before top in omega (arith, count_own))
          | inr after ↦ absurd (let zero_old : count_in h gs ≡ 0 =
              none_after h (omega arith) high in omega (arith, is.counts))
        ];
      }

  -- the spans with one more of shift g
  pub spans_grown : (cells : List Span) (i : ℕ) → i + 1 ≡ g → i < length cells
      → count_in g gs < GREATEST_SEQ → AreSpans gs cells
      → AreSpans (gs ++ g ∷ []) (set cells i (with_one_more (get_or cells i no_span) (length gs)))
  spans_grown cells i place within fewer are h low high =
      elim (cases_eq h g) [
        | inl own ↦
            let cell : h - 1 ≡ i = omega arith in
            let old : IsSpan g gs (get_or cells i no_span) =
            subst (λ (k : ℕ). IsSpan k gs (get_or cells i no_span)) own
            (subst (λ (k : ℕ). IsSpan h gs (get_or cells k no_span)) cell (are h low high)) in
            let new : IsSpan g (gs ++ g ∷ []) (with_one_more (get_or cells i no_span) (length gs)) =
            span_grown (get_or cells i no_span) old fewer in
            subst (λ (s : Span). IsSpan h (gs ++ g ∷ []) s)
            (sym (get_or-set_at cells i (h - 1)
            (with_one_more (get_or cells i no_span) (length gs)) no_span
            cell within))
            (subst (λ (k : ℕ). IsSpan k (gs ++ g ∷ [])
            (with_one_more (get_or cells i no_span) (length gs)))
            (sym own) new)
        | inr other ↦
            subst (λ (s : Span). IsSpan h (gs ++ g ∷ []) s)
            (sym (get_or-set_other cells i (h - 1)
            (with_one_more (get_or cells i no_span) (length gs))
            no_span (omega arith)))
            (span_kept h (get_or cells (h - 1) no_span) other high (are h low high))
      ]

-- what has no place isn't there
pub nowhere : (h n : ℕ) (xs : List Sale) → place_in h n (shifts_of xs) ≡ None
    → sale_in h n xs ≡ None
nowhere h n [] is = refl
nowhere h n (x ∷ xs) is =
    by_tests (x.shift == h) refl (n == 1) refl (λ m. nowhere h m xs)
  where
    none : (o : Option ℕ) → further o ≡ None → o ≡ None
    none None at = refl
    none (Some i) at = absurd cc

    by_tests : (a : Bool) → (x.shift == h) ≡ a → (b : Bool) → (n == 1) ≡ b
        → ((m : ℕ) → place_in h m (shifts_of xs) ≡ None → sale_in h m xs ≡ None)
        → sale_in h n (x ∷ xs) ≡ None
    by_tests true here true first behind =
        let at : place_in h n (shifts_of (x ∷ xs)) ≡ Some 0 = rw (here, first) refl in absurd cc
    by_tests true here false later behind =
        let at : place_in h n (shifts_of (x ∷ xs)) ≡ further (place_in h (n - 1) (shifts_of xs)) =
        rw (here, later) refl in
        rw (here, later) (behind (n - 1) (none (place_in h (n - 1) (shifts_of xs)) (sym at ∙ is)))
    by_tests false there b first behind =
        let at : place_in h n (shifts_of (x ∷ xs)) ≡ further (place_in h n (shifts_of xs)) =
        rw there refl in
        rw there (behind n (none (place_in h n (shifts_of xs)) (sym at ∙ is)))

-- a cell without sales says what no cell does
pub filled_more : (cells : List Span) (i : ℕ)
    → get_or (cells ++ no_span ∷ []) i no_span ≡ get_or cells i no_span
filled_more [] zero = refl
filled_more [] (suc i) = refl
filled_more (c ∷ cs) zero = refl
filled_more (c ∷ cs) (suc i) = filled_more cs i

-- room for one more is there only where each shift has a cell
pub room_full : (cells room : ℕ) → 0 < (if cells == GREATEST_SHIFT then room else 0)
    → cells ≡ GREATEST_SHIFT
room_full cells room some = by_test (cells == GREATEST_SHIFT) refl some
  where
    by_test : (b : Bool) → (cells == GREATEST_SHIFT) ≡ b → 0 < cond b room 0
        → cells ≡ GREATEST_SHIFT
    by_test true is some = same cells GREATEST_SHIFT is
    by_test false is some = absurd (omega arith)
