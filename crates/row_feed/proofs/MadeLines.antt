-- Lines that are made one after another.
use Rattle.std.proofs.Common.{◌≡◌, ℕ, ◌+◌, ◌-◌, ◌<◌, ◌≤◌, true, List, [], ◌∷◌, ◌++◌, take}
use Rattle.std.proofs.Common.{length, Some, sym, ap, ◌∙◌, arith, nat_le, get_or}
use Rattle.std.proofs.Common.{append-nil, inl, inr, subst}
use Rattle.std.proofs.lemmas.Bool.Decides.{nat_tests}
use Rattle.std.proofs.lemmas.Grind.{flat_map-append}
use Rattle.std.proofs.lemmas.List.{get_or-drop, length-drop, take_all, take_more}
use Rattle.std.proofs.lemmas.Option.{slice_get-get_or}
use Rattle.row_json.specs.LastRows.{Last, first_of, line_at, line_if, lines_from}
use Rattle.row_feed.specs.declared.sizes.TheConstants.{FEED_OCTETS}
use Rattle.row_feed.specs.Feeds.{AreMade, joined}

-- so many lines there are from a row on
pub so_many : (l : Last) (from : ℕ) → length l.lines ≤ l.next → first_of l ≤ from
    → length (lines_from from l) ≡ l.next - from
so_many l from few there =
    let cut : length (lines_from from l) ≡ length l.lines - (from - first_of l) =
    length-drop (from - first_of l) l.lines in
    cut ∙ omega (arith, few, there)

-- the line of a row that there is
line_there : (l : Last) (number : ℕ) → length l.lines ≤ l.next → first_of l ≤ number
    → number < l.next → line_at l number ≡ Some (get_or l.lines (number - first_of l) [])
line_there l number few there more =
    let low : nat_le (first_of l) number ≡ true = grind (arith, nat_tests) in
    let within : number - first_of l < length l.lines = omega (arith, few, there, more) in
    rw low (slice_get-get_or l.lines (number - first_of l) [] within)

-- one line more
pub one_more : (l : Last) (from number : ℕ) → length l.lines ≤ l.next → first_of l ≤ from
    → from ≤ number → number < l.next
    → joined (take ((number - from) + 1) (lines_from from l))
    ≡ joined (take (number - from) (lines_from from l)) ++ line_if (line_at l number)
one_more l from number few there order more =
    let count : ℕ = number - from in
    let lines : List (List ℕ) = lines_from from l in
    let all : length lines ≡ l.next - from = so_many l from few there in
    let within : number - from < length (lines_from from l) = omega (arith, all, order, more) in
    let place : (from - first_of l) + (number - from) ≡ number - first_of l =
    omega (arith, there, order) in
    let line : get_or lines count [] ≡ get_or l.lines (number - first_of l) [] =
    get_or-drop (from - first_of l) l.lines count []
    ∙ ap (λ k. get_or l.lines k []) place in
    ap joined (take_more lines count [] within)
    ∙ flat_map-append (λ x. x) (take count lines) (get_or lines count [] ∷ [])
    ∙ ap (λ t. joined (take count lines) ++ t) (append-nil (get_or lines count []))
    ∙ ap (λ t. joined (take count lines) ++ t) line
    ∙ ap (λ o. joined (take count lines) ++ line_if o)
    (sym (line_there l number few (omega (arith, there, order)) more))

-- the next line doesn't fit
pub cut_made : (l : Last) (from number : ℕ) (before after : List ℕ) → length l.lines ≤ l.next
    → first_of l ≤ from → from ≤ number → number < l.next
    → before ≡ joined (take (number - from) (lines_from from l)) → length before ≤ FEED_OCTETS
    → after ≡ before ++ line_if (line_at l number) → FEED_OCTETS < length after
    → AreMade (lines_from from l) (number - from) before
cut_made l from number before after few there order more whole fit is large =
    let all : length (lines_from from l) ≡ l.next - from = so_many l from few there in
    let next : after ≡ joined (take ((number - from) + 1) (lines_from from l)) =
    is ∙ ap (λ t. t ++ line_if (line_at l number)) whole
    ∙ sym (one_more l from number few there order more) in
    record {
      within = omega (arith, all, order, more);
      whole = whole;
      fit = fit;
      most = inr (subst (λ t. FEED_OCTETS < length t) next large);
    }

-- no line is left
pub all_made : (l : Last) (from number count : ℕ) (text : List ℕ) → length l.lines ≤ l.next
    → first_of l ≤ from → l.next ≤ number
    → text ≡ joined (take (number - from) (lines_from from l)) → length text ≤ FEED_OCTETS
    → count ≡ l.next - from → AreMade (lines_from from l) count text
all_made l from number count text few there end whole fit is =
    let all : length (lines_from from l) ≡ l.next - from = so_many l from few there in
    let same : count ≡ length (lines_from from l) = is ∙ sym all in
    let far : length (lines_from from l) ≤ number - from = omega (arith, all, end) in
    let near : length (lines_from from l) ≤ count = omega (arith, same) in
    record {
      within = omega (arith, same);
      whole = whole ∙ ap joined (take_all (number - from) (lines_from from l) far
          ∙ sym (take_all count (lines_from from l) near));
      fit = fit;
      most = inl same;
    }
