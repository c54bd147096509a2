-- The rows that can be fed are the last stored ones.
use Rattle.std.proofs.Common.{◌≡◌, ℕ, ◌+◌, ◌-◌, ◌≤◌, true, List, [], ◌∷◌, ◌++◌, drop, length}
use Rattle.std.specs.Prelude.{Option}
use Rattle.site_base.specs.declared.row.Row.{Row}
use Rattle.std.proofs.Common.{sym, ap, ◌∙◌, arith, nat_le, length-append}
use Rattle.std.proofs.lemmas.Bool.Decides.{nat_tests}
use Rattle.std.proofs.lemmas.List.{drop-append-le, drop-drop, length-drop}
use Rattle.row_json.specs.declared.sizes.TheConstants.{LAST_ROWS}
use Rattle.row_json.specs.LastRows.{Last, first_of, lines_from, next_line, with_row}
use Rattle.row_feed.specs.FeedLaws.{AreLast}

-- a list of so many, cut at the front
cut_length : (xs : List (List ℕ)) (k n : ℕ) → length xs ≡ n → length (drop k xs) ≡ n - k
cut_length xs k n whole = length-drop k xs ∙ ap (λ m. m - k) whole

pub last_with : (f : Last) (stored : List (List ℕ)) (time : Option (List ℕ)) (row : Row)
    → AreLast f stored → AreLast (with_row time row f) (stored ++ next_line time row f ∷ [])
last_with f stored time row last =
    let r : List ℕ = next_line time row f in
    let have : ℕ = length f.lines in
    let all : ℕ = length stored in
    let more : length (f.lines ++ r ∷ []) ≡ have + 1 = length-append f.lines (r ∷ []) in
    let grown : length (stored ++ r ∷ []) ≡ all + 1 = length-append stored (r ∷ []) in
    let cut : ℕ = length (f.lines ++ r ∷ []) - LAST_ROWS in
    let left : length (drop cut (f.lines ++ r ∷ [])) ≡ (have + 1) - cut =
    cut_length (f.lines ++ r ∷ []) cut (have + 1) more in
    let rows : f.lines ++ r ∷ [] ≡ drop (all - have) (stored ++ r ∷ []) =
    ap (λ xs. xs ++ r ∷ []) last.last
    ∙ sym (drop-append-le (all - have) stored (r ∷ []) (omega arith)) in
    let few : have ≤ all = last.few in
    let place : (all - have) + cut
    ≡ length (stored ++ r ∷ []) - length (drop cut (f.lines ++ r ∷ [])) =
    omega (arith, grown, left, more, few) in
    record {
      few = omega (arith, grown, left, few);
      next = ap (λ n. n + 1) last.next ∙ sym grown;
      last = ap (λ xs. drop cut xs) rows ∙ drop-drop cut (all - have) (stored ++ r ∷ [])
          ∙ ap (λ k. drop k (stored ++ r ∷ [])) place;
    }

pub from_stored : (f : Last) (stored : List (List ℕ)) (n : ℕ) → AreLast f stored
    → nat_le (first_of f) n ≡ true → lines_from n f ≡ drop n stored
from_stored f stored n last there =
    let few : length f.lines ≤ length stored = last.few in
    let next : f.next ≡ length stored = last.next in
    let low : f.next - length f.lines ≤ n = grind (arith, nat_tests) in
    let place : (length stored - length f.lines) + (n - first_of f) ≡ n =
    omega (arith, few, next, low) in
    ap (λ xs. drop (n - first_of f) xs) last.last
    ∙ drop-drop (n - first_of f) (length stored - length f.lines) stored
    ∙ ap (λ k. drop k stored) place
