-- Rows that the feed reads, more and more of them.
use Rattle.std.proofs.Common.{◌≡◌, ℕ, ◌≤◌, ◌<◌, ◌+◌, false, true, List, [], ◌∷◌, ◌++◌, length, Option}
use Rattle.std.proofs.Common.{Some, ap, refl, sym, take, ◌∙◌}
use Rattle.std.specs.Prelude.{slice_get}
use Rattle.site_base.specs.declared.row.Row.{Row}
use Rattle.kept_history.specs.KeptRows.{is_kept, kept_rows}
use Rattle.row_json.specs.LastRows.{Last, with_row}
use Rattle.chapters.specs.RowText.{kept_behind}
use Rattle.chapters.proofs.Kept.{kept_one}
use Rattle.chapters.proofs.Rows.{all_kept, kept_more, none_yet}
use Rattle.peer_connections.specs.Fed.{with_rows}

-- some rows, and then more
pub with_both : (time : Option (List ℕ)) (a b : List Row) (l : Last)
    → with_rows time (a ++ b) l ≡ with_rows time b (with_rows time a l)
with_both time [] b l = refl
with_both time (r ∷ a) b l = with_both time a b (with_row time r l)

-- a row that isn't kept isn't read
pub fed_none : (time : Option (List ℕ)) (r : Row) (l : Last) → is_kept r ≡ false
    → l ≡ with_rows time (kept_rows (r ∷ [])) l
fed_none time r l is = sym (ap (λ (rows : List Row). with_rows time rows l) (kept_one r false is))

-- .. one that is is
pub fed_one : (time : Option (List ℕ)) (r : Row) (l m : Last) → is_kept r ≡ true
    → m ≡ with_row time r l → m ≡ with_rows time (kept_rows (r ∷ [])) l
fed_one time r l m is read =
    read ∙ sym (ap (λ (rows : List Row). with_rows time rows l) (kept_one r true is))

-- none yet
pub fed_begun : (time : Option (List ℕ)) (rows : List Row) (from : ℕ) (l : Last)
    → l ≡ with_rows time (kept_behind from (take from rows)) l
fed_begun time rows from l =
    sym (ap (λ (rs : List Row). with_rows time rs l) (none_yet rows from))

-- the one at the next place
pub fed_more : (time : Option (List ℕ)) (rows : List Row) (from n : ℕ) (r : Row) (k l m : Last)
    → from ≤ n → n < length rows → slice_get rows n ≡ Some r
    → l ≡ with_rows time (kept_behind from (take n rows)) k
    → m ≡ with_rows time (kept_rows (r ∷ [])) l
    → m ≡ with_rows time (kept_behind from (take (n + 1) rows)) k
fed_more time rows from n r k l m high within there some one =
    one
    ∙ ap (with_rows time (kept_rows (r ∷ []))) some
    ∙ sym (with_both time (kept_behind from (take n rows)) (kept_rows (r ∷ [])) k)
    ∙ sym (ap (λ (rs : List Row). with_rows time rs k)
    (kept_more rows from n r high within there))

-- all of them
pub fed_all : (time : Option (List ℕ)) (rows : List Row) (from n : ℕ) (k l : Last)
    → length rows ≤ n → l ≡ with_rows time (kept_behind from (take n rows)) k
    → l ≡ with_rows time (kept_behind from rows) k
fed_all time rows from n k l long some =
    some ∙ ap (λ (rs : List Row). with_rows time rs k) (all_kept rows from n long)
