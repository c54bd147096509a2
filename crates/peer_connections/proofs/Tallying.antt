-- Rows that join a tally, more and more of them.
use Rattle.std.proofs.Common.{◌≡◌, ℕ, ◌≤◌, ◌<◌, ◌+◌, List, [], ◌∷◌, ◌++◌, length, Option}
use Rattle.std.proofs.Common.{Some, ap, refl, sym, take, ◌∙◌}
use Rattle.std.specs.Prelude.{slice_get}
use Rattle.site_base.specs.declared.row.Row.{Row}
use Rattle.kept_history.specs.KeptRows.{kept_rows}
use Rattle.row_tally.specs.Tally.{Tally, with_all, with_row}
use Rattle.chapters.specs.RowText.{kept_behind}
use Rattle.chapters.proofs.Rows.{all_kept, kept_more, none_yet}

-- some rows, and then more
pub with_both : (time : Option (List ℕ)) (a b : List Row) (l : Tally)
    → with_all time (a ++ b) l ≡ with_all time b (with_all time a l)
with_both time [] b l = refl
with_both time (r ∷ a) b l = with_both time a b (with_row time r l)

-- none yet
pub tallied_begun : (time : Option (List ℕ)) (rows : List Row) (from : ℕ) (l : Tally)
    → l ≡ with_all time (kept_behind from (take from rows)) l
tallied_begun time rows from l =
    sym (ap (λ (rs : List Row). with_all time rs l) (none_yet rows from))

-- the one at the next place
pub tallied_more : (time : Option (List ℕ)) (rows : List Row) (from n : ℕ) (r : Row) (k l m : Tally)
    → from ≤ n → n < length rows → slice_get rows n ≡ Some r
    → l ≡ with_all time (kept_behind from (take n rows)) k
    → m ≡ with_all time (kept_rows (r ∷ [])) l
    → m ≡ with_all time (kept_behind from (take (n + 1) rows)) k
tallied_more time rows from n r k l m high within there some one =
    one
    ∙ ap (with_all time (kept_rows (r ∷ []))) some
    ∙ sym (with_both time (kept_behind from (take n rows)) (kept_rows (r ∷ [])) k)
    ∙ sym (ap (λ (rs : List Row). with_all time rs k)
    (kept_more rows from n r high within there))

-- all of them
pub tallied_all : (time : Option (List ℕ)) (rows : List Row) (from n : ℕ) (k l : Tally)
    → length rows ≤ n → l ≡ with_all time (kept_behind from (take n rows)) k
    → l ≡ with_all time (kept_behind from rows) k
tallied_all time rows from n k l long some =
    some ∙ ap (λ (rs : List Row). with_all time rs k) (all_kept rows from n long)
