-- A list of rows, one after another.
use Rattle.std.proofs.Common.{◌≡◌, ℕ, zero, suc, ◌+◌, ◌<◌, Bool, true, false, List, [], ◌∷◌, ◌++◌}
use Rattle.std.proofs.Common.{take, drop, length, filter, slice_get, Some, None, sym, ap, ◌∙◌, refl}
use Rattle.std.proofs.Common.{if◌then◌else◌, arith}
use Rattle.std.proofs.lemmas.List.{drop_more, take_more}
use Rattle.std.proofs.lemmas.Option.{slice_get_within, get_or_from_slice_get}
use Rattle.site_base.specs.declared.row.Row.{Row}
use Rattle.written_site.specs.SiteState.{SiteState}
use Rattle.written_site.specs.SiteStep.{site_after}
use Rattle.written_site.specs.SiteRun.{site_of_rows}
use Rattle.written_site.proofs.Histories.{site_of_rows-push}
use Rattle.site_book.specs.Changes.{changes_from, is_changing}

-- the site of one row more
pub site_more : (first s new : SiteState) (rows : List Row) (i : ℕ) (r : Row)
    → s ≡ site_of_rows first (take i rows) → slice_get rows i ≡ Some r
    → new ≡ site_of_rows s (r ∷ []) → new ≡ site_of_rows first (take (i + 1) rows)
site_more first s new rows i r so_far found leads =
    leads
    ∙ ap (λ x. site_after x r.actor r.event) so_far
    ∙ sym (site_of_rows-push first (take i rows) r)
    ∙ ap (λ x. site_of_rows first (take i rows ++ x ∷ []))
    (sym (get_or_from_slice_get rows i r r found))
    ∙ ap (site_of_rows first) (sym (take_more rows i r (slice_get_within rows i r found)))

-- the changes from a place on are that of its row, if it has one, and those behind it
pub changes_more : (rows : List Row) (at : ℕ) (r : Row) → slice_get rows at ≡ Some r
    → changes_from at rows ≡ filter is_changing (r ∷ []) ++ changes_from (at + 1) rows
changes_more rows at r found =
    ap (filter is_changing) (drop_more rows at r (slice_get_within rows at r found))
    ∙ ap (λ x. filter is_changing (x ∷ drop (at + 1) rows))
    (get_or_from_slice_get rows at r r found)
    ∙ by_test (is_changing r)
  where
    by_test : (b : Bool)
        → (if b then r ∷ changes_from (at + 1) rows else changes_from (at + 1) rows)
        ≡ (if b then r ∷ [] else []) ++ changes_from (at + 1) rows
    by_test true = refl
    by_test false = refl

-- there is a row at each place within
pub none_within : (rows : List Row) (i : ℕ) → i < length rows → slice_get rows i ≡ None → ⊥
none_within [] i within none = omega (arith, within)
none_within (r ∷ rows) zero within none = cc
none_within (r ∷ rows) (suc i) within none = none_within rows i (omega (arith, within)) none
