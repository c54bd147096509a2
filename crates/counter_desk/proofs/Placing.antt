-- The place of a new row.
use Rattle.std.proofs.Common.{◌≡◌, List, [], ◌∷◌, ◌++◌, length, Some, slice_get, refl, subst}
use Rattle.site_base.specs.declared.row.Row.{Row}
use Rattle.site_base.specs.Configured.{Configured}
use Rattle.written_site.specs.SiteRun.{IsLegal}
use Rattle.written_site.specs.SiteState.{opening}

-- the row behind these rows stands at as many
pub stands_last : (rows : List Row) (r : Row) → slice_get (rows ++ r ∷ []) (length rows) ≡ Some r
stands_last [] r = refl
stands_last (x ∷ rows) r = stands_last rows r

pub legal_of : (c d : Configured) (rows : List Row) → c ≡ d → IsLegal (opening c) rows
    → IsLegal (opening d) rows
legal_of c d rows same legal = subst (λ x. IsLegal (opening x) rows) same legal
