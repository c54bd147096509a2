-- The kept rows of a history are a history, and lead where all its rows lead.
use Rattle.std.specs.Prelude.{◌≡◌, List}
use Rattle.site_base.specs.declared.row.Row.{Row}
use Rattle.written_site.specs.SiteState.{SiteState}
use Rattle.written_site.specs.SiteRun.{site_of_rows, IsLegal}
use Rattle.kept_history.specs.KeptRows.{kept_rows}

-- the kept rows are enough: alone they are legal from this site, and lead where all lead
pub record AreEnough (s : SiteState) (rows : List Row) : Type 0 where
  pub legal : IsLegal s (kept_rows rows)
  pub leads : site_of_rows s (kept_rows rows) ≡ site_of_rows s rows

-- of each legal history, from each site
abbrev pub CanLeaveOutReads : Type 0
CanLeaveOutReads = (s : SiteState) (rows : List Row) → IsLegal s rows → AreEnough s rows
