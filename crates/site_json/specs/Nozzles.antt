-- The nozzles of a fuelling point as JSON. Members stand in the order of their names.
use Rattle.std.specs.Prelude.{List, codes, map}
use Rattle.serde_json.specs.Data.{Data, object, member, no_members}
use Rattle.site_base.specs.declared.config.PointEntry.{PointEntry}
use Rattle.meters.specs.Nozzles.{Nozzle, last_of, nozzles_of_point}
use Rattle.written_site.specs.SiteState.{SiteState}
use Rattle.day_report.specs.Figures.{figure}
use Rattle.site_json.specs.Figures.{figure_if}

-- a nozzle: its number, its product, and what its meter reads at the site
abbrev pub nozzle_data : SiteState → Nozzle → Data
nozzle_data s x =
    object
    (member (codes "number") (figure x.number)
    (member (codes "product") (figure x.product)
    (member (codes "reading") (figure_if (last_of x.point x.number s.nozzles))
    no_members)))

-- the nozzles of a configured point, in their order
abbrev pub nozzles_data : SiteState → PointEntry → List Data
nozzles_data s e = map (nozzle_data s) (nozzles_of_point e)
