-- Open gaps as JSON. Members stand in the order of their names.
use Rattle.std.specs.Prelude.{List, Option, Some, None, codes, map}
use Rattle.serde_json.specs.Data.{Data, null, object, member, no_members}
use Rattle.site_base.specs.Refusals.{refusal_number}
use Rattle.day_report.specs.Figures.{figure, listed}
use Rattle.row_tally.specs.declared.refused_run.RefusedRun.{RefusedRun}
use Rattle.row_tally.specs.Tally.{Tally}
use Rattle.site_json.specs.Figures.{text_if}

-- an open gap: where it is, what the meter reads and what was reported last, why that was refused,
-- and the row and the time of the first reading that was refused
abbrev pub gap_data : RefusedRun → Data
gap_data x =
    object
    (member (codes "expected") (figure x.expected)
    (member (codes "nozzle") (figure x.nozzle)
    (member (codes "point") (figure x.point)
    (member (codes "refusal") (figure (refusal_number x.refusal))
    (member (codes "reported") (figure x.reported)
    (member (codes "row") (figure x.first.row)
    (member (codes "since") (text_if x.first.at)
    no_members)))))))

-- the open gaps, if there is a tally
abbrev pub gaps_data : Option Tally → Data
gaps_data None = null
gaps_data (Some t) = listed (map gap_data t.runs)
