-- Jumps of replaced meters as JSON. Members stand in the order of their names.
use Rattle.std.specs.Prelude.{ℕ, ◌+◌, ◌/◌, ◌%◌, List, [], ◌∷◌, ◌++◌, Option, Some, None, codes}
use Rattle.std.specs.Prelude.{if◌then◌else◌, nat_lt}
use Rattle.serde_json.specs.Data.{Data, null, object, member, no_members}
use Rattle.site_base.specs.declared.limits.TheConstants.{NOZZLES}
use Rattle.day_report.specs.Figures.{figure, listed}
use Rattle.row_tally.specs.declared.meter_jumps.MeterJumps.{MeterJumps}
use Rattle.row_tally.specs.Tally.{Tally}

-- the nozzle of a cell: how often its meter was replaced, and how far its readings rose and fell
-- thereby
abbrev pub jump_data : ℕ → MeterJumps → Data
jump_data cell x =
    object
    (member (codes "lowered") (figure x.lowered)
    (member (codes "nozzle") (figure (cell % NOZZLES + 1))
    (member (codes "point") (figure (cell / NOZZLES + 1))
    (member (codes "raised") (figure x.raised)
    (member (codes "replaced") (figure x.replaced)
    no_members)))))

-- the same, if its meter was replaced
abbrev pub jump_if : ℕ → MeterJumps → List Data
jump_if cell x = if nat_lt 0 x.replaced then jump_data cell x ∷ [] else []

-- the nozzles, from this cell on, whose meters were replaced
abbrev pub jumps_from : ℕ → List MeterJumps → List Data
jumps_from cell [] = []
jumps_from cell (x ∷ xs) = jump_if cell x ++ jumps_from (cell + 1) xs

-- the nozzles whose meters were replaced, if there is a tally
abbrev pub jumps_data : Option Tally → Data
jumps_data None = null
jumps_data (Some t) = listed (jumps_from 0 t.jumps)
