use Rattle.meter_table.proofs.GapLines.{no_gap_is_lost as law}
use Rattle.meter_table.proofs.laws.no_gap_is_lost.Goals as goal

pub returns : goal.returns
returns c = law
