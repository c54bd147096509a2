use Rattle.meter_table.proofs.GapLines.{each_refused_reading_has_a_run as law}
use Rattle.meter_table.proofs.laws.each_refused_reading_has_a_run.Goals as goal

pub returns : goal.returns
returns c = law
