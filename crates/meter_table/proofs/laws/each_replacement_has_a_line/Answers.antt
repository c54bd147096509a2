use Rattle.meter_table.proofs.GapLines.{each_replacement_has_a_line as law}
use Rattle.meter_table.proofs.laws.each_replacement_has_a_line.Goals as goal

pub returns : goal.returns
returns c = law
