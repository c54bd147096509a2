use Rattle.meter_table.proofs.Lines.{each_whole_line_adds_up as law}
use Rattle.meter_table.proofs.laws.each_whole_line_adds_up.Goals as goal

pub returns : goal.returns
returns c = law
