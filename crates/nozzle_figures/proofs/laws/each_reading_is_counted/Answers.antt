use Rattle.nozzle_figures.proofs.NozzleMoves.{each_reading_is_counted as law}
use Rattle.nozzle_figures.proofs.laws.each_reading_is_counted.Goals as goal

pub returns : goal.returns
returns c = law
