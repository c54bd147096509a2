use Rattle.std.proofs.Common.{length}
use Rattle.demo.proofs.dispenser.+nozzles_of.Given as goal

abbrev pub decreases-nozzles_of : goal.decreases-nozzles_of
decreases-nozzles_of l = length l.points.now
