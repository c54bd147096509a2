use Rattle.forecourt_engines.proofs.NozzleCount.{as_many_nozzles}
use Rattle.forecourt_engines.proofs.sizes.Sizes.of.Goals as goal

pub nozzles_of-requires : goal.nozzles_of-requires
nozzles_of-requires c =
    rw c.points-points.ensures.value
    (as_many_nozzles c.args.config.now.products _ c.points-points.ensures.fit)
