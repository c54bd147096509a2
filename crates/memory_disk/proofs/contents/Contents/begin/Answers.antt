use Rattle.std.proofs.Common.{arith}
use Rattle.std.proofs.lemmas.Grind.{common_steps}
use Rattle.memory_disk.proofs.Keeping.{keeps_closed}
use Rattle.memory_disk.proofs.contents.Contents.begin.Goals as goal

pub returns-clause-moments : goal.returns-clause-moments
returns-clause-moments c =
    keeps_closed c.self.inside.synced c.args.self.now _ (grind (arith, common_steps))
    (grind (arith, common_steps)) (grind (arith, common_steps))
