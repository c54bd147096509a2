use Rattle.std.proofs.Common.{arith}
use Rattle.std.proofs.lemmas.Grind.{common_steps}
use Rattle.std.proofs.lemmas.List.{take_all}
use Rattle.memory_disk.proofs.Keeping.{keeps_synced}
use Rattle.memory_disk.proofs.contents.Contents.sync.Goals as goal

pub returns-then-self-clause-moments : goal.returns-then-self-clause-moments
returns-then-self-clause-moments c =
    keeps_synced c.self.inside.synced c.args.self.now _ (grind (arith, common_steps))
    (grind (arith, common_steps)) (grind (arith, common_steps))
    (grind (arith, common_steps, take_all))
