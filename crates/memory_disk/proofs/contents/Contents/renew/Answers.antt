use Rattle.std.proofs.Common.{arith}
use Rattle.std.proofs.lemmas.Grind.{common_steps}
use Rattle.std.proofs.lemmas.List.{take_all}
use Rattle.memory_disk.proofs.Keeping.{keeps_renewed}
use Rattle.memory_disk.proofs.contents.Contents.renew.Goals as goal

pub returns-clause-moments : goal.returns-clause-moments
returns-clause-moments c =
    keeps_renewed c.args.octets.now c.args.self.now _ (grind (arith, common_steps))
    (grind (arith, common_steps)) (grind (arith, common_steps, take_all))
