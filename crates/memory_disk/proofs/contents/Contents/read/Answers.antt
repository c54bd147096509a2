use Rattle.std.proofs.Common.{arith}
use Rattle.std.proofs.lemmas.Grind.{common_steps}
use Rattle.memory_disk.proofs.Keeping.{begins_taken}
use Rattle.memory_disk.proofs.contents.Contents.read.Goals as goal

pub returns : goal.returns
returns c =
    rw (← c.self.view_is)
    (grind (arith, common_steps), begins_taken c.self.inside.synced c.self.inside.octets.items)
