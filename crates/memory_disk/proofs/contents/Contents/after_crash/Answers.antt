use Rattle.std.proofs.Common.{arith, refl}
use Rattle.std.proofs.lemmas.Grind.{common_steps}
use Rattle.std.proofs.lemmas.List.{take_all}
use Rattle.memory_disk.proofs.Keeping.{left_of}
use Rattle.memory_disk.proofs.contents.Contents.after_crash.Goals as goal

pub returns : goal.returns
returns c =
    rw (← c.left.view_is)
    (left_of c.args.kept c.left.inside.synced _ _ c.left.invariant.0 refl refl refl
    (grind (arith, common_steps)) (grind (arith, common_steps, take_all)) refl)
