use Rattle.std.proofs.Common.{◌≡◌, take}
use Rattle.std.specs.FinSet as set
use Rattle.site_core.proofs.tills.Tills.from_list.Given as goal

abbrev pub invariant-loop-till : goal.invariant-loop-till
invariant-loop-till l = l.set ≡ set.from_list (take l.till-index l.tills)
