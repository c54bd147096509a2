use Rattle.std.proofs.Common.{◌≡◌, ◌++◌, drop, map, take}
use Rattle.meter_table.specs.Counting.{begun}
use Rattle.meter_table.proofs.meter_reader.begin_again.Given as goal

-- the figures up to here have begun again
abbrev pub invariant-loop-entry : goal.invariant-loop-entry
invariant-loop-entry l =
    take l.entry-index l.figures ++ map begun (drop l.entry-index l.figures)
    ≡ map begun l.fn.figures
