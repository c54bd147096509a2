use Rattle.std.proofs.Common.{◌≡◌, ◌++◌, drop, map, take}
use Rattle.meter_table.specs.Counting.{AreCountable, counted_at}
use Rattle.meter_table.proofs.meter_reader.count_at.Given as goal

-- the figures up to here have the row, those behind can be counted
abbrev pub invariant-loop-entry : goal.invariant-loop-entry
invariant-loop-entry l = record {
  counted : take l.entry-index l.figures
      ++ map (counted_at l.point l.site.site l.row l.test) (drop l.entry-index l.figures)
      ≡ map (counted_at l.point l.site.site l.row l.test) l.fn.figures;
  countable : AreCountable l.point l.site.site l.row (drop l.entry-index l.figures);
}
