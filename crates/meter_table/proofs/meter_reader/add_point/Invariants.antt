use Rattle.std.proofs.Common.{◌≡◌, ◌+◌, ◌++◌, [], drop, map}
use Rattle.meters.specs.Nozzles.{number_nozzles}
use Rattle.meter_table.specs.Counting.{AreThere}
use Rattle.meter_table.specs.Figures.{figures_of}
use Rattle.meter_table.proofs.meter_reader.add_point.Given as goal

-- what is to follow is the figures of the nozzles that are left, and they are there
abbrev pub invariant-loop-place : goal.invariant-loop-place
invariant-loop-place l = record {
  added : l.figures.items ++ map (figures_of l.site.site [])
      (number_nozzles l.entry.number (l.place + 1) (drop l.place l.entry.nozzles))
      ≡ l.fn.figures.items ++ map (figures_of l.site.site [])
      (number_nozzles l.entry.number 1 l.entry.nozzles);
  there : AreThere l.site.site.nozzles
      (number_nozzles l.entry.number (l.place + 1) (drop l.place l.entry.nozzles));
}
