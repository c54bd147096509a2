use Rattle.std.proofs.Common.{◌≡◌, ◌++◌, [], drop, map}
use Rattle.meters.specs.Nozzles.{nozzles_of_points}
use Rattle.meter_table.specs.Counting.{AreThere}
use Rattle.meter_table.specs.Figures.{figures_of}
use Rattle.meter_table.proofs.meter_reader.opening_figures.Given as goal

-- what is to follow is the figures of the points that are left, whose nozzles are there
abbrev pub invariant-loop-entry : goal.invariant-loop-entry
invariant-loop-entry l = record {
  added : l.figures.items ++ map (figures_of l.site.site [])
      (nozzles_of_points (drop l.entry-index l.entry-items))
      ≡ map (figures_of l.site.site []) (nozzles_of_points l.entry-items);
  there : AreThere l.site.site.nozzles (nozzles_of_points (drop l.entry-index l.entry-items));
}
