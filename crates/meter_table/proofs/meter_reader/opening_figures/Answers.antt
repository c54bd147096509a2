use Rattle.std.proofs.Common.{◌≡◌, ◌∙◌, ◌+◌, ◌++◌, List, [], ap, drop, map, subst, sym, rules}
use Rattle.std.proofs.lemmas.List.{append-nil, drop_all}
use Rattle.site_base.specs.declared.config.PointEntry.{PointEntry}
use Rattle.meters.specs.Nozzles.{nozzles_of_points}
use Rattle.meter_table.specs.Counting.{AreWithin}
use Rattle.meter_table.specs.Figures.{figures_of}
use Rattle.meter_table.proofs.Readers.{opening_there, opening_within, parts_added, parts_there}
use Rattle.meter_table.proofs.meter_reader.opening_figures.Goals as goal

pub loop-entry-init : goal.loop-entry-init
loop-entry-init c = record {
  added = search rules;
  there = opening_there c.args.site.now.site
      c.args.config.now c.points-entry-items.result.now c.requires
      c.points-entry-items.ensures.value;
}

pub add_point-requires-clause-there : goal.add_point-requires-clause-there
add_point-requires-clause-there c =
    (parts_there c.args.site.now.site.nozzles c.loop-entry.entry-index
    c.points-entry-items.result.now c.entry-item.result c.loop-entry-test.true c.entry-item.is
    c.loop-entry.invariant.there).here

pub loop-entry-preserved : goal.loop-entry-preserved
loop-entry-preserved c =
    let s = c.args.site.now.site in
    record {
      added = ap (λ xs. xs ++ map (figures_of s [])
          (nozzles_of_points (drop (c.loop-entry.entry-index + 1)
          c.points-entry-items.result.now))) c.in_ok-add_point.ensures
          ∙ parts_added s c.loop-entry.entry-index c.points-entry-items.result.now
          c.entry-item.result c.loop-entry.figures.items _ c.loop-entry-test.true c.entry-item.is
          c.loop-entry.invariant.added;
      there = (parts_there s.nozzles c.loop-entry.entry-index
          c.points-entry-items.result.now c.entry-item.result c.loop-entry-test.true
          c.entry-item.is c.loop-entry.invariant.there).behind;
    }

pub returns-clause-within : goal.returns-clause-within
returns-clause-within c =
    let s = c.args.site.now.site in
    let points : List PointEntry = c.points-entry-items.result.now in
    let none_left : drop c.loop-entry.entry-index points ≡ [] =
    drop_all c.loop-entry.entry-index points c.loop-entry-test.false in
    let all : c.loop-entry.figures.items ≡ map (figures_of s []) (nozzles_of_points points) =
    sym (append-nil c.loop-entry.figures.items)
    ∙ ap (λ (ps : List PointEntry).
    c.loop-entry.figures.items ++ map (figures_of s []) (nozzles_of_points ps)) (sym none_left)
    ∙ c.loop-entry.invariant.added in
    subst (AreWithin s) (sym all)
    (opening_within s (nozzles_of_points points) c.is_sound.ensures
    (opening_there s c.args.config.now points c.requires c.points-entry-items.ensures.value))
