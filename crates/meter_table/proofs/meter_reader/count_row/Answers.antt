use Rattle.std.proofs.Common.{◌≡◌, ◌∙◌, Bool, Option, ℕ, ap, map, subst, sym}
use Rattle.site_base.specs.declared.row.Row.{Row}
use Rattle.site_base.specs.Events.{point_named}
use Rattle.written_site.specs.SiteState.{SiteState}
use Rattle.meter_table.specs.Counting.{AreCountable, AreWithin, counted_at, is_test_at, with_row}
use Rattle.meter_table.proofs.Readers.{all_countable, all_within, counted_all}
use Rattle.meter_table.proofs.meter_reader.count_row.Goals as goal

pub count_at-requires : goal.count_at-requires
count_at-requires c =
    let told : Row = record {
      actor = c.args.row.now.actor;
      event = c.args.row.now.event;
      reply = c.step.result;
    } in
    let leads = c.step.ensures.step.leads in
    subst (λ (later : SiteState). AreCountable c.point-point.result later told c.args.figures.now)
    (sym leads)
    (all_countable c.args.site.now.site told c.point-point.result c.args.figures.now
    c.is_sound.ensures c.reading.ensures.range c.step.ensures.step.replies c.requires.within)

counts : (c : goal.After-figures-1) → c.count_at.new.figures
    ≡ map (with_row c.args.site.now.site c.args.row.now) c.args.figures.now
counts c =
    let s = c.args.site.now.site in
    let told : Row = record {
      actor = c.args.row.now.actor;
      event = c.args.row.now.event;
      reply = c.step.result;
    } in
    let xs = c.args.figures.now in
    let point = c.point-point.ensures in
    c.count_at.ensures
    ∙ ap (λ (o : Option ℕ). map (counted_at o c.step.new.self.site told c.is_test-test.result) xs)
    point
    ∙ ap (λ (b : Bool). map (counted_at (point_named told.event) c.step.new.self.site told b) xs)
    (c.is_test-test.ensures ∙ ap (is_test_at s) point)
    ∙ ap (λ (later : SiteState). map (counted_at (point_named told.event) later told
    (is_test_at s (point_named told.event))) xs) c.step.ensures.step.leads
    ∙ counted_all s told xs c.is_sound.ensures c.reading.ensures.range
    c.step.ensures.step.replies c.requires.within

pub returns-clause-within : goal.returns-clause-within
returns-clause-within c =
    let s = c.args.site.now.site in
    let r = c.args.row.now in
    subst (AreWithin c.step.new.self.site) (sym (counts c))
    (subst (λ (later : SiteState). AreWithin later (map (with_row s r) c.args.figures.now))
    (sym c.step.ensures.step.leads)
    (all_within s r c.args.figures.now c.is_sound.ensures c.reading.ensures.range
    c.requires.within))

pub returns-clause-figures : goal.returns-clause-figures
returns-clause-figures c = counts c
