use Rattle.std.proofs.Common.{◌∙◌, ap, arith, subst, sym, map}
use Rattle.std.proofs.lemmas.List.{take_at}
use Rattle.meter_table.specs.Counting.{AreWithin, begun}
use Rattle.meter_table.proofs.Readers.{begun_within, read_begun}
use Rattle.meter_table.proofs.meter_reader.MeterReader.begin_here.Goals as goal

pub invariant_of-self : goal.invariant_of-self
invariant_of-self c =
    let whole = take_at c.begin_again.new.figures _ c.self.inside.figures.len
    (omega (arith, c.begin_again.auto.figures, c.deref_mut.ensures.len)) in
    subst (AreWithin c.self.inside.site.site)
    (sym (whole ∙ c.begin_again.ensures ∙ ap (map begun) c.deref_mut.ensures.value))
    (begun_within c.self.inside.site.site c.self.inside.figures.items c.is_sound.ensures
    c.self.invariant)

pub returns : goal.returns
returns c = λ config start rows read.
    let whole = take_at c.begin_again.new.figures _ c.self.inside.figures.len
    (omega (arith, c.begin_again.auto.figures, c.deref_mut.ensures.len)) in
    read_begun config start rows c.args.self.now _
    (ap (λ m. m.site) c.self.view_is)
    (whole ∙ c.begin_again.ensures ∙ ap (map begun) c.deref_mut.ensures.value
    ∙ ap (λ m. map begun m.figures) c.self.view_is) read
