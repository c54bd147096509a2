use Rattle.std.proofs.Common.{◌≡◌, List, sym, subst, ap, ◌∙◌}
use Rattle.std.proofs.Math.ListN.{set}
use Rattle.meters.specs.Nozzles.{Nozzle, with_meter, replaced_at}
use Rattle.meters.specs.Places.{AreKept}
use Rattle.meters.proofs.KeptTotals.{kept_replaced}
use Rattle.meters.proofs.meters.Meters.replace.Goals as goal

pub invariant_of-self : goal.invariant_of-self
invariant_of-self c =
    let items : List Nozzle = c.self.inside.meters.items in
    let found = rw (← c.self.view_is) at c.in-Some.ensures.found in
    let requires = rw (← c.self.view_is) at c.requires in
    let written : with_meter c.args.p c.args.n c.args.reading items
    ≡ set items c.in-Some.place c.replace.new.self =
    found.replaces c.args.reading c.index_mut-meter.result.now
    ∙ ap (λ (x : Nozzle). set items c.in-Some.place (replaced_at c.args.reading x))
    (sym c.index_mut-meter.ensures.value)
    ∙ ap (set items c.in-Some.place) (sym c.replace.ensures.meter) in
    subst (λ xs. AreKept xs c.self.inside.places c.self.inside.totals) written
    (kept_replaced items c.self.inside.places c.self.inside.totals c.args.p c.args.n
    c.args.reading c.self.invariant requires.fewer c.replace.ensures.range)
