use Rattle.std.proofs.Common.{◌≡◌, None, ap, ◌∙◌, get_or}
use Rattle.meters.specs.Places.{place_in}
use Rattle.meters.proofs.Lookups.{is_place, is_there}
use Rattle.meters.proofs.meters.Meters.place.Goals as goal

pub returns : goal.returns
returns c =
    let items = c.self.inside.meters.items in
    let found : get_or c.self.inside.places c.cell_of.result None
    ≡ place_in c.args.p c.args.n items =
    ap (λ i. get_or c.self.inside.places i None) c.cell_of.ensures.place
    ∙ c.self.invariant.places c.args.p c.args.n c.cell_of.ensures.point.0
    c.cell_of.ensures.point.1 c.cell_of.ensures.nozzle.0 c.cell_of.ensures.nozzle.1 in
    rw (← c.self.view_is) (record {
      found = is_place c.args.p c.args.n items _ found;
      there = is_there c.args.p c.args.n items _ found;
    })
