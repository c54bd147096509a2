use Rattle.std.proofs.Common.{◌≡◌, ◌<◌, ◌≤◌, ◌+◌, ◌-◌, List, length, get_or, arith, rules, sym}
use Rattle.std.proofs.Common.{subst, ap, ◌∙◌}
use Rattle.std.proofs.Math.ListN.{set}
use Rattle.meters.specs.declared.report.Report.TheVariants.{Growing}
use Rattle.meters.specs.Nozzles.{Nozzle, reading_of, with_last, read_at}
use Rattle.meters.specs.MeteredVolumes.{most_of_a_site}
use Rattle.meters.specs.Places.{AreKept}
use Rattle.meters.specs.Reports.{growth_of}
use Rattle.meters.proofs.Lookups.{reading_is}
use Rattle.meters.proofs.Weights.{accepted_above}
use Rattle.meters.proofs.KeptTotals.{fits, kept_read}
use Rattle.meters.proofs.meters.Meters.advance.Goals as goal
use Rattle.meters.proofs.meters.Meters.advance.Goals.{After-cell}

-- the nozzle as it was
abbrev nozzle_was : After-cell → Nozzle
nozzle_was c = get_or c.self.inside.meters.items c.in-Some.place c.index_mut-meter.result.now

above : (c : After-cell) → (nozzle_was c).last ≤ c.args.reading
above c =
    let items : List Nozzle = c.self.inside.meters.items in
    let found = rw (← c.self.view_is) at c.in-Some.ensures.found in
    let accepted = rw (← c.self.view_is) at c.requires.accepted in
    let read : reading_of c.args.p c.args.n items ≡ (nozzle_was c).last =
    reading_is c.args.p c.args.n items (nozzle_was c) (found.nozzle c.index_mut-meter.result.now) in
    omega (
      arith,
      read,
      accepted_above Growing (reading_of c.args.p c.args.n items) c.args.reading accepted,
    )

its : (c : After-cell) → c.cell.result + 1 ≡ (nozzle_was c).product
its c = c.cell.ensures.place ∙ c.product-product.ensures
    ∙ ap (λ (x : Nozzle). x.product) c.index_mut-meter.ensures.value

grown : (c : After-cell) → c.advance-growth.result ≡ c.args.reading - (nozzle_was c).last
grown c = c.advance-growth.ensures.growth
    ∙ ap (λ (x : Nozzle). growth_of x.last c.args.reading) c.index_mut-meter.ensures.value

fitting : (c : After-cell) → get_or c.self.inside.totals c.cell.result 0 + c.advance-growth.result
    ≤ most_of_a_site
fitting c =
    let found = rw (← c.self.view_is) at c.in-Some.ensures.found in
    let within : c.cell.result < length c.self.inside.totals = omega arith in
    let is = grown c in
    rw is (fits c.self.inside.meters.items c.self.inside.places c.self.inside.totals c.args.p
    c.args.n
    c.args.reading c.cell.result (nozzle_was c) c.self.invariant
    (found.nozzle c.index_mut-meter.result.now) (above c) c.advance-growth.ensures.range (its c)
    within c.cell.ensures.within)

kept : (c : After-cell) → AreKept
    (set c.self.inside.meters.items c.in-Some.place c.advance-growth.new.self)
    c.self.inside.places
    (set c.self.inside.totals c.cell.result
    (get_or c.self.inside.totals c.cell.result 0 + c.advance-growth.result))
kept c =
    let items : List Nozzle = c.self.inside.meters.items in
    let found = rw (← c.self.view_is) at c.in-Some.ensures.found in
    let within : c.cell.result < length c.self.inside.totals = omega arith in
    let written : with_last c.args.p c.args.n c.args.reading items
    ≡ set items c.in-Some.place c.advance-growth.new.self =
    found.reads c.args.reading c.index_mut-meter.result.now
    ∙ ap (λ (x : Nozzle). set items c.in-Some.place (read_at c.args.reading x))
    (sym c.index_mut-meter.ensures.value)
    ∙ ap (set items c.in-Some.place) (sym c.advance-growth.ensures.meter) in
    let is = grown c in
    rw is (subst (λ xs. AreKept xs c.self.inside.places (set c.self.inside.totals c.cell.result
    (get_or c.self.inside.totals c.cell.result 0 + (c.args.reading - (nozzle_was c).last)))) written
    (kept_read items c.self.inside.places c.self.inside.totals c.args.p c.args.n
    c.args.reading c.cell.result (nozzle_was c) c.self.invariant
    (found.nozzle c.index_mut-meter.result.now) (above c) c.advance-growth.ensures.range (its c)
    within c.cell.ensures.within))

pub overflow_add-self : goal.overflow_add-self
overflow_add-self c =
    let most = fitting (goal.at.overflow_add-self c).After-cell in
    search rules

pub invariant_of-self : goal.invariant_of-self
invariant_of-self c = kept (goal.at.invariant_of-self c).After-cell
