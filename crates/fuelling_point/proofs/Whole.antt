-- A point stays whole, and what flows isn't lost.
use Rattle.std.proofs.Common.{◌≡◌, ℕ, ◌≤◌, List, [], ◌∷◌, Some, None, refl, subst, arith}
use Rattle.std.proofs.lemmas.Grind.{common_steps}
use Rattle.site_base.specs.declared.state.PointState.TheVariants.{Closed}
use Rattle.fuelling_point.specs.declared.event.PointEvent.{PointEvent}
use Rattle.fuelling_point.specs.KeptPoints.{Facts, empty_point}
use Rattle.fuelling_point.specs.Whole.{IsWhole}
use Rattle.fuelling_point.specs.PointChecks.{refusal_of}
use Rattle.fuelling_point.specs.Step.{after}
use Rattle.fuelling_point.specs.History.{reply_to, facts_after, facts_at_end, point_after}
use Rattle.fuelling_point.specs.Laws.{delivered_by, StaysWhole, IsConserved, IsNeverNothing}

begins : IsWhole (empty_point Closed)
begins = record {
  nozzle = refl;
  nothing = λ state. refl;
  something = λ state. cc;
  ending = λ state. refl;
  price = λ state. refl;
  start = λ state. refl;
  preset = λ state. refl;
  prepaid = λ state. refl;
  test = λ state. refl;
  unlimited = λ test. refl;
  unpaid = λ test. refl;
}

keeps : (event : PointEvent) (f : Facts) → IsWhole f → IsWhole (facts_after event f)
keeps event f w =
    let nozzle = w.nozzle in
    let nothing = w.nothing in
    let something = w.something in
    let ending = w.ending in
    let price = w.price in
    let start = w.start in
    let preset = w.preset in
    let prepaid = w.prepaid in
    let test = w.test in
    let unlimited = w.unlimited in
    let unpaid = w.unpaid in
    record {
      nozzle = grind (arith, common_steps);
      nothing = λ state. grind (arith, common_steps);
      something = λ state. grind (arith, common_steps);
      ending = λ state. grind (arith, common_steps);
      price = λ state. grind (arith, common_steps);
      start = λ state. grind (arith, common_steps);
      preset = λ state. grind (arith, common_steps);
      prepaid = λ state. grind (arith, common_steps);
      test = λ state. grind (arith, common_steps);
      unlimited = λ test. grind (arith, common_steps);
      unpaid = λ test. grind (arith, common_steps);
    }

pub stays_whole : StaysWhole
stays_whole = record { begins = begins; keeps = keeps }

-- the same of an event that is accepted
pub whole_accepted : (event : PointEvent) (f : Facts) → IsWhole f → refusal_of event f ≡ None
    → IsWhole (after event f)
whole_accepted event f w taken =
    let leads : facts_after event f ≡ after event f = rw taken refl in
    subst IsWhole leads (keeps event f w)

whole_at_end : (f : Facts) (events : List PointEvent) → IsWhole f → IsWhole (facts_at_end f events)
whole_at_end f [] w = w
whole_at_end f (e ∷ es) w = whole_at_end (facts_after e f) es (keeps e f w)

pub whole_after : (events : List PointEvent) → IsWhole (point_after events)
whole_after events = whole_at_end (empty_point Closed) events begins

pub conserved : IsConserved
conserved event f w taken still =
    let nothing = w.nothing in
    grind (arith, common_steps)

-- what a whole point sells or draws isn't nothing
pub sold_something : (event : PointEvent) (f : Facts) (nozzle volume : ℕ) → IsWhole f
    → delivered_by (reply_to event f) ≡ Some (nozzle, volume) → 1 ≤ volume
sold_something event f nozzle volume w told =
    let something = w.something in
    grind (arith, common_steps)

pub never_nothing : IsNeverNothing
never_nothing events event nozzle volume told =
    sold_something event (point_after events) nozzle volume (whole_after events) told
