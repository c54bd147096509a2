use Rattle.std.proofs.Common.{◌≡◌, ◌++◌, List, [], drop, sym, ap, subst, ◌∙◌, rules}
use Rattle.std.proofs.lemmas.List.{drop_all, append-nil}
use Rattle.site_base.specs.declared.config.PointEntry.{PointEntry}
use Rattle.meters.specs.Nozzles.{nozzles_of_points}
use Rattle.meters.specs.Places.{ArePlaces}
use Rattle.meters.proofs.KeptTotals.{kept_opened}
use Rattle.meters.proofs.meters.Meters.try_new.Goals as goal

pub invariant_of-result : goal.invariant_of-result
invariant_of-result c =
    let points : List PointEntry = c.points-entry-items.result.now in
    let none_left : drop c.loop-entry.entry-index points ≡ [] =
    drop_all c.loop-entry.entry-index points c.loop-entry-test.false in
    let all : c.loop-entry.meters.items ≡ nozzles_of_points points =
    sym (append-nil c.loop-entry.meters.items)
    ∙ ap (λ (ps : List PointEntry). c.loop-entry.meters.items ++ nozzles_of_points ps)
    (sym none_left)
    ∙ c.loop-entry.invariant.added in
    let places : ArePlaces c.loop-entry.meters.items c.places_of-places.result =
    subst (λ xs. ArePlaces xs c.places_of-places.result) c.deref.ensures.value
    c.places_of-places.ensures in
    kept_opened points c.loop-entry.meters.items c.places_of-places.result all
    (record { few = search rules; each = c.loop-entry.invariant.bounds }) places
