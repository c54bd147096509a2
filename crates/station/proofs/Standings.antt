-- What stands at a point are changes of this point.
use Rattle.std.proofs.Common.{ℕ, Bool, true, false, Option, Some, None, refl}
use Rattle.std.specs.Prelude.{if◌then◌else◌}
use Rattle.site_base.specs.declared.event.Event.TheVariants as events
use Rattle.site_base.specs.declared.state.PointState.{PointState}
use Rattle.site_base.specs.declared.state.PointState.TheVariants as states
use Rattle.site_base.specs.declared.state.Preset.{Preset}
use Rattle.site_base.specs.declared.view.PointView.{PointView}
use Rattle.station.specs.Laws.{AreChangesOf, IsChangeOf}
use Rattle.station.specs.Standing.{release_of, sale_release, standing_in, stop_of}

release_changes : (p : ℕ) (v : PointView) → IsChangeOf p (release_of p v)
release_changes p v = by_test v.test v.preset v.prepaid
  where
    by_test : (test : Bool) (preset : Preset) (prepaid : Option ℕ)
        → IsChangeOf p (if test then events.TestRelease p else sale_release p preset prepaid)
    by_test true preset prepaid = (refl, refl)
    by_test false preset None = (refl, refl)
    by_test false preset (Some cents) = (refl, refl)

stop_changes : (p : ℕ) (v : PointView) → IsChangeOf p (stop_of p v)
stop_changes p v = by_test v.ending
  where
    by_test : (ending : Bool)
        → IsChangeOf p (if ending then events.Terminate p else events.Suspend p)
    by_test true = (refl, refl)
    by_test false = (refl, refl)

pub all_change : (state : PointState) (p : ℕ) (v : PointView)
    → AreChangesOf p (standing_in state p v)
all_change states.Inoperative p v = tt
all_change states.Closed p v = tt
all_change states.Idle p v = ((refl, refl), tt)
all_change states.Calling p v = ((refl, refl), tt)
all_change states.Authorised p v = ((refl, refl), (release_changes p v, tt))
all_change states.Started p v = ((refl, refl), (release_changes p v, tt))
all_change states.SuspendedStarted p v =
    ((refl, refl), (release_changes p v, (stop_changes p v, tt)))
all_change states.Fuelling p v = ((refl, refl), (release_changes p v, tt))
all_change states.SuspendedFuelling p v =
    ((refl, refl), (release_changes p v, (stop_changes p v, tt)))
