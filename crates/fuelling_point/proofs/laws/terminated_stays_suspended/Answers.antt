use Rattle.site_base.specs.declared.state.PointState.TheVariants.{Closed}
use Rattle.fuelling_point.specs.KeptPoints.{empty_point}
use Rattle.fuelling_point.proofs.Suspension.{stays_terminated}
use Rattle.fuelling_point.proofs.laws.terminated_stays_suspended.Goals as goal

pub returns : goal.returns
returns c = λ events before since m parts told on. let t =
    stays_terminated (empty_point Closed) events before since m parts told on in
    (t.suspend_state, t.ending)
