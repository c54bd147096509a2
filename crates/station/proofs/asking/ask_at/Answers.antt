use Rattle.std.proofs.Common.{sym}
use Rattle.std.proofs.lemmas.Result.{err_from_is_err_and}
use Rattle.station.proofs.Answering.{no_change, stays_on, untold}
use Rattle.station.proofs.Notices.{with_notices-none}
use Rattle.station.proofs.asking.ask_at.Goals as goal

pub returns-in_err-write_change-clause-others : goal.returns-in_err-write_change-clause-others
returns-in_err-write_change-clause-others c =
    let p = err_from_is_err_and c.from_residual.result c.from_residual.ensures.1 in
    rw p.1 (sym (with_notices-none c.args.others.now))

pub returns-in-None-clause-others : goal.returns-in-None-clause-others
returns-in-None-clause-others c =
    let change = rw c.in-None.is at c.in_ok-write_change.ensures.change in
    untold c.args.actor.now c.args.event.now c.ask.result c.args.others.now
    (no_change _ _ change)
    (λ reply. stays_on c.args.actor.now c.args.event.now reply c.args.p c.requires.point)
