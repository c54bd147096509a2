use Rattle.std.proofs.Common.{◌∙◌, sym}
use Rattle.station.proofs.Answering.{nobody_off, off_told}
use Rattle.station.proofs.asking.forget_signed_off.Goals as goal

pub returns-in-Some : goal.returns-in-Some
returns-in-Some c =
    c.forget_till.ensures
    ∙ off_told c.args.actor.now c.args.event.now c.args.outcome.now c.args.others.now
    c.in-Some.till c.requires.pointless (sym c.till_off.ensures ∙ c.in-Some.is)

pub returns-in_default : goal.returns-in_default
returns-in_default c =
    nobody_off c.args.actor.now c.args.event.now c.args.outcome.now c.args.others.now
    c.requires.pointless (sym c.till_off.ensures ∙ c.in_default.is)
