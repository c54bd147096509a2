use Rattle.station.proofs.Answering.{nothing_admitted}
use Rattle.station.proofs.hearing.admit.Goals as goal

pub returns-in-empty : goal.returns-in-empty
returns-in-empty c =
    nothing_admitted _ c.args.messages.now _ c.args.others.now c.in-empty.len_below
