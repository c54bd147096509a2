use Rattle.station.proofs.Turns.{told_none}
use Rattle.station.proofs.hearing.end_session.Goals as goal

pub returns-in_default-clause-told : goal.returns-in_default-clause-told
returns-in_default-clause-told c = told_none c.args.book.now c.args.others.now
