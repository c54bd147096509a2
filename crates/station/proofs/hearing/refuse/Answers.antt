use Rattle.station.proofs.Turns.{told_none}
use Rattle.station.proofs.hearing.refuse.Goals as goal

pub returns-then-not-lasts-clause-told : goal.returns-then-not-lasts-clause-told
returns-then-not-lasts-clause-told c = told_none c.args.book.now c.args.others.now
