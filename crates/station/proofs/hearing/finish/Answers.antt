use Rattle.station.proofs.Turns.{told_none}
use Rattle.station.proofs.hearing.finish.Goals as goal

pub returns-else-lasts-clause-told : goal.returns-else-lasts-clause-told
returns-else-lasts-clause-told c = told_none c.args.book.now c.args.others.now
