use Rattle.station.specs.Hearing.{turn_of}
use Rattle.station.proofs.Answering.{goes_on}
use Rattle.station.proofs.Turns.{told_none}
use Rattle.station.proofs.hearing.end_another.Goals as goal

pub returns-in_default : goal.returns-in_default
returns-in_default c = record {
  turn = goes_on c.args.said.now (turn_of c.args.book.now c.args.peer.now) c.in_default.not-Another;
  told = told_none c.args.book.now c.args.others.now;
}
