use Rattle.std.proofs.Common.{take}
use Rattle.station.specs.Hearing.{AnswersAll, turn_of}
use Rattle.station.proofs.hearing.answer_all.Given as goal

abbrev pub invariant-loop-message : goal.invariant-loop-message
invariant-loop-message l =
    AnswersAll (take l.message-index l.messages) (turn_of l.fn.book l.fn.peer)
    (turn_of l.book l.peer) l.fn.others l.others
