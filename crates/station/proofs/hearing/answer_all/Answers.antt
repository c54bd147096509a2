use Rattle.std.proofs.Common.{◌∙◌, arith, sym}
use Rattle.station.specs.Hearing.{turn_of}
use Rattle.station.proofs.Answering.{all_more, all_none, answers_none}
use Rattle.station.proofs.hearing.answer_all.Goals as goal
use Rattle.station.proofs.hearing.answer_all.Goals.{then-lasts, else-lasts}

pub loop-message-init : goal.loop-message-init
loop-message-init c = all_none _ _

pub loop-message-preserved : goal.loop-message-preserved
loop-message-preserved c =
    let l = c.loop-message in
    let ms = c.args.messages.now in
    let start = turn_of c.args.book.now c.args.peer.now in
    let mid = turn_of l.book l.peer in
    elim c.if-lasts.branch [
      | then-lasts w ↦
          rw (w.peer-is, w.book-is, w.others-is)
          (all_more ms l.message-index c.message-item.result start mid
          (turn_of w.answer.new.book w.answer.new.peer) c.args.others.now
          l.others w.answer.new.others (omega arith) c.message-item.is
          l.invariant w.answer.ensures)
      | else-lasts w ↦
          rw (w.peer-is, w.book-is, w.others-is)
          (all_more ms l.message-index c.message-item.result start mid mid
          c.args.others.now l.others l.others
          (omega arith) c.message-item.is l.invariant
          (answers_none c.message-item.result mid l.others
          (sym c.lasts.ensures ∙ w.if-lasts.false)))
    ]
