use Rattle.std.proofs.Common.{length, ap, sym, ◌∙◌, rules}
use Rattle.counter_desk.proofs.Lists.{none_within}
use Rattle.counter_desk.proofs.MarkedLists.{marking_more, strange_here}
use Rattle.counter_desk.proofs.marks.mark_list.Goals as goal
use Rattle.counter_desk.proofs.marks.mark_list.Goals.{in-Some+in-Some-mark, in-None}

pub returns-in-None-mark-clause-err : goal.returns-in-None-mark-clause-err
returns-in-None-mark-clause-err g c =
    strange_here c.args.site.now c.args.marks.now c.loop-index.marks c.args.receipts.now.receipts
    c.loop-index.index c.loop-index.low c.in-Some.receipt c.loop-index.invariant.marking
    (sym c.get.ensures ∙ c.in-Some.is) c.in-None-mark.ensures.unmarkable

pub loop-index-preserved : goal.loop-index-preserved
loop-index-preserved g c =
    elim c.match-get.branch [
      | in-Some+in-Some-mark w ↦ record {
        len = ap length w.marks-is ∙ w.mark.ensures.length ∙ c.loop-index.invariant.len;
        marking =
            rw (w.marks-is, w.low-is, w.in-Some-mark.ensures.next)
            (marking_more c.args.site.now c.args.marks.now c.loop-index.marks w.mark.new.marks
            c.args.receipts.now.receipts c.loop-index.index c.loop-index.low w.in-Some.receipt
            c.loop-index.invariant.marking
            (sym c.get.ensures ∙ w.in-Some.is) w.in-Some-mark.ensures.marked);
        end = c.loop-index.invariant.end;
      }
      | in-None w ↦ absurd (none_within c.args.receipts.now.receipts c.loop-index.index
          (search rules) (sym c.get.ensures ∙ w.in-None.is))
    ]
