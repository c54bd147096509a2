use Rattle.std.proofs.Common.{◌≡◌, length, take}
use Rattle.counter_desk.proofs.MarkedLists.{Marking}
use Rattle.counter_desk.proofs.marks.mark_list.Given as goal

abbrev pub invariant-loop-index : goal.invariant-loop-index
invariant-loop-index g l = record {
  len : length l.marks ≡ length l.initial.marks;
  marking : Marking l.site l.initial.marks l.marks (take l.index l.receipts.receipts) l.low;
  end : l.index-end ≡ length l.receipts.receipts;
}
