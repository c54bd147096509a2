use Rattle.std.proofs.Common.{◌≡◌, length, take}
use Rattle.counter_desk.specs.Marks.{AreAllMarked}
use Rattle.counter_desk.specs.Roots.{lists_of}
use Rattle.counter_desk.proofs.marks.mark_all.Given as goal

abbrev pub invariant-loop-receipts : goal.invariant-loop-receipts
invariant-loop-receipts g l = record {
  len : length l.marks ≡ length l.site;
  all : AreAllMarked l.site l.marks (lists_of (take l.receipts-index l.lists));
}
