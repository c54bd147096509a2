use Rattle.std.proofs.Common.{◌≡◌, length}
use Rattle.site_base.specs.declared.limits.TheConstants.{POINT_CELLS}
use Rattle.transaction_buffer.specs.KeptSums.{AreSums}
use Rattle.transaction_buffer.specs.Shelves.{sales_on}
use Rattle.transaction_buffer.proofs.LetGo.{AreStages}
use Rattle.transaction_buffer.proofs.buffer.unlock_at.Given as goal

abbrev pub invariant-loop-p : goal.invariant-loop-p
invariant-loop-p l = record {
  cells : length l.shelves ≡ POINT_CELLS;
  stages : AreStages l.t l.initial.left l.left l.fn.shelves l.shelves;
  sums : AreSums (sales_on l.shelves) l.sums;
}

abbrev pub decreases-loop-p : goal.decreases-loop-p
decreases-loop-p l = l.left
