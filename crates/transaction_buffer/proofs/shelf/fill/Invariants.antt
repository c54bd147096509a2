use Rattle.std.proofs.Common.{◌≡◌, ◌≤◌, ◌-◌, ℕ, get_or, length}
use Rattle.site_base.specs.declared.numbers.TheConstants.{GREATEST_SHIFT}
use Rattle.transaction_buffer.specs.Shelves.{no_span}
use Rattle.transaction_buffer.proofs.shelf.fill.Given as goal

abbrev pub invariant-loop-spans : goal.invariant-loop-spans
invariant-loop-spans l = record {
  same : (i : ℕ) → get_or l.spans.items i no_span ≡ get_or l.fn.spans.items i no_span;
  few : length l.spans.items ≤ GREATEST_SHIFT;
  more : length l.fn.spans.items ≤ length l.spans.items;
}

abbrev pub decreases-loop-spans : goal.decreases-loop-spans
decreases-loop-spans l = GREATEST_SHIFT - length l.spans.items
