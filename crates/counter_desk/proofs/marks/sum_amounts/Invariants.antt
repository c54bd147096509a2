use Rattle.std.proofs.Common.{◌≡◌, ◌*◌, ◌≤◌, take}
use Rattle.site_base.specs.declared.amounts.TheConstants.{GROWTH_LIMIT}
use Rattle.site_base.specs.declared.amounts.TheConstants.{GREATEST_CENTS}
use Rattle.written_site.specs.RowWords.{total}
use Rattle.counter_desk.specs.Receipts.{cents_receipted, growth_receipted}
use Rattle.counter_desk.specs.Roots.{calls_in, lists_of}
use Rattle.counter_desk.proofs.marks.sum_amounts.Given as goal

abbrev pub invariant-loop-receipts : goal.invariant-loop-receipts
invariant-loop-receipts l = record {
  cents : l.cents ≡ total cents_receipted (lists_of (take l.receipts-index l.lists));
  millilitres : l.millilitres ≡ total growth_receipted (lists_of (take l.receipts-index l.lists));
  few_cents : l.cents ≤ calls_in (lists_of (take l.receipts-index l.lists)) * GREATEST_CENTS;
  few_millilitres : l.millilitres
      ≤ calls_in (lists_of (take l.receipts-index l.lists)) * GROWTH_LIMIT;
}
