use Rattle.std.proofs.Common.{◌≡◌, ◌≤◌, ◌*◌, take}
use Rattle.site_base.specs.declared.amounts.TheConstants.{GREATEST_CENTS}
use Rattle.site_json.specs.Transactions.{dues_of}
use Rattle.site_json.proofs.transactions.dues_of.Given as goal

abbrev pub invariant-loop-sale : goal.invariant-loop-sale
invariant-loop-sale l = record {
  cents : l.cents ≡ dues_of (take l.sale-index l.sales);
  few : l.cents ≤ l.sale-index * GREATEST_CENTS;
}
