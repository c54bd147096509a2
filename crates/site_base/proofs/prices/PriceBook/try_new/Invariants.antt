use Rattle.std.proofs.Common.{◌≡◌, true, take}
use Rattle.site_base.specs.Prices.{prices_of, are_in_range}
use Rattle.site_base.proofs.prices.PriceBook.try_new.Given as goal

abbrev pub invariant-loop-product : goal.invariant-loop-product
invariant-loop-product l = record {
  so_far : l.rows.items ≡ prices_of (take l.product-index l.product-items);
  ranged : are_in_range l.rows.items ≡ true;
}
