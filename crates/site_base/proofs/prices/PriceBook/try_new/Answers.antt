use Rattle.site_base.proofs.prices.PriceBook.try_new.Goals as goal

pub invariant_of-result : goal.invariant_of-result
invariant_of-result c = c.loop-product.invariant.ranged
