use Rattle.written_site.proofs.ProductSums.{metered_of_products}
use Rattle.written_site.proofs.laws.metering.products_add_up.Goals as goal

pub returns : goal.returns
returns c = metered_of_products
