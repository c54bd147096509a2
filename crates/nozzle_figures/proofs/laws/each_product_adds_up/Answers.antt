use Rattle.nozzle_figures.proofs.ProductSums.{each_product_adds_up as law}
use Rattle.nozzle_figures.proofs.laws.each_product_adds_up.Goals as goal

pub returns : goal.returns
returns c = law
