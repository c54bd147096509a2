use Rattle.std.proofs.Common.{◌≡◌, take, map}
use Rattle.written_site.specs.Volumes.{product_view}
use Rattle.site_core.specs.SiteParts.{site_of}
use Rattle.site_core.proofs.site_parts.SiteParts.recount_products.Given as goal

abbrev pub invariant-loop-product : goal.invariant-loop-product
invariant-loop-product l = l.products.items
    ≡ map (λ e. product_view (site_of l.self) e.0 e.1) (take l.product-index l.self.prices)
