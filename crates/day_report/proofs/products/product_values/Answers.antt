use Rattle.std.proofs.Common.{◌≡◌, [], ◌∷◌, List, drop, map, arith, refl}
use Rattle.serde_json.specs.View.{view}
use Rattle.site_base.specs.declared.config.ProductEntry.{ProductEntry}
use Rattle.day_report.specs.Products.{products_data}
use Rattle.day_report.proofs.EachProduct.{all_there, none_left}
use Rattle.day_report.proofs.products.product_values.Goals as goal

without_views : (ps : List ProductEntry) → products_data ps [] ≡ []
without_views [] = refl
without_views (p ∷ ps) = refl

pub returns : goal.returns
returns c =
    all_there (map view c.loop-at.values.items)
    (products_data (drop c.loop-at.at c.args.products.now) (drop c.loop-at.at c.args.views.now))
    (products_data c.args.products.now c.args.views.now)
    c.loop-at.invariant.so_far
    (none_left products_data (λ vs. refl) without_views c.args.products.now c.args.views.now
    c.loop-at.at
    (omega (arith, c.loop-at-test.false, c.loop-at.invariant.end, c.min-at-end.ensures)))
