use Rattle.std.proofs.Common.{◌≡◌, [], drop}
use Rattle.toml.specs.View.{items_view}
use Rattle.site_file.specs.SiteFile.{products_from}
use Rattle.site_file.proofs.products.products_in.Given as goal

abbrev pub invariant-loop-member : goal.invariant-loop-member
invariant-loop-member l =
    products_from l.products (items_view (drop l.member-index l.members))
    ≡ products_from [] (items_view l.members)
