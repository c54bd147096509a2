use Rattle.std.proofs.Common.{◌≡◌, ◌∙◌, rules, Ok}
use Rattle.toml.specs.View.{table_view}
use Rattle.site_base.specs.Configured.{Configured}
use Rattle.site_file.specs.SiteFile.{site_of}
use Rattle.site_file.proofs.Fit.{site_is_fit}
use Rattle.site_file.proofs.site.site_of.Goals as goal

pub unwrap-requires : goal.unwrap-requires
unfolding site_of
unwrap-requires c =
    let config : Configured = record {
      rows = c.in_ok-rows.rows;
      managers = c.in_ok-managers.managers.items;
      products = c.in_ok-products-2.products.items;
      points = c.in_ok-points.points.items;
    } in
    let said : site_of (table_view c.args.file.now) ≡ Ok config = search rules in
    c.try_new.ensures.fit ∙ site_is_fit (table_view c.args.file.now) config said
