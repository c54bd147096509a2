use Rattle.written_site.proofs.FigureBounds.{figures_fit}
use Rattle.written_site.specs.SiteState.{open_shift}
use Rattle.site_core.specs.SiteParts.{site_of}
use Rattle.site_core.proofs.site_parts.SiteParts.check_read_site.Goals as goal

pub takings-requires : goal.takings-requires
takings-requires c =
    let s = site_of c.args.self.now in
    (figures_fit.fit s (open_shift s) c.requires).takings
