use Rattle.site_base.specs.declared.state.Status.TheVariants.{Payable, Locked, Cleared}
use Rattle.site_core.specs.SiteParts.{site_of}
use Rattle.site_core.proofs.CountedFigures.{volume_fits}
use Rattle.site_core.proofs.site_parts.SiteParts.recount_view.Goals as goal

pub recount-requires-2 : goal.recount-requires-2
recount-requires-2 c = volume_fits (site_of c.args.self.now) c.args.q Payable c.requires

pub recount-requires-3 : goal.recount-requires-3
recount-requires-3 c = volume_fits (site_of c.args.self.now) c.args.q Locked c.requires

pub recount-requires-4 : goal.recount-requires-4
recount-requires-4 c = volume_fits (site_of c.args.self.now) c.args.q Cleared c.requires
