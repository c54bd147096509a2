use Rattle.site_file.proofs.Fit.{site_is_fit}
use Rattle.site_file.proofs.EverySite.{every_site_is_said}
use Rattle.site_file.proofs.laws.accepts_the_fit_sites.Goals as goal

pub returns : goal.returns
returns c = record { fit = site_is_fit; every = every_site_is_said }
