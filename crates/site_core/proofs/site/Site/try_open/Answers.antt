use Rattle.std.proofs.Common.{subst, sym}
use Rattle.written_site.specs.Sound.{Sound}
use Rattle.written_site.proofs.Sound.{stays_sound}
use Rattle.site_core.proofs.site.Site.try_open.Goals as goal

pub invariant_of-result : goal.invariant_of-result
invariant_of-result c = subst Sound (sym c.in_ok-parts.ensures)
    (stays_sound.opens _ c.are_fit.ensures)
