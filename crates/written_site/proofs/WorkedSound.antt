-- A configuration that a site can open from: product 1, and point 2 with one nozzle of it.
use Rattle.std.proofs.Common.{[], ◌∷◌, refl}
use Rattle.site_base.specs.Configured.{Configured}
use Rattle.written_site.specs.SiteState.{opening}
use Rattle.written_site.specs.Sound.{IsFit, Sound}
use Rattle.written_site.proofs.SoundOpening.{opening_sound}

abbrev one_nozzle : Configured
one_nozzle = record {
  rows = 10;
  managers = 1 ∷ [];
  products = record { number = 1; name = 97 ∷ []; price = 1759 } ∷ [];
  points = record { number = 2; nozzles = record { product = 1; reading = 5000 } ∷ [] } ∷ [];
}

is_fit : IsFit one_nozzle
is_fit = record { site = refl; products = refl; prices = refl; readings = refl }

opens_sound : Sound (opening one_nozzle)
opens_sound = opening_sound one_nozzle is_fit
