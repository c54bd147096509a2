-- Where the next history begins: the configuration that goes on from a site.
use Rattle.std.specs.Prelude.{◌≡◌, ℕ, ◌+◌, List, [], ◌∷◌, map, unwrap_or}
use Rattle.site_base.specs.declared.config.NozzleEntry.{NozzleEntry}
use Rattle.site_base.specs.declared.config.PointEntry.{PointEntry}
use Rattle.site_base.specs.declared.config.ProductEntry.{ProductEntry}
use Rattle.site_base.specs.Configured.{Configured}
use Rattle.meters.specs.Nozzles.{Nozzle, last_of}
use Rattle.written_site.specs.SiteState.{SiteState}

-- the products' prices today, in configured order
abbrev pub prices_today : SiteState → List ℕ
prices_today s = map (λ e. e.1) s.prices

-- the products, each at its price of these
abbrev pub priced : List ProductEntry → List ℕ → List ProductEntry
priced [] prices = []
priced (p ∷ ps) [] = p ∷ ps
priced (p ∷ ps) (price ∷ prices) = record p { price = price } ∷ priced ps prices

-- nozzle n of point p, with its last reading
abbrev pub with_last_reading : List Nozzle → ℕ → ℕ → NozzleEntry → NozzleEntry
with_last_reading nozzles p n e =
    record e { reading = unwrap_or (last_of p n nozzles) e.reading }

-- nozzles of point p, numbered from n, each with its last reading
abbrev pub read_from : List Nozzle → ℕ → ℕ → List NozzleEntry → List NozzleEntry
read_from nozzles p n [] = []
read_from nozzles p n (e ∷ es) =
    with_last_reading nozzles p n e ∷ read_from nozzles p (n + 1) es

-- a point, each of its nozzles with its last reading
abbrev pub with_last_readings : List Nozzle → PointEntry → PointEntry
with_last_readings nozzles p =
    record p { nozzles = read_from nozzles p.number 1 p.nozzles }

-- the configuration that goes on from a site: it is the site's, but for the prices, which are
-- today's, and for each nozzle's reading, which is its last one
abbrev pub next_opening : Configured → SiteState → Configured
next_opening c s = record c {
  products = priced c.products (prices_today s);
  points = map (with_last_readings s.nozzles) c.points;
}

-- the site t begins where s ended: each product has the same price, and each nozzle's last reading
-- is the same
pub record GoesOnFrom (s t : SiteState) : Type 0 where
  pub prices : t.prices ≡ s.prices
  pub readings : (p n : ℕ) → last_of p n t.nozzles ≡ last_of p n s.nozzles
