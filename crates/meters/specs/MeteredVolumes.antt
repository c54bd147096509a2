-- The millilitres that a site has metered.
use Rattle.std.specs.Prelude.{ℕ, ◌+◌, ◌-◌, ◌*◌, List, [], ◌∷◌, ◌==◌, if◌then◌else◌}
use Rattle.site_base.specs.declared.limits.TheConstants.{NOZZLES, POINTS}
use Rattle.site_base.specs.declared.amounts.TheConstants.{GREATEST_READING}
use Rattle.meters.specs.declared.meter.TheConstants.{REPLACEMENT_LIMIT}
use Rattle.meters.specs.Nozzles.{Nozzle}

-- the millilitres that a nozzle has metered since the site opened: those of its meter, and those of
-- its earlier meters
abbrev pub volume_metered : Nozzle → ℕ
volume_metered x = (x.last - x.began) + x.earlier

-- the most that a nozzle can meter
abbrev pub most_of_a_nozzle : ℕ
most_of_a_nozzle = (REPLACEMENT_LIMIT + 1) * GREATEST_READING

-- the most that a site can meter
abbrev pub most_of_a_site : ℕ
most_of_a_site = POINTS * NOZZLES * most_of_a_nozzle

-- the millilitres that all nozzles have metered since the site opened, each product's weighed by w
abbrev pub metered_by : (ℕ → ℕ) → List Nozzle → ℕ
metered_by w [] = 0
metered_by w (x ∷ xs) = w x.product * volume_metered x + metered_by w xs

-- the weight of product q alone
abbrev pub product_alone : ℕ → ℕ → ℕ
product_alone q product = if product == q then 1 else 0

-- the weight 1 of every product
abbrev pub every_product : ℕ → ℕ
every_product product = 1

-- the millilitres that the nozzles of product q have metered since the site opened
abbrev pub product_total : ℕ → List Nozzle → ℕ
product_total q xs = metered_by (product_alone q) xs
