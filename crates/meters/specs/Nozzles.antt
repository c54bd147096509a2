-- The nozzles of a site, and what their meters read.
use Rattle.std.specs.Prelude.{ℕ, ◌+◌, ◌-◌, ◌*◌, ◌≤◌, Bool, List, [], ◌∷◌, ◌++◌, length, Option}
use Rattle.std.specs.Prelude.{Some, None, option_map, is_some, unwrap_or, ◌&&◌, ◌==◌, if◌then◌else◌}
use Rattle.site_base.specs.declared.config.NozzleEntry.{NozzleEntry}
use Rattle.site_base.specs.declared.limits.TheConstants.{NOZZLES, POINTS}
use Rattle.site_base.specs.declared.amounts.TheConstants.{GREATEST_READING}
use Rattle.meters.specs.declared.meter.TheConstants.{REPLACEMENT_LIMIT}
use Rattle.site_base.specs.declared.config.PointEntry.{PointEntry}
use Rattle.site_base.specs.Configured.{Configured}

-- a nozzle: its fuelling point, its number there, its product, the reading that its meter began
-- with and the meter's last one, how often its meter was replaced, and the millilitres of its
-- earlier meters
pub record Nozzle : Type 0 where
  pub point : ℕ
  pub number : ℕ
  pub product : ℕ
  pub began : ℕ
  pub last : ℕ
  pub replaced : ℕ
  pub earlier : ℕ

-- nozzle n of point p
abbrev pub is_nozzle : ℕ → ℕ → Nozzle → Bool
is_nozzle p n x = x.point == p && x.number == n

-- a configured nozzle when the site opens: its meter begins with the opening reading
abbrev pub opening_nozzle : ℕ → ℕ → NozzleEntry → Nozzle
opening_nozzle p n e = record {
  point = p;
  number = n;
  product = e.product;
  began = e.reading;
  last = e.reading;
  replaced = 0;
  earlier = 0;
}

-- the nozzles of point p when the site opens, in their order, numbered from n
abbrev pub number_nozzles : ℕ → ℕ → List NozzleEntry → List Nozzle
number_nozzles p n [] = []
number_nozzles p n (e ∷ es) = opening_nozzle p n e ∷ number_nozzles p (n + 1) es

-- a configured point's nozzles when the site opens, numbered from 1
abbrev pub nozzles_of_point : PointEntry → List Nozzle
nozzles_of_point c = number_nozzles c.number 1 c.nozzles

-- the nozzles of the points, in configured order
abbrev pub nozzles_of_points : List PointEntry → List Nozzle
nozzles_of_points [] = []
nozzles_of_points (c ∷ cs) = nozzles_of_point c ++ nozzles_of_points cs

-- the nozzles of a site when it opens: every nozzle of every configured point, in configured order
abbrev pub opening_nozzles : Configured → List Nozzle
opening_nozzles c = nozzles_of_points c.points

-- nozzle n of point p, if there is such a nozzle
abbrev pub nozzle_of : ℕ → ℕ → List Nozzle → Option Nozzle
nozzle_of p n [] = None
nozzle_of p n (x ∷ xs) = if is_nozzle p n x then Some x else nozzle_of p n xs

-- there is a nozzle n of point p
abbrev pub has_nozzle : ℕ → ℕ → List Nozzle → Bool
has_nozzle p n xs = is_some (nozzle_of p n xs)

-- the product of nozzle n of point p, if there is such a nozzle
abbrev pub product_of : ℕ → ℕ → List Nozzle → Option ℕ
product_of p n xs = option_map (λ x. x.product) (nozzle_of p n xs)

-- the last reading of nozzle n of point p, if there is such a nozzle
abbrev pub last_of : ℕ → ℕ → List Nozzle → Option ℕ
last_of p n xs = option_map (λ x. x.last) (nozzle_of p n xs)

-- how often the meter of nozzle n of point p was replaced, if there is such a nozzle
abbrev pub replacements_of : ℕ → ℕ → List Nozzle → Option ℕ
replacements_of p n xs = option_map (λ x. x.replaced) (nozzle_of p n xs)

-- the last reading of nozzle n of point p; of a nozzle that isn't there, 0
abbrev pub reading_of : ℕ → ℕ → List Nozzle → ℕ
reading_of p n xs = unwrap_or (last_of p n xs) 0

-- how often the meter of nozzle n of point p was replaced; of a nozzle that isn't there, 0
abbrev pub times_replaced : ℕ → ℕ → List Nozzle → ℕ
times_replaced p n xs = unwrap_or (replacements_of p n xs) 0

-- the nozzles, with nozzle n of point p changed in this way
abbrev pub with_nozzle : ℕ → ℕ → (Nozzle → Nozzle) → List Nozzle → List Nozzle
with_nozzle p n change [] = []
with_nozzle p n change (x ∷ xs) =
    if is_nozzle p n x then change x ∷ xs else x ∷ with_nozzle p n change xs

-- a nozzle whose meter has this last reading
abbrev pub read_at : ℕ → Nozzle → Nozzle
read_at reading x = record x { last = reading }

-- a nozzle with another meter, which begins with this reading: what the old one has metered joins
-- the millilitres of the earlier meters
abbrev pub replaced_at : ℕ → Nozzle → Nozzle
replaced_at reading x = record x {
  began = reading;
  last = reading;
  replaced = x.replaced + 1;
  earlier = x.earlier + (x.last - x.began);
}

-- the nozzles, with this last reading of nozzle n of point p
abbrev pub with_last : ℕ → ℕ → ℕ → List Nozzle → List Nozzle
with_last p n reading xs = with_nozzle p n (read_at reading) xs

-- the nozzles, with another meter of nozzle n of point p, which begins with this reading
abbrev pub with_meter : ℕ → ℕ → ℕ → List Nozzle → List Nozzle
with_meter p n reading xs = with_nozzle p n (replaced_at reading) xs

-- what a nozzle always is: its last reading isn't below the one that its meter began with nor above
-- the greatest, its meter was replaced no more often than it may be, and each earlier one metered
-- at most the greatest reading
pub record IsMetered (x : Nozzle) : Type 0 where
  pub risen : x.began ≤ x.last
  pub within : x.last ≤ GREATEST_READING
  pub few : x.replaced ≤ REPLACEMENT_LIMIT
  pub earlier : x.earlier ≤ x.replaced * GREATEST_READING

-- each of these nozzles is such a one
abbrev pub EachMetered : List Nozzle → Type 0
EachMetered [] = Unit {0}
EachMetered (x ∷ xs) = IsMetered x × EachMetered xs

-- what the nozzles of a site always are: no more than a site can have, and each such a one
pub record AreNozzles (xs : List Nozzle) : Type 0 where
  pub few : length xs ≤ POINTS * NOZZLES
  pub each : EachMetered xs
