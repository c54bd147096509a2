-- What the meters of a product have counted, read from rows alone.
use Rattle.std.specs.Prelude.{ℕ, ◌+◌, ◌-◌, Bool, not, ◌&&◌, ◌==◌, if◌then◌else◌, List, [], ◌∷◌}
use Rattle.std.specs.List.{list_any}
use Rattle.site_base.specs.declared.row.Row.{Row}
use Rattle.site_base.specs.Configured.{Configured}
use Rattle.meters.specs.Nozzles.{Nozzle, is_nozzle, opening_nozzles}
use Rattle.written_site.specs.Histories.{moments_of}
use Rattle.written_site.specs.MeterLaws.{began_after, read_after, counted_at}
use Rattle.written_site.specs.RowWords.{total}

-- the millilitres that nozzle n of point p has metered by these rows: its meter's last accepted
-- reading less the one that it began with, and what its earlier meters counted
abbrev pub metered_read : Configured → ℕ → ℕ → List Row → ℕ
metered_read c p n rows =
    (read_after c p n rows - began_after c p n rows) + total (counted_at c p n) (moments_of c rows)

-- a nozzle of the same name stands among these
abbrev pub is_among : List Nozzle → ℕ → ℕ → Bool
is_among seen p n = list_any (is_nozzle p n) seen

-- the same of those of these nozzles that deliver product q. Events name the first of two nozzles
-- of one name, which no site file configures.
abbrev pub metered_of : Configured → ℕ → List Row → List Nozzle → List Nozzle → ℕ
metered_of c q rows seen [] = 0
metered_of c q rows seen (x ∷ xs) =
    (if x.product == q && not (is_among seen x.point x.number)
    then metered_read c x.point x.number rows else 0)
    + metered_of c q rows (x ∷ seen) xs

-- the millilitres of product q that all its nozzles have metered by these rows
abbrev pub metered_rows : Configured → ℕ → List Row → ℕ
metered_rows c q rows = metered_of c q rows [] (opening_nozzles c)
