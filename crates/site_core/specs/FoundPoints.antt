-- A point that was found.
use Rattle.std.specs.Prelude.{ℕ, List}
use Rattle.site_base.specs.Table.{IsPlace}
use Rattle.fuelling_point.specs.KeptPoints.{Facts}
use Rattle.site_core.specs.declared.points.FoundPoint.{FoundPoint}

-- the row of the point stands at its place
abbrev pub IsFound : FoundPoint → List (ℕ × Facts) → Type 0
IsFound point points = IsPlace (λ n. n) point.number points point.place
