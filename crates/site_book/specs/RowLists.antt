-- Lists of rows.
use Rattle.std.specs.Prelude.{ℕ, List, [], ◌∷◌, ◌++◌}
use Rattle.site_base.specs.declared.row.Row.{Row}

-- rows in their order, and the number of further rows that room is reserved for
pub record RowList : Type 0 where
  pub rows : List Row
  pub room : ℕ

-- the rows of lists that were forgotten, one list after another
abbrev pub rows_forgotten : List (RowList × Unit {0}) → List Row
rows_forgotten [] = []
rows_forgotten (l ∷ ls) = l.0.rows ++ rows_forgotten ls
