-- Volumes as the tables for people tell them.
use Rattle.std.specs.Prelude.{ℕ, ◌+◌, ◌-◌, ◌/◌, ◌%◌, nat_le, List, [], ◌∷◌, ◌++◌, codes, decimal}
use Rattle.std.specs.Prelude.{if◌then◌else◌}

-- the last digit of a number
abbrev pub last_digit : ℕ → ℕ
last_digit n = 48 + n % 10

-- litres with three decimals, of so many millilitres
unfoldable pub litres : ℕ → List ℕ
litres ml =
    decimal (ml / 1000) ++ codes "." ++ last_digit (ml / 100) ∷ last_digit (ml / 10)
    ∷ last_digit ml ∷ []

-- the same of so many up less so many down, with the sign
unfoldable pub litres_up : ℕ → ℕ → List ℕ
litres_up up down = if nat_le down up then litres (up - down) else codes "-" ++ litres (down - up)
