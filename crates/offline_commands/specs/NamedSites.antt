-- The lines that name the site file of a text.
use Rattle.std.specs.Prelude.{◌≡◌, ◌==◌, ℕ, true, List, drop, length, Ok}
use Rattle.std.specs.List.{starts_with}
use Rattle.hex.specs.Hex.{decode_of}

-- the line begins with this title, and goes on with the digits of this SHA-256, in either case
pub record Names (title site line : List ℕ) : Type 0 where
  pub begins : starts_with (λ a b. a == b) line title ≡ true
  pub digits : decode_of (drop (length title) line) ≡ Ok site
