-- Octets as they are written in hexadecimal, for worked cases.
use Prim.Native.String.{String}
use Rattle.std.specs.Prelude.{ℕ, ◌+◌, ◌-◌, ◌*◌, nat_lt, not, List, [], ◌∷◌, ◌==◌, filter, codes}
use Rattle.std.specs.Prelude.{if◌then◌else◌}

-- the number of a digit, 0 to 9 or A to F
abbrev pub digit : ℕ → ℕ
digit c = if nat_lt c 58 then c - 48 else c - 55

-- two digits an octet
abbrev pub paired : List ℕ → List ℕ
paired (high ∷ low ∷ digits) = (digit high * 16 + digit low) ∷ paired digits
paired digits = []

-- the octets that these digits write; spaces between them say nothing
abbrev pub octets : String → List ℕ
octets text = paired (filter (λ c. not (c == 32)) (codes text))
