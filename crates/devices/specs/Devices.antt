-- What a transfer does to the count of a device, and to the octets that a writer holds.
use Rattle.std.specs.Prelude.{◌≡◌, ℕ, ◌+◌, ◌-◌, ◌^◌, ◌<◌, ◌⊎◌, min, List, ◌++◌, Option}
use Rattle.std.specs.Io.KnownBytes.{Appends}

-- the greatest count
abbrev pub greatest_count : ℕ
greatest_count = 2 ^ 64 - 1

-- the count after one more failed call: the greatest count stays
abbrev pub one_more : ℕ → ℕ
one_more n = min (n + 1) greatest_count

-- the count rose, or it stands at its greatest value
abbrev pub Rose : ℕ → ℕ → Type 0
Rose old new = (old < new) ⊎ (new ≡ greatest_count)

-- a front of the text was written: none of it, some, or all
pub record AppendsFront (old new : Option (List ℕ)) (text : List ℕ) : Type 0 where
  pub front : List ℕ
  pub rest : List ℕ
  pub parts : text ≡ front ++ rest
  pub written : Appends old new front
