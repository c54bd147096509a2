-- What a seal covers.
use Rattle.std.specs.Prelude.{ℕ, List}
use Rattle.sha2.specs.Hashers.{Holds256}
use Rattle.sha2.specs.declared.Sha256.{Sha256}

-- the hasher holds these octets: a seal, and those behind its line
abbrev pub Covers : Sha256 → List ℕ → Type 0
Covers hasher octets = Holds256 hasher octets
