-- Items by the width of their numbers, which are unsigned and big-endian.
use Rattle.std.specs.Prelude.{ℕ, List, [], ◌∷◌}
use Rattle.std.specs.Int.{w16, w32, w64, to_be_bytes}
use Rattle.app_message.specs.Telegram.{Entry, entry}

-- one item, of an octet
unfoldable pub octet : ℕ → ℕ → List Entry
octet id n = entry id (n ∷ []) ∷ []

-- one item, of two octets
unfoldable pub two_octets : ℕ → ℕ → List Entry
two_octets id n = entry id (to_be_bytes w16 n) ∷ []

-- one item, of four octets
unfoldable pub four_octets : ℕ → ℕ → List Entry
four_octets id n = entry id (to_be_bytes w32 n) ∷ []

-- one item, of eight octets
unfoldable pub eight_octets : ℕ → ℕ → List Entry
eight_octets id n = entry id (to_be_bytes w64 n) ∷ []
