-- A change that was written.
use Rattle.std.specs.Prelude.{◌≡◌, ℕ, List, Option, Some, None}
use Rattle.app_message.specs.Spelling.{spelling}
use Rattle.app_message.specs.Telegram.{Telegram}

-- the change goes to this node, and these are its octets; or there is none
abbrev pub IsChangeTo : Option Telegram → Option (List ℕ) → List ℕ → Type 0
IsChangeTo None None octets = Unit {0}
IsChangeTo (Some m) (Some node) octets = (node ≡ m.to) × (octets ≡ spelling m)
IsChangeTo None (Some node) octets = ⊥
IsChangeTo (Some m) None octets = ⊥
