-- When octets begin with a fault, and when they end before a message does: said of the octets
-- themselves, and not by reading them.
use Rattle.std.specs.Prelude.{◌≡◌, ◌≢◌, ℕ, ◌+◌, ◌*◌, ◌/◌, ◌<◌, ◌≤◌, ◌⊎◌, List, [], ◌∷◌, ◌++◌}
use Rattle.std.specs.Prelude.{length, take, drop, slice_index}
use Rattle.std.specs.List.{flat_map}
use Rattle.app_message.specs.declared.fault.GrammarFault.{GrammarFault}
use Rattle.app_message.specs.declared.fault.GrammarFault.TheVariants.{BadCode, BadKind, BadLength}
use Rattle.app_message.specs.declared.fault.GrammarFault.TheVariants.{BadItem}
use Rattle.app_message.specs.Telegram.{Entry, Rises}
use Rattle.app_message.specs.Spelling.{item_text}

-- the parts of a header and a body, where they stand
abbrev pub code_in : List ℕ → ℕ
code_in s = slice_index s 4

abbrev pub bits_in : List ℕ → ℕ
bits_in s = slice_index s 5 / 32

abbrev pub size_in : List ℕ → ℕ
size_in s = slice_index s 6 * 256 + slice_index s 7

abbrev pub address_size_in : List ℕ → ℕ
address_size_in s = slice_index s 8

abbrev pub items_in : List ℕ → List ℕ
items_in s = drop (address_size_in s) (drop 1 (take (size_in s) (drop 8 s)))

-- a header without a fault
pub record HasHeader (s : List ℕ) : Type 0 where
  pub long : 8 ≤ length s
  pub code : code_in s ≡ 0
  pub not_five : bits_in s ≢ 5
  pub not_six : bits_in s ≢ 6
  pub least : 2 ≤ size_in s
  pub most : size_in s ≤ 1024

-- such a header, and all octets of the body
pub record IsWhole (s : List ℕ) : Type 0 where
  pub header : HasHeader s
  pub all : 8 + size_in s ≤ length s

-- no whole message: fewer than eight octets, or a header without a fault and too few octets behind
-- it
abbrev pub IsShort : List ℕ → Type 0
IsShort s = (length s < 8) ⊎ (HasHeader s × (length s < 8 + size_in s))

-- a length outside 2 to 1,024
pub record HasBadSize (s : List ℕ) : Type 0 where
  pub long : 8 ≤ length s
  pub code : code_in s ≡ 0
  pub not_five : bits_in s ≢ 5
  pub not_six : bits_in s ≢ 6
  pub size : (size_in s < 2) ⊎ (1024 < size_in s)

-- an address that is empty, above 8 octets, or above the body less its own length octet
abbrev pub IsBadAddress : ℕ → ℕ → Type 0
IsBadAddress n size = (n ≡ 0) ⊎ ((8 < n) ⊎ (size < n + 1))

-- the least identifier that may follow these items
abbrev pub least_after : ℕ → List Entry → ℕ
least_after low [] = low
least_after low (e ∷ es) = least_after (e.id + 1) es

-- an item that has no length octet, doesn't rise, has the length 255, or runs over the end
abbrev pub IsBadItem : ℕ → List ℕ → Type 0
IsBadItem low t = (length t < 2)
    ⊎ ((slice_index t 0 < low) ⊎ ((slice_index t 1 ≡ 255) ⊎ (length t < slice_index t 1 + 2)))

-- some items without a fault, and then one with a fault
pub record HasBadItem (low : ℕ) (s : List ℕ) : Type 0 where
  pub sound : List Entry
  pub left : List ℕ
  pub parts : s ≡ flat_map item_text sound ++ left
  pub rises : Rises low sound
  pub some : 0 < length left
  pub faulty : IsBadItem (least_after low sound) left

-- a whole message with a sound address, whose items have a fault
pub record HasBadItems (s : List ℕ) : Type 0 where
  pub whole : IsWhole s
  pub least : 1 ≤ address_size_in s
  pub most : address_size_in s ≤ 8
  pub within : address_size_in s < size_in s
  pub items : HasBadItem 0 (items_in s)

-- octets that begin with this fault
abbrev pub BeginsWith : GrammarFault → List ℕ → Type 0
BeginsWith BadCode s = (8 ≤ length s) × (code_in s ≢ 0)
BeginsWith BadKind s = (8 ≤ length s) × (code_in s ≡ 0) × ((bits_in s ≡ 5) ⊎ (bits_in s ≡ 6))
BeginsWith BadLength s = HasBadSize s ⊎ (IsWhole s × IsBadAddress (address_size_in s) (size_in s))
BeginsWith BadItem s = HasBadItems s
