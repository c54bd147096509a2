-- The one spelling of each message, and which messages can be spelled.
use Rattle.std.specs.Prelude.{◌≡◌, ℕ, ◌+◌, ◌*◌, ◌<◌, ◌≤◌, List, ◌∷◌, ◌++◌, length}
use Rattle.std.specs.List.{flat_map}
use Rattle.std.specs.Int.{w16, to_be_bytes}
use Rattle.app_message.specs.declared.kind.Kind.{Kind}
use Rattle.app_message.specs.declared.kind.Kind.TheVariants.{Read, Answer, Write, Report, Notice}
use Rattle.app_message.specs.declared.kind.Kind.TheVariants.{Ack}
use Rattle.app_message.specs.Telegram.{Entry, Telegram, AreOctets, Rises}

-- the three bits that stand for a kind
abbrev pub kind_code : Kind → ℕ
kind_code Read = 0
kind_code Answer = 1
kind_code Write = 2
kind_code Report = 3
kind_code Notice = 4
kind_code Ack = 7

-- an item: identifier, number of octets, content
abbrev pub item_text : Entry → List ℕ
item_text e = e.id ∷ length e.content ∷ e.content

-- what follows the length: the address with its length, then the items
abbrev pub body_text : List ℕ → List Entry → List ℕ
body_text address items = length address ∷ address ++ flat_map item_text items

abbrev pub body : Telegram → List ℕ
body m = body_text m.address m.items

-- recipient, originator, code 00, kind and token, length of the body
abbrev pub head_text : Telegram → ℕ → List ℕ
head_text m n = m.to ++ m.from ++ (0 ∷ (kind_code m.kind * 32 + m.token) ∷ to_be_bytes w16 n)

-- a message: these eight octets, and then the body
abbrev pub spelling : Telegram → List ℕ
spelling m = head_text m (length (body m)) ++ body m

-- recipient and originator have two octets each, and the token five bits
pub record IsHead (to from : List ℕ) (token : ℕ) : Type 0 where
  pub to_size : length to ≡ 2
  pub to_octets : AreOctets to
  pub from_size : length from ≡ 2
  pub from_octets : AreOctets from
  pub in_range : token < 32

-- a message that can be spelled
pub record IsMessage (m : Telegram) : Type 0 where
  pub head : IsHead m.to m.from m.token
  pub address_least : 1 ≤ length m.address
  pub address_most : length m.address ≤ 8
  pub address_octets : AreOctets m.address
  pub items : Rises 0 m.items
  pub least : 2 ≤ length (body m)
  pub most : length (body m) ≤ 1024
