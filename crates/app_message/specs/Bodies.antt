-- What the octets of a message's body say, read where they lie.
use Rattle.std.specs.Prelude.{◌≡◌, ℕ, zero, suc, ◌≤◌, List, [], ◌∷◌, ◌++◌, length, take, drop}
use Rattle.std.specs.Prelude.{slice_index}
use Rattle.std.specs.List.{flat_map, AllByRecursion}
use Rattle.app_message.specs.declared.kind.Kind.{Kind}
use Rattle.app_message.specs.Telegram.{Entry, entry, Telegram, telegram, AreOctets}
use Rattle.app_message.specs.Telegram.{IsEntry}
use Rattle.app_message.specs.Spelling.{item_text, body, IsHead, IsMessage}

-- one item after another, in as many steps as there are octets: an identifier, the number of octets
-- of its content, the content
unfoldable pub entries_up_to : ℕ → List ℕ → List Entry
entries_up_to zero s = []
entries_up_to (suc n) [] = []
entries_up_to (suc n) (id ∷ []) = []
entries_up_to (suc n) (id ∷ size ∷ s) = entry id (take size s) ∷ entries_up_to n (drop size s)

-- the items that octets list
abbrev pub entries_in : List ℕ → List Entry
entries_in s = entries_up_to (length s) s

-- the message of a head and the octets of a body: the number of octets of the address, the address,
-- the items
abbrev pub of_body : List ℕ → List ℕ → Kind → ℕ → List ℕ → Telegram
of_body to from kind token s = telegram to from kind token (take (slice_index s 0) (drop 1 s))
    (entries_in (drop (slice_index s 0) (drop 1 s)))

-- octets that are the spelling of the items that they list
pub record AreItems (s : List ℕ) : Type 0 where
  pub text : s ≡ flat_map item_text (entries_in s)
  pub valid : AllByRecursion IsEntry (entries_in s)

-- octets that are the body of a message that can be spelled
pub record IsBody (m : Telegram) (s : List ℕ) : Type 0 where
  pub text : s ≡ body m
  pub valid : IsMessage m

-- octets that are the body of a message in the making: its items needn't rise nor fit yet
pub record IsDraft (m : Telegram) (s : List ℕ) : Type 0 where
  pub text : s ≡ body m
  pub head : IsHead m.to m.from m.token
  pub octets : AreOctets m.address
  pub least : 1 ≤ length m.address
  pub most : length m.address ≤ 8
  pub items : AllByRecursion IsEntry m.items

-- a message with one item more, behind the others
abbrev pub with_item : Telegram → Entry → Telegram
with_item m e = record m { items = m.items ++ e ∷ [] }

-- .. with items more
abbrev pub with_items : Telegram → List Entry → Telegram
with_items m es = record m { items = m.items ++ es }
