-- What a message says, seen as plain lists and numbers.
use Rattle.std.specs.Prelude.{ℕ, ◌+◌, ◌<◌, ◌≤◌, List, [], ◌∷◌, length, slice_index, map}
use Rattle.std.specs.Borrow.{Bor}
use Rattle.app_message.specs.declared.kind.Kind.{Kind}

-- an item: its data identifier and its content
pub record Entry : Type 0 where
  pub id : ℕ
  pub content : List ℕ

abbrev pub entry : ℕ → List ℕ → Entry
entry id content = record { id = id; content = content }

-- a message: recipient, originator, kind, token, database address and items
pub record Telegram : Type 0 where
  pub to : List ℕ
  pub from : List ℕ
  pub kind : Kind
  pub token : ℕ
  pub address : List ℕ
  pub items : List Entry

abbrev pub telegram : List ℕ → List ℕ → Kind → ℕ → List ℕ → List Entry → Telegram
telegram to from kind token address items = record {
  to = to;
  from = from;
  kind = kind;
  token = token;
  address = address;
  items = items;
}

-- the items that identifiers and contents make
abbrev pub entries : List (ℕ × Bor (List ℕ)) → List Entry
entries items = map (λ x. entry x.0 x.1.now) items

-- each is below 256
abbrev pub AreOctets : List ℕ → Type 0
AreOctets s = (i : ℕ) → slice_index s i < 256

-- an item that can be spelled
pub record IsEntry (e : Entry) : Type 0 where
  pub id : e.id < 256
  pub size : length e.content ≤ 254
  pub octets : AreOctets e.content

-- items that can be spelled, whose identifiers strictly rise, from low on
abbrev pub Rises : ℕ → List Entry → Type 0
Rises low [] = Unit {0}
Rises low (e ∷ es) = (low ≤ e.id) × IsEntry e × Rises (e.id + 1) es
