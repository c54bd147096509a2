-- Reading one message from the front of octets, or the first fault. Each stage goes on where the
-- one before it found no fault.
use Rattle.std.specs.Prelude.{ℕ, zero, suc, ◌+◌, ◌*◌, ◌/◌, ◌%◌, ◌==◌, nat_lt, List, [], ◌∷◌}
use Rattle.std.specs.Prelude.{length, take, drop, slice_index, Result, Ok, Err, if◌then◌else◌}
use Rattle.app_message.specs.declared.fault.GrammarFault.{GrammarFault}
use Rattle.app_message.specs.declared.fault.GrammarFault.TheVariants.{BadCode, BadKind, BadLength}
use Rattle.app_message.specs.declared.fault.GrammarFault.TheVariants.{BadItem}
use Rattle.app_message.specs.declared.kind.Kind.{Kind}
use Rattle.app_message.specs.declared.kind.Kind.TheVariants.{Read, Answer, Write, Report, Notice}
use Rattle.app_message.specs.declared.kind.Kind.TheVariants.{Ack}
use Rattle.app_message.specs.Telegram.{Entry, entry, Telegram, telegram}

-- why no message is read: there are too few octets, or there is a fault
pub data Halt : Type 0 where
  short : Halt
  fault : (f : GrammarFault) → Halt

infixl 10 ◌>>=◌
abbrev pub ◌>>=◌ : {A B : Type 0} → Result A Halt → (A → Result B Halt) → Result B Halt
(Ok x) >>= f = f x
(Err e) >>= f = Err e

-- the first eight octets
pub record Header : Type 0 where
  pub to : List ℕ
  pub from : List ℕ
  pub kind : Kind
  pub token : ℕ
  pub len : ℕ

-- the kind that three bits stand for
abbrev pub kind_at : ℕ → Result Kind Halt
kind_at b = if b == 0 then Ok Read
    else if b == 1 then Ok Answer
    else if b == 2 then Ok Write
    else if b == 3 then Ok Report
    else if b == 4 then Ok Notice
    else if b == 7 then Ok Ack
    else Err (fault BadKind)

-- the length of the body, 2 to 1,024
abbrev pub length_at : ℕ → Result ℕ Halt
length_at n = if nat_lt n 2 then Err (fault BadLength)
    else if nat_lt 1024 n then Err (fault BadLength)
    else Ok n

-- a header: recipient, originator, code 00, kind and token, length
unfoldable pub header_at : List ℕ → Result Header Halt
header_at s = if nat_lt (length s) 8 then Err short
    else if slice_index s 4 == 0 then (do
      kind ← kind_at (slice_index s 5 / 32)
      len ← length_at (slice_index s 6 * 256 + slice_index s 7)
      Ok (record {
        to = slice_index s 0 ∷ slice_index s 1 ∷ [];
        from = slice_index s 2 ∷ slice_index s 3 ∷ [];
        kind = kind;
        token = slice_index s 5 % 32;
        len = len;
      }))
    else Err (fault BadCode)

-- an item, whose identifier isn't below low, and the octets after it
unfoldable pub item_at : ℕ → List ℕ → Result (Entry × List ℕ) Halt
item_at low s = if nat_lt (length s) 2 then Err (fault BadItem)
    else if nat_lt (slice_index s 0) low then Err (fault BadItem)
    else if slice_index s 1 == 255 then Err (fault BadItem)
    else if nat_lt (length (drop 2 s)) (slice_index s 1) then Err (fault BadItem)
    else Ok (
      entry (slice_index s 0) (take (slice_index s 1) (drop 2 s)),
      drop (slice_index s 1) (drop 2 s),
    )

-- items up to the end, in as many steps as there are octets
unfoldable pub items_at : ℕ → ℕ → List ℕ → Result (List Entry) Halt
items_at zero low s = Ok []
items_at (suc n) low s = if length s == 0 then Ok []
    else (item_at low s >>= λ x. items_at n (x.0.id + 1) x.1 >>= λ es. Ok (x.0 ∷ es))

-- the number of octets of the address, 1 to 8 and within the body
unfoldable pub address_at : List ℕ → Result ℕ Halt
address_at s = if slice_index s 0 == 0 then Err (fault BadLength)
    else if nat_lt 8 (slice_index s 0) then Err (fault BadLength)
    else if nat_lt (length s) (slice_index s 0 + 1) then Err (fault BadLength)
    else Ok (slice_index s 0)

-- the message of a header and a body
unfoldable pub body_at : Header → List ℕ → Result Telegram Halt
body_at h s = do
  n ← address_at s
  items ← items_at (length (drop n (drop 1 s))) 0 (drop n (drop 1 s))
  Ok (telegram h.to h.from h.kind h.token (take n (drop 1 s)) items)

-- the message at the front, and the octets after it
unfoldable pub front_at : List ℕ → Result (Telegram × List ℕ) Halt
front_at s = do
  h ← header_at s
  if nat_lt (length (drop 8 s)) h.len then Err short
      else (body_at h (take h.len (drop 8 s)) >>= λ m. Ok (m, drop h.len (drop 8 s)))
