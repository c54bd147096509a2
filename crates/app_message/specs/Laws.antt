-- What joins reading to spelling.
use Rattle.std.specs.Prelude.{◌≡◌, ℕ, ◌%◌, List, [], ◌∷◌, ◌++◌, slice_index, Option, Some, None}
use Rattle.std.specs.List.{flat_map, AllByRecursion}
use Rattle.app_message.specs.declared.fault.StreamFault.{StreamFault}
use Rattle.app_message.specs.Telegram.{Telegram, AreOctets}
use Rattle.app_message.specs.Spelling.{spelling, IsMessage}
use Rattle.app_message.specs.Faults.{IsShort, BeginsWith}
use Rattle.app_message.specs.Stream.{Stream, with_messages, stream_of, fed_by, held_after}

-- What ends the messages of a stream: without a fault what is left is the rest, and holds no whole
-- message; with a fault it begins with that fault, which has the originator and the token there.
abbrev pub Ends : Option StreamFault → List ℕ → List ℕ → Type 0
Ends None rest left = (rest ≡ left) × IsShort left
Ends (Some f) rest left = (rest ≡ []) × BeginsWith f.fault left
    × (f.originator ≡ slice_index left 2 ∷ slice_index left 3 ∷ [])
    × (f.token ≡ slice_index left 5 % 32)

-- octets are the spellings of messages that can be spelled, and then what is left
pub record IsStream (s : List ℕ) (t : Stream) : Type 0 where
  pub left : List ℕ
  pub valid : AllByRecursion IsMessage t.messages
  pub parts : s ≡ flat_map spelling t.messages ++ left
  pub ends : Ends t.fault t.rest left

-- every stream of octets is the spellings of the messages that are read, and then what is left
abbrev pub OctetsAreSpelled : Type 0
OctetsAreSpelled = (s : List ℕ) → AreOctets s → IsStream s (stream_of s)

-- of no other stream can that be said: the octets fix the messages, the rest and the fault
abbrev pub OneStream : Type 0
OneStream = (s : List ℕ) (t : Stream) → AreOctets s → IsStream s t → t ≡ stream_of s

-- no spelling begins another, and two messages have two spellings
abbrev pub NoPrefix : Type 0
NoPrefix = (m n : Telegram) (a b : List ℕ) → IsMessage m → IsMessage n → spelling m
    ++ a ≡ spelling n ++ b → (m ≡ n) × (a ≡ b)

-- what was spelled is read again, whatever follows
abbrev pub ReadAgain : Type 0
ReadAgain = (m : Telegram) (s : List ℕ) → IsMessage m
    → stream_of (spelling m ++ s) ≡ with_messages (m ∷ []) (stream_of s)

-- however a stream is cut, its messages are those of the first piece, and then those that the
-- second brings
abbrev pub AnyCutting : Type 0
AnyCutting = (a b : List ℕ)
    → stream_of (a ++ b) ≡ with_messages (stream_of a).messages (fed_by (held_after a) b)
