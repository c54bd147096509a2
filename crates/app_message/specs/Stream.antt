-- A stream of octets: its messages, what is left of it, and the fault that ends it.
use Rattle.std.specs.Prelude.{◌≡◌, ◌≤◌, IfSome, ℕ, zero, suc, ◌%◌, List, [], ◌∷◌, ◌++◌, length}
use Rattle.std.specs.Prelude.{slice_index, Option, Some, None, Result, Ok, Err}
use Rattle.app_message.specs.declared.fault.GrammarFault.{GrammarFault}
use Rattle.app_message.specs.declared.fault.StreamFault.{StreamFault}
use Rattle.app_message.specs.Telegram.{Telegram}
use Rattle.app_message.specs.Grammar.{Halt, short, fault, front_at}

-- messages, the octets of a message to come (none after a fault), and the fault
pub record Stream : Type 0 where
  pub messages : List Telegram
  pub rest : List ℕ
  pub fault : Option StreamFault

abbrev pub stream : List Telegram → List ℕ → Option StreamFault → Stream
stream ms rest f = record { messages = ms; rest = rest; fault = f }

-- a fault, with the originator and the token of the header at the front of these octets
abbrev pub fault_of : GrammarFault → List ℕ → StreamFault
fault_of f s = record {
  fault = f;
  originator = slice_index s 2 ∷ slice_index s 3 ∷ [];
  token = slice_index s 5 % 32;
}

-- these messages, and then a stream
abbrev pub with_messages : List Telegram → Stream → Stream
with_messages ms t = record { messages = ms ++ t.messages; rest = t.rest; fault = t.fault }

-- what a stream is by what stands at its front
abbrev pub stream_on : List ℕ → (List ℕ → Stream) → Result (Telegram × List ℕ) Halt → Stream
stream_on s on (Ok x) = with_messages (x.0 ∷ []) (on x.1)
stream_on s on (Err short) = record { messages = []; rest = s; fault = None }
stream_on s on (Err (fault f)) = record { messages = []; rest = []; fault = Some (fault_of f s) }

-- message after message, in as many steps as there are octets
unfoldable pub walk : ℕ → List ℕ → Stream
walk zero s = record { messages = []; rest = s; fault = None }
walk (suc n) s = stream_on s (walk n) (front_at s)

abbrev pub stream_of : List ℕ → Stream
stream_of s = walk (length s) s

-- what a decoder keeps: the octets of a message to come, or the fault
pub record Held : Type 0 where
  pub rest : List ℕ
  pub fault : Option StreamFault

-- at most 1,031 octets are kept, and none after a fault
pub record IsHeld (h : Held) : Type 0 where
  pub few : length h.rest ≤ 1031
  pub quiet : IfSome h.fault (λ _. h.rest ≡ [])

abbrev pub held_part : Stream → Held
held_part t = record { rest = t.rest; fault = t.fault }

-- what is kept after these octets, in whatever pieces they came
abbrev pub held_after : List ℕ → Held
held_after s = held_part (stream_of s)

abbrev pub fed_from : Option StreamFault → List ℕ → Stream
fed_from None s = stream_of s
fed_from (Some f) s = record { messages = []; rest = []; fault = Some f }

-- what a piece brings: nothing after a fault, else the stream of what was kept and the piece
abbrev pub fed_by : Held → List ℕ → Stream
fed_by h piece = fed_from h.fault (h.rest ++ piece)
