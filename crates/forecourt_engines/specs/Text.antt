-- The text of a replay, octet by octet: what is written for an input, and why it ends.
use Rattle.std.specs.Prelude.{ℕ, ◌+◌, ◌-◌, ◌^◌, min, List, [], ◌∷◌, ◌++◌}
use Rattle.std.specs.Prelude.{length, ◌==◌, nat_le, Option, Some, None, Result, Ok, Err}
use Rattle.std.specs.Prelude.{if◌then◌else◌}
use Rattle.hex.specs.Hex.{decode_of}
use Rattle.hex.specs.declared.error.FromHexError.{FromHexError}
use Rattle.app_message.specs.declared.fault.StreamFault.{StreamFault}
use Rattle.app_message.specs.Stream.{Stream, Held, held_part, held_after, fed_by}
use Rattle.device_map.specs.Replies.{fault_message}
use Rattle.forecourt_engines.specs.declared.fault.TextFault.{TextFault}
use Rattle.forecourt_engines.specs.declared.fault.TextFault.TheVariants as faults
use Rattle.hex_lines.specs.declared.line_reading.TheConstants.{LINE_OCTETS}
use Rattle.site_book.specs.Book.{Book}
use Rattle.hex_lines.specs.Lines.{is_skipped, kept_of, line_of, without_spaces}
use Rattle.forecourt_engines.specs.Answers.{Answerer, answers_to, after_messages}

-- between two octets of the input: the line so far and its number, the octets of a message to come,
-- the book with whether changes are told, and why the text has ended, if it has
pub record State : Type 0 where
  pub line : List ℕ
  pub number : ℕ
  pub stream : Held
  pub answerer : Answerer
  pub stop : Option TextFault

-- before the first octet
abbrev pub start : Answerer → State
start b = record { line = []; number = 1; stream = held_after []; answerer = b; stop = None }

-- ---- what a line says

-- what a line leads to, and the text that it adds
pub record Effect : Type 0 where
  pub stream : Held
  pub answerer : Answerer
  pub stop : Option TextFault
  pub text : List ℕ

-- a fault of the stream ends the text, with its refusal as the last line
abbrev pub stop_of : Option StreamFault → Option TextFault
stop_of None = None
stop_of (Some f) = Some (faults.Stream f.fault)

abbrev pub fault_text : Option StreamFault → List ℕ
fault_text None = []
fault_text (Some f) = line_of (fault_message f)

-- what a piece of the stream leads to: its messages are answered in order, and then its fault
abbrev pub stream_effect : Answerer → Stream → Effect
stream_effect b s = record {
  stream = held_part s;
  answerer = after_messages b s.messages;
  stop = stop_of s.fault;
  text = answers_to b s.messages ++ fault_text s.fault;
}

-- a line that isn't hexadecimal ends the text; else its octets go to the stream
abbrev pub octets_effect : ℕ → Held → Answerer → Result (List ℕ) FromHexError → Effect
octets_effect number stream b (Ok octets) = stream_effect b (fed_by stream octets)
octets_effect number stream b (Err e) =
    record { stream = stream; answerer = b; stop = Some (faults.NotHexadecimal number); text = [] }

abbrev pub effect : ℕ → Held → Answerer → List ℕ → Effect
effect number stream b kept =
    if is_skipped kept then record { stream = stream; answerer = b; stop = None; text = [] }
    else octets_effect number stream b (decode_of kept)

-- what the line so far says where it ends here
abbrev pub line_effect : State → Effect
line_effect st = effect st.number st.stream st.answerer (kept_of st.line)

-- ---- what an octet says

-- lines are counted up to the greatest count
abbrev pub next_number : ℕ → ℕ
next_number n = min (n + 1) (2 ^ 64 - 1)

-- a line has ended
abbrev pub next_line : State → Effect → State
next_line st t = record {
  line = [];
  number = next_number st.number;
  stream = t.stream;
  answerer = t.answerer;
  stop = t.stop;
}

-- what the text of a line says, in this state
abbrev pub effect_in : State → List ℕ → Effect
effect_in st text = effect st.number st.stream st.answerer (without_spaces text)

-- what a line leads to, while it stands
abbrev pub with_effect : State → Effect → State
with_effect st t = record st { stream = t.stream; answerer = t.answerer }

-- a line feed ends the line; another octet goes on with it, if it may be longer
abbrev pub octet_step : Option TextFault → State → ℕ → State
octet_step (Some f) st b = st
octet_step None st b =
    if b == 10 then next_line st (line_effect st)
    else if nat_le LINE_OCTETS (length st.line) then
    record st { stop = Some (faults.TooLong st.number) }
    else record st { line = st.line ++ b ∷ [] }

abbrev pub next : State → ℕ → State
next st b = octet_step st.stop st b

abbrev pub says : Option TextFault → State → ℕ → List ℕ
says (Some f) st b = []
says None st b = if b == 10 then (line_effect st).text else []

-- the text that an octet adds
abbrev pub octet_text : State → ℕ → List ℕ
octet_text st b = says st.stop st b

-- ---- what an input says

-- the state after octets
abbrev pub after : State → List ℕ → State
after st [] = st
after st (b ∷ bs) = after (next st b) bs

-- the text that octets add
abbrev pub text_from : State → List ℕ → List ℕ
text_from st [] = []
text_from st (b ∷ bs) = octet_text st b ++ text_from (next st b) bs

-- the end of the input ends a line that has no line feed
abbrev pub ends : Option TextFault → State → State
ends (Some f) st = st
ends None st = next_line st (line_effect st)

abbrev pub end_input : State → State
end_input st = ends st.stop st

abbrev pub last_says : Option TextFault → State → List ℕ
last_says (Some f) st = []
last_says None st = (line_effect st).text

abbrev pub last_text : State → List ℕ
last_text st = last_says st.stop st

-- octets of a message that doesn't come
abbrev pub left_over : List ℕ → Option TextFault
left_over [] = None
left_over (b ∷ bs) = Some faults.Truncated

abbrev pub fault_at_end : Option TextFault → State → Option TextFault
fault_at_end (Some f) st = Some f
fault_at_end None st = left_over st.stream.rest

abbrev pub last_fault : State → Option TextFault
last_fault st = fault_at_end (end_input st).stop (end_input st)

-- the whole text of an input
abbrev pub text_of : State → List ℕ → List ℕ
text_of st input = text_from st input ++ last_text (after st input)

-- why it ends
abbrev pub fault_of : State → List ℕ → Option TextFault
fault_of st input = last_fault (after st input)

-- the book that it leads to
abbrev pub book_of : State → List ℕ → Book
book_of st input = (end_input (after st input)).answerer.book
