-- The text of a replay as a whole: its lines make one stream of octets, and the text is the answers
-- to the messages of that stream, whatever the lines cut.
use Rattle.std.specs.Prelude.{◌≡◌, ℕ, List, [], ◌∷◌, ◌++◌, length, ◌==◌, nat_lt, Option, Some, None}
use Rattle.std.specs.Prelude.{Result, Ok, Err, if◌then◌else◌}
use Rattle.hex.specs.Hex.{decode_of}
use Rattle.hex.specs.declared.error.FromHexError.{FromHexError}
use Rattle.app_message.specs.declared.fault.StreamFault.{StreamFault}
use Rattle.app_message.specs.Stream.{Stream, stream_of}
use Rattle.forecourt_engines.specs.declared.fault.TextFault.{TextFault}
use Rattle.forecourt_engines.specs.declared.fault.TextFault.TheVariants as faults
use Rattle.hex_lines.specs.declared.line_reading.TheConstants.{LINE_OCTETS}
use Rattle.forecourt_engines.specs.Answers.{Answerer, answers_to, after_messages}
use Rattle.hex_lines.specs.Lines.{kept_of, is_skipped}
use Rattle.forecourt_engines.specs.Text.{start, next_number, fault_text}
use Rattle.forecourt_engines.specs.Text.{left_over, text_of, fault_of, book_of}

-- what follows the last line feed is a line where it isn't empty
abbrev pub last_line : List ℕ → List (List ℕ)
last_line [] = []
last_line (x ∷ line) = (x ∷ line) ∷ []

-- the lines of an input whose first line begins with these octets; each ends with a line feed
abbrev pub lines_from : List ℕ → List ℕ → List (List ℕ)
lines_from line [] = last_line line
lines_from line (b ∷ bs) = if b == 10 then line
    ∷ lines_from [] bs else lines_from (line ++ b ∷ []) bs

abbrev pub lines_of : List ℕ → List (List ℕ)
lines_of input = lines_from [] input

-- the octets that a line spells in hexadecimal, or why it is bad
abbrev pub octets_read : ℕ → Result (List ℕ) FromHexError → Result (List ℕ) TextFault
octets_read number (Ok octets) = Ok octets
octets_read number (Err e) = Err (faults.NotHexadecimal number)

-- the octets of a line, or why it is bad: an empty line or a comment has none
abbrev pub octets_in : ℕ → List ℕ → Result (List ℕ) TextFault
octets_in number line =
    if nat_lt LINE_OCTETS (length line) then Err (faults.TooLong number)
    else if is_skipped (kept_of line) then Ok []
    else octets_read number (decode_of (kept_of line))

-- the octets of the lines before the first bad one, and why that one is bad
pub record Spoken : Type 0 where
  pub octets : List ℕ
  pub bad : Option TextFault

abbrev pub spoken_then : Result (List ℕ) TextFault → Spoken → Spoken
spoken_then (Ok octets) rest = record { octets = octets ++ rest.octets; bad = rest.bad }
spoken_then (Err f) rest = record { octets = []; bad = Some f }

-- what lines speak, of which the first has this number
abbrev pub speak_lines : ℕ → List (List ℕ) → Spoken
speak_lines number [] = record { octets = []; bad = None }
speak_lines number (line ∷ lines) =
    spoken_then (octets_in number line) (speak_lines (next_number number) lines)

-- why a text ends: the stream's fault, else the bad line, else octets of a message that doesn't
-- come
abbrev pub end_of : Option StreamFault → Option TextFault → List ℕ → Option TextFault
end_of (Some f) bad rest = Some (faults.Stream f.fault)
end_of None (Some bad) rest = Some bad
end_of None None rest = left_over rest

-- the whole of a replay: text, fault and book are those of one stream, which the lines spell
pub record IsWhole (b : Answerer) (input : List ℕ) (lines : Spoken) (stream : Stream) : Type 0 where
  pub text : text_of (start b) input ≡ answers_to b stream.messages ++ fault_text stream.fault
  pub fault : fault_of (start b) input ≡ end_of stream.fault lines.bad stream.rest
  pub book : book_of (start b) input ≡ (after_messages b stream.messages).book

-- every text is that of the one stream that its lines before the first bad one spell: for each
-- message its answer as a line, with its change where changes are told, then the line of the
-- stream's fault, if it has one
abbrev pub IsOneStreamOfLines : Type 0
IsOneStreamOfLines = (b : Answerer) (input : List ℕ)
    → IsWhole b input (speak_lines 1 (lines_of input))
    (stream_of (speak_lines 1 (lines_of input)).octets)
