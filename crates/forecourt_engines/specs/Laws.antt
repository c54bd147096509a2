-- What joins the text of a replay to its lines.
use Rattle.std.specs.Prelude.{◌≡◌, ℕ, ◌<◌, ◌≤◌, List, [], ◌∷◌, ◌++◌, length, Some}
use Rattle.std.specs.Prelude.{None}
use Rattle.app_message.specs.Stream.{Held}
use Rattle.forecourt_engines.specs.declared.fault.TextFault.{TextFault}
use Rattle.forecourt_engines.specs.declared.fault.TextFault.TheVariants.{TooLong}
use Rattle.hex_lines.specs.declared.line_reading.TheConstants.{LINE_OCTETS}
use Rattle.forecourt_engines.specs.Answers.{Answerer}
use Rattle.hex_lines.specs.Lines.{IsLine, kept_of}
use Rattle.forecourt_engines.specs.Text.{State, effect, next_line, after, text_from}
use Rattle.forecourt_engines.specs.Text.{end_input}
use Rattle.forecourt_engines.specs.Text.{last_text}

-- between two lines: no line is begun, and the text goes on
abbrev pub between_lines : ℕ → Held → Answerer → State
between_lines number stream answerer =
    record { line = []; number = number; stream = stream; answerer = answerer; stop = None }

-- a line that isn't too long, with its line feed, says what it says as a whole
abbrev pub LineSays : Type 0
LineSays = (number : ℕ) (stream : Held) (answerer : Answerer) (line : List ℕ) → IsLine line
    → length line ≤ LINE_OCTETS
    → (after (between_lines number stream answerer) (line ++ 10 ∷ [])
    ≡ next_line (between_lines number stream answerer)
    (effect number stream answerer (kept_of line)))
    × (text_from (between_lines number stream answerer) (line ++ 10 ∷ [])
    ≡ (effect number stream answerer (kept_of line)).text)

-- so does a last line that has no line feed
abbrev pub LastLineSays : Type 0
LastLineSays = (number : ℕ) (stream : Held) (answerer : Answerer) (line : List ℕ) → IsLine line
    → length line ≤ LINE_OCTETS
    → (end_input (after (between_lines number stream answerer) line)
    ≡ next_line (between_lines number stream answerer)
    (effect number stream answerer (kept_of line)))
    × (text_from (between_lines number stream answerer) line
    ++ last_text (after (between_lines number stream answerer) line)
    ≡ (effect number stream answerer (kept_of line)).text)

-- a line that is too long ends the text, says nothing and makes no row
abbrev pub LongLineSays : Type 0
LongLineSays = (number : ℕ) (stream : Held) (answerer : Answerer) (line : List ℕ) → IsLine line
    → LINE_OCTETS < length line
    → ((after (between_lines number stream answerer) line).stop ≡ Some (TooLong number))
    × ((after (between_lines number stream answerer) line).answerer ≡ answerer)
    × (text_from (between_lines number stream answerer) line ≡ [])

-- once the text has ended nothing is said, whatever follows
abbrev pub NothingFollows : Type 0
NothingFollows = (st : State) (f : TextFault) (input : List ℕ) → st.stop ≡ Some f
    → (after st input ≡ st) × (text_from st input ≡ [])
