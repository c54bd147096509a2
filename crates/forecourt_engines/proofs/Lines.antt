-- The text of a replay, line by line.
use Rattle.std.proofs.Common.{◌≡◌, ℕ, suc, ◌+◌, ◌-◌, ◌<◌, ◌≤◌, List, [], ◌∷◌, ◌++◌, length, take}
use Rattle.std.proofs.Common.{Bool, true, false, not, eqb, Option, Some, None, inl, inr, refl, sym}
use Rattle.std.proofs.Common.{ap, ◌∙◌, arith, append_assoc, append-nil, length-append}
use Rattle.std.specs.Prelude.{◌&&◌, is_some}
use Rattle.std.specs.List.{list_all}
use Rattle.std.proofs.lemmas.Bool.{lt-leb, le-leb, cases_lt}
use Rattle.app_message.specs.Stream.{Held}
use Rattle.forecourt_engines.specs.declared.fault.TextFault.{TextFault}
use Rattle.forecourt_engines.specs.declared.fault.TextFault.TheVariants.{TooLong}
use Rattle.hex_lines.specs.declared.line_reading.TheConstants.{LINE_OCTETS}
use Rattle.forecourt_engines.specs.Answers.{Answerer}
use Rattle.hex_lines.specs.Lines.{kept_of}
use Rattle.forecourt_engines.specs.Text.{State, effect, line_effect, next_line, next}
use Rattle.forecourt_engines.specs.Text.{octet_text}
use Rattle.forecourt_engines.specs.Text.{octet_step, says, after, text_from, end_input, last_text}
use Rattle.forecourt_engines.proofs.Running.{after-append, text_from-append}
use Rattle.hex_lines.specs.Lines.{IsLine}
use Rattle.forecourt_engines.specs.Laws.{between_lines, LineSays, LastLineSays}
use Rattle.forecourt_engines.specs.Laws.{LongLineSays}
use Rattle.forecourt_engines.specs.Laws.{NothingFollows}

-- in a line whose first octets are these
abbrev pub within : List ℕ → ℕ → Held → Answerer → State
within line number stream answerer =
    record { line = line; number = number; stream = stream; answerer = answerer; stop = None }

and_both : (a b : Bool) → (a && b) ≡ true → (a ≡ true) × (b ≡ true)
and_both true b e = (refl, e)
and_both false b e = absurd cc

not_true : (a : Bool) → not a ≡ true → a ≡ false
not_true true e = absurd cc
not_true false e = refl

-- an octet that goes on with the line
pub goes_on : (line : List ℕ) (number : ℕ) (stream : Held) (answerer : Answerer) (b : ℕ)
    → eqb b 10 ≡ false → length line < LINE_OCTETS
    → (next (within line number stream answerer) b ≡ within (line ++ b ∷ []) number stream answerer)
    × (octet_text (within line number stream answerer) b ≡ [])
goes_on line number stream answerer b other short =
    (rw (other, lt-leb _ _ short) refl, rw other refl)

-- octets that go on with the line
line_goes_on : (line more : List ℕ) (number : ℕ) (stream : Held) (answerer : Answerer) → IsLine more
    → length line + length more ≤ LINE_OCTETS
    → (after (within line number stream answerer) more
    ≡ within (line ++ more) number stream answerer)
    × (text_from (within line number stream answerer) more ≡ [])
line_goes_on line [] number stream answerer plain short =
    (ap (λ (l : List ℕ). within l number stream answerer) (sym (append-nil line)), refl)
line_goes_on line (b ∷ more) number stream answerer plain short =
    let parts = and_both (not (eqb b 10)) (list_all (λ (x : ℕ). not (eqb x 10)) more) plain in
    let on = goes_on line number stream answerer b (not_true _ parts.0) (omega arith) in
    let longer : length (line ++ b ∷ []) + length more ≤ LINE_OCTETS =
    omega (arith, length-append line (b ∷ [])) in
    let rest = line_goes_on (line ++ b ∷ []) more number stream answerer parts.1 longer in (
      ap (λ (s : State). after s more) on.0 ∙ rest.0
          ∙ ap (λ (l : List ℕ). within l number stream answerer) (append_assoc line (b ∷ []) more),
      ap (λ (t : List ℕ). t ++ text_from (next (within line number stream answerer) b) more) on.1
          ∙ ap (λ (s : State). text_from s more) on.0 ∙ rest.1,
    )

-- a line feed ends the line
line_ends : (line : List ℕ) (number : ℕ) (stream : Held) (answerer : Answerer)
    → (after (within line number stream answerer) (10 ∷ [])
    ≡ next_line (between_lines number stream answerer)
    (effect number stream answerer (kept_of line)))
    × (text_from (within line number stream answerer) (10 ∷ [])
    ≡ (effect number stream answerer (kept_of line)).text)
line_ends line number stream answerer =
    (refl, append-nil (effect number stream answerer (kept_of line)).text)

pub line_says : LineSays
line_says number stream answerer line plain short =
    let on = line_goes_on [] line number stream answerer plain (omega arith) in
    let end = line_ends line number stream answerer in (
      after-append (between_lines number stream answerer) line (10 ∷ [])
          ∙ ap (λ (s : State). after s (10 ∷ [])) on.0 ∙ end.0,
      text_from-append (between_lines number stream answerer) line (10 ∷ [])
          ∙ ap (λ (t : List ℕ). t ++ text_from (after (between_lines number stream answerer) line)
          (10 ∷ [])) on.1
          ∙ ap (λ (s : State). text_from s (10 ∷ [])) on.0 ∙ end.1,
    )

pub last_line_says : LastLineSays
last_line_says number stream answerer line plain short =
    let on = line_goes_on [] line number stream answerer plain (omega arith) in (
      ap end_input on.0,
      ap (λ (t : List ℕ). t ++ last_text (after (between_lines number stream answerer) line)) on.1
          ∙ ap last_text on.0,
    )

-- ---- the end of the text

pub nothing_follows : NothingFollows
nothing_follows st f [] stop = (refl, refl)
nothing_follows st f (b ∷ bs) stop =
    let stays : next st b ≡ st = ap (λ (s : Option TextFault). octet_step s st b) stop in
    let rest = nothing_follows st f bs stop in (
      ap (λ (s : State). after s bs) stays ∙ rest.0,
      ap (λ (t : List ℕ). t ++ text_from (next st b) bs)
          (ap (λ (s : Option TextFault). says s st b) stop)
          ∙ ap (λ (s : State). text_from s bs) stays ∙ rest.1,
    )

-- a line as long as a line may be, in which one more octet stands
abbrev pub stopped : List ℕ → ℕ → Held → Answerer → State
stopped line number stream answerer =
    record {
      line = line;
      number = number;
      stream = stream;
      answerer = answerer;
      stop = Some (TooLong number);
    }

too_long : (line more : List ℕ) (number : ℕ) (stream : Held) (answerer : Answerer) → IsLine more
    → length line ≤ LINE_OCTETS → LINE_OCTETS < length line + length more
    → (after (within line number stream answerer) more
    ≡ stopped (line ++ take (LINE_OCTETS - length line) more) number stream answerer)
    × (text_from (within line number stream answerer) more ≡ [])
too_long line [] number stream answerer plain within_limit long = absurd (omega arith)
too_long line (b ∷ more) number stream answerer plain within_limit long =
    let parts = and_both (not (eqb b 10)) (list_all (λ (x : ℕ). not (eqb x 10)) more) plain in
    elim (cases_lt (length line) LINE_OCTETS) [
      | inl short ↦ (
          let on = goes_on line number stream answerer b (not_true _ parts.0) short in
          let longer : length (line ++ b ∷ []) ≤ LINE_OCTETS =
          omega (arith, length-append line (b ∷ [])) in
          let still : LINE_OCTETS < length (line ++ b ∷ []) + length more =
          omega (arith, length-append line (b ∷ [])) in
          let rest = too_long (line ++ b ∷ []) more number stream answerer parts.1 longer still in
          let room : LINE_OCTETS - length line ≡ suc (LINE_OCTETS - length (line ++ b ∷ [])) =
          omega (arith, length-append line (b ∷ [])) in
          let same : (line ++ b ∷ []) ++ take (LINE_OCTETS - length (line ++ b ∷ [])) more ≡ line
          ++ take (LINE_OCTETS - length line) (b ∷ more) =
          append_assoc line (b ∷ []) (take (LINE_OCTETS - length (line ++ b ∷ [])) more)
          ∙ ap (λ (n : ℕ). line ++ take n (b ∷ more)) (sym room) in (
            ap (λ (s : State). after s more) on.0 ∙ rest.0
                ∙ ap (λ (l : List ℕ). stopped l number stream answerer) same,
            ap (λ (t : List ℕ). t ++ text_from (next (within line number stream answerer) b) more)
                on.1 ∙ ap (λ (s : State). text_from s more) on.0 ∙ rest.1,
          ))
      | inr full ↦ (
          let other : eqb b 10 ≡ false = not_true _ parts.0 in
          let stops : next (within line number stream answerer) b
          ≡ stopped line number stream answerer = rw (other, le-leb _ _ full) refl in
          let says_nothing : octet_text (within line number stream answerer) b ≡ [] =
          rw other refl in
          let rest = nothing_follows (stopped line number stream answerer) (TooLong number) more
          refl in
          let room : LINE_OCTETS - length line ≡ 0 = omega arith in
          let same : line ≡ line ++ take (LINE_OCTETS - length line) (b ∷ more) =
          sym (append-nil line) ∙ ap (λ (n : ℕ). line ++ take n (b ∷ more)) (sym room) in (
            ap (λ (s : State). after s more) stops ∙ rest.0
                ∙ ap (λ (l : List ℕ). stopped l number stream answerer) same,
            ap (λ (t : List ℕ). t ++ text_from (next (within line number stream answerer) b) more)
                says_nothing ∙ ap (λ (s : State). text_from s more) stops ∙ rest.1,
          ))
    ]

pub long_line_says : LongLineSays
long_line_says number stream answerer line plain long =
    let ends = too_long [] line number stream answerer plain (omega arith) (omega arith) in
    (ap (λ (s : State). s.stop) ends.0, ap (λ (s : State). s.answerer) ends.0, ends.1)

-- ---- the same of any state

-- a state in which the text goes on
is_within : (st : State) → st.stop ≡ None → within st.line st.number st.stream st.answerer ≡ st
is_within st none = ap (λ (f : Option TextFault). record st { stop = f }) (sym none)

pub held_on : (st : State) (more : List ℕ) → st.stop ≡ None → IsLine more
    → length st.line + length more ≤ LINE_OCTETS
    → (after st more ≡ record st { line = st.line ++ more }) × (text_from st more ≡ [])
held_on st more none plain short =
    let on = line_goes_on st.line more st.number st.stream st.answerer plain short in
    let is = is_within st none in (
      ap (λ (s : State). after s more) (sym is) ∙ on.0
          ∙ ap (λ (s : State). record s { line = st.line ++ more }) is,
      ap (λ (s : State). text_from s more) (sym is) ∙ on.1,
    )

pub held_long : (st : State) (more : List ℕ) → st.stop ≡ None → IsLine more
    → length st.line ≤ LINE_OCTETS → LINE_OCTETS < length st.line + length more
    → (after st more ≡ record st {
      line = st.line ++ take (LINE_OCTETS - length st.line) more;
      stop = Some (TooLong st.number);
    })
    × (text_from st more ≡ [])
held_long st more none plain fits long =
    let on = too_long st.line more st.number st.stream st.answerer plain fits long in
    let is = is_within st none in (
      ap (λ (s : State). after s more) (sym is) ∙ on.0,
      ap (λ (s : State). text_from s more) (sym is) ∙ on.1,
    )

-- a whole line, where none is held
pub whole_line : (st : State) (line : List ℕ) → st.stop ≡ None → st.line ≡ [] → IsLine line
    → length line ≤ LINE_OCTETS
    → (after st (line ++ 10 ∷ []) ≡ next_line st
    (effect st.number st.stream st.answerer (kept_of line)))
    × (text_from st (line ++ 10 ∷ [])
    ≡ (effect st.number st.stream st.answerer (kept_of line)).text)
whole_line st line none empty plain short =
    let says = line_says st.number st.stream st.answerer line plain short in
    let is : st ≡ between_lines st.number st.stream st.answerer = sym (is_within st none)
    ∙ ap (λ (l : List ℕ). within l st.number st.stream st.answerer) empty in (
      ap (λ (s : State). after s (line ++ 10 ∷ [])) is ∙ says.0,
      ap (λ (s : State). text_from s (line ++ 10 ∷ [])) is ∙ says.1,
    )

-- a line feed ends the line that is held
pub line_feed : (st : State) → st.stop ≡ None
    → (after st (10 ∷ []) ≡ next_line st (line_effect st))
    × (text_from st (10 ∷ []) ≡ (line_effect st).text)
line_feed st none =
    let is = is_within st none in
    let ends = line_ends st.line st.number st.stream st.answerer in (
      ap (λ (s : State). after s (10 ∷ [])) (sym is) ∙ ends.0,
      ap (λ (s : State). text_from s (10 ∷ [])) (sym is) ∙ ends.1,
    )

-- octets that say nothing, and then more
pub then_more : (st : State) (line more : List ℕ) → text_from st line ≡ []
    → (after st (line ++ more) ≡ after (after st line) more)
    × (text_from st (line ++ more) ≡ text_from (after st line) more)
then_more st line more silent = (
  after-append st line more,
  text_from-append st line more ∙ ap (λ (t : List ℕ). t ++ text_from (after st line) more) silent,
)

ended_by : (stop : Option TextFault) → is_some stop ≡ true → (f : TextFault) × (stop ≡ Some f)
ended_by None e = absurd cc
ended_by (Some f) e = (f, refl)

pub goes_on_still : (stop : Option TextFault) → is_some stop ≡ false → stop ≡ None
goes_on_still None e = refl
goes_on_still (Some f) e = absurd cc

-- a text that has ended stays so
pub stays_ended : (st : State) (more : List ℕ) → is_some st.stop ≡ true
    → (after st more ≡ st) × (text_from st more ≡ [])
stays_ended st more e =
    let stop = ended_by st.stop e in
    nothing_follows st stop.0 more stop.1

-- a line feed behind a line that is held
pub feed_behind : (st : State) (line : List ℕ) → text_from st line ≡ []
    → (after st line).stop ≡ None
    → (after st (line ++ 10 ∷ []) ≡ next_line (after st line) (line_effect (after st line)))
    × (text_from st (line ++ 10 ∷ []) ≡ (line_effect (after st line)).text)
feed_behind st line silent none =
    let more = then_more st line (10 ∷ []) silent in
    let feed = line_feed (after st line) none in
    (more.0 ∙ feed.0, more.1 ∙ feed.1)

-- .. and behind one that ended the text
pub feed_behind_end : (st : State) (line : List ℕ) → text_from st line ≡ []
    → is_some (after st line).stop ≡ true
    → (after st (line ++ 10 ∷ []) ≡ after st line) × (text_from st (line ++ 10 ∷ []) ≡ [])
feed_behind_end st line silent some =
    let more = then_more st line (10 ∷ []) silent in
    let stays = stays_ended (after st line) (10 ∷ []) some in
    (more.0 ∙ stays.0, more.1 ∙ stays.1)

-- a line and its line feed, and then the rest
pub line_by_line : (st next_st : State) (rest line others out next_out : List ℕ)
    → next_st ≡ after st (line ++ 10 ∷ []) → next_out ≡ out ++ text_from st (line ++ 10 ∷ [])
    → rest ≡ (line ++ 10 ∷ []) ++ others
    → (after next_st others ≡ after st rest)
    × (next_out ++ text_from next_st others ≡ out ++ text_from st rest)
line_by_line st next_st rest line others out next_out state text parts =
    let whole : List ℕ = line ++ 10 ∷ [] in (
      ap (λ (s : State). after s others) state ∙ sym (after-append st whole others)
          ∙ ap (λ (t : List ℕ). after st t) (sym parts),
      ap (λ (t : List ℕ). t ++ text_from next_st others) text
          ∙ append_assoc out (text_from st whole) (text_from next_st others)
          ∙ ap (λ (t : List ℕ). out ++ t)
          (ap (λ (s : State). text_from st whole ++ text_from s others) state
          ∙ sym (text_from-append st whole others)
          ∙ ap (λ (t : List ℕ). text_from st t) (sym parts)),
    )
