-- The text of a replay is that of one stream, whatever the lines cut.
use Rattle.std.proofs.Common.{◌≡◌, ℕ, ◌<◌, ◌≤◌, List, [], ◌∷◌, ◌++◌, length, Bool, true, false}
use Rattle.std.proofs.Common.{cond, eqb, Option, Some, None, Result, Ok, Err, inl, inr, refl, sym}
use Rattle.std.proofs.Common.{ap, subst, ◌∙◌, arith, append_assoc, append-nil, length-append}
use Rattle.std.proofs.lemmas.Bool.{lt-ltb, le-ltb, le-leb, cases_lt}
use Rattle.hex.specs.Hex.{decode_of}
use Rattle.hex.specs.declared.error.FromHexError.{FromHexError}
use Rattle.app_message.specs.declared.fault.StreamFault.{StreamFault}
use Rattle.app_message.specs.Telegram.{Telegram}
use Rattle.app_message.specs.Stream.{Stream, Held, walk, with_messages, held_part, held_after}
use Rattle.app_message.specs.Stream.{stream_of}
use Rattle.app_message.specs.Stream.{fed_by, fed_from}
use Rattle.app_message.proofs.Cutting.{any_cut}
use Rattle.forecourt_engines.specs.declared.fault.TextFault.{TextFault}
use Rattle.forecourt_engines.specs.declared.fault.TextFault.TheVariants as faults
use Rattle.hex_lines.specs.declared.line_reading.TheConstants.{LINE_OCTETS}
use Rattle.forecourt_engines.specs.Answers.{Answerer, lines_for, after_message, answers_to}
use Rattle.forecourt_engines.specs.Answers.{after_messages}
use Rattle.hex_lines.specs.Lines.{kept_of, is_skipped}
use Rattle.forecourt_engines.specs.Text.{State, Effect, start, effect}
use Rattle.forecourt_engines.specs.Text.{octets_effect, stream_effect, stop_of, fault_text}
use Rattle.forecourt_engines.specs.Text.{line_effect, next_number}
use Rattle.forecourt_engines.specs.Text.{next_line, next, octet_text, after, text_from, end_input}
use Rattle.forecourt_engines.specs.Text.{last_text}
use Rattle.forecourt_engines.specs.Text.{left_over, fault_at_end, last_fault, text_of, fault_of}
use Rattle.forecourt_engines.specs.Text.{book_of}
use Rattle.forecourt_engines.specs.WholeText.{lines_from, octets_in, Spoken, speak_lines}
use Rattle.forecourt_engines.specs.WholeText.{spoken_then}
use Rattle.forecourt_engines.specs.WholeText.{end_of, IsOneStreamOfLines}
use Rattle.forecourt_engines.proofs.Lines.{nothing_follows, goes_on}
use Rattle.forecourt_engines.proofs.Running.{stopped_says, stopped_ended, stopped_fault}
use Rattle.std.proofs.lemmas.Bool.Decides.{nat_tests}

-- ---- answers to messages one after another

answers-append : (b : Answerer) (ms ns : List Telegram)
    → answers_to b (ms ++ ns) ≡ answers_to b ms ++ answers_to (after_messages b ms) ns
answers-append b [] ns = refl
answers-append b (m ∷ ms) ns =
    ap (λ (t : List ℕ). lines_for b m ++ t) (answers-append (after_message b m) ms ns)
    ∙ sym (append_assoc (lines_for b m) (answers_to (after_message b m) ms)
    (answers_to (after_messages (after_message b m) ms) ns))

after-messages-append : (b : Answerer) (ms ns : List Telegram)
    → after_messages b (ms ++ ns) ≡ after_messages (after_messages b ms) ns
after-messages-append b [] ns = refl
after-messages-append b (m ∷ ms) ns = after-messages-append (after_message b m) ms ns

-- ---- what one line does

-- in a line, after lines that spoke these octets
abbrev in_line : Answerer → List ℕ → ℕ → List ℕ → State
in_line b a number line = record {
  line = line;
  number = number;
  stream = held_after a;
  answerer = after_messages b (stream_of a).messages;
  stop = None;
}

-- it speaks octets, and the text goes on
record Goes (b : Answerer) (a : List ℕ) (number : ℕ) (line : List ℕ) (t : Effect)
    (octets : List ℕ) : Type 0 where
  speaks : octets_in number line ≡ Ok octets
  quiet : (stream_of (a ++ octets)).fault ≡ None
  stream : t.stream ≡ held_after (a ++ octets)
  answerer : t.answerer ≡ after_messages b (stream_of (a ++ octets)).messages
  stop : t.stop ≡ None
  text : answers_to b (stream_of a).messages ++ t.text
      ≡ answers_to b (stream_of (a ++ octets)).messages

-- it speaks octets, and ends the stream with a fault
record Breaks (b : Answerer) (a : List ℕ) (number : ℕ) (line : List ℕ) (t : Effect)
    (octets : List ℕ) (f : StreamFault) : Type 0 where
  speaks : octets_in number line ≡ Ok octets
  fault : (stream_of (a ++ octets)).fault ≡ Some f
  answerer : t.answerer ≡ after_messages b (stream_of (a ++ octets)).messages
  stop : t.stop ≡ Some (faults.Stream f.fault)
  text : answers_to b (stream_of a).messages ++ t.text
      ≡ answers_to b (stream_of (a ++ octets)).messages ++ fault_text (Some f)

-- it is bad
record IsBad (b : Answerer) (a : List ℕ) (number : ℕ) (line : List ℕ) (t : Effect) (e : TextFault) :
    Type 0 where
  speaks : octets_in number line ≡ Err e
  answerer : t.answerer ≡ after_messages b (stream_of a).messages
  stop : t.stop ≡ Some e
  text : t.text ≡ []

data Outcome (b : Answerer) (a : List ℕ) (number : ℕ) (line : List ℕ) (t : Effect) : Type 0 where
  goes : (octets : List ℕ) → Goes b a number line t octets → Outcome b a number line t
  breaks : (octets : List ℕ) (f : StreamFault) → Breaks b a number line t octets f
      → Outcome b a number line t
  is_bad : (e : TextFault) → IsBad b a number line t e → Outcome b a number line t

-- octets that bring this stream
fed : (b : Answerer) (a : List ℕ) (number : ℕ) (line octets : List ℕ) (s : Stream)
    (f : Option StreamFault) → s.fault ≡ f → octets_in number line ≡ Ok octets
    → stream_of (a ++ octets) ≡ with_messages (stream_of a).messages s
    → Outcome b a number line (stream_effect (after_messages b (stream_of a).messages) s)
fed b a number line octets s f is speaks cut =
    let before = after_messages b (stream_of a).messages in
    let said_before = answers_to b (stream_of a).messages in
    let says = answers_to before s.messages in
    let told : said_before ++ says ≡ answers_to b (stream_of (a ++ octets)).messages =
    sym (answers-append b (stream_of a).messages s.messages)
    ∙ sym (ap (λ (t : Stream). answers_to b t.messages) cut) in
    let answerer : after_messages before s.messages
    ≡ after_messages b (stream_of (a ++ octets)).messages =
    sym (after-messages-append b (stream_of a).messages s.messages)
    ∙ sym (ap (λ (t : Stream). after_messages b t.messages) cut) in
    by_fault f is told answerer
  where
    by_fault : (g : Option StreamFault) → s.fault ≡ g
        → answers_to b (stream_of a).messages
        ++ answers_to (after_messages b (stream_of a).messages) s.messages
        ≡ answers_to b (stream_of (a ++ octets)).messages
        → after_messages (after_messages b (stream_of a).messages) s.messages
        ≡ after_messages b (stream_of (a ++ octets)).messages
        → Outcome b a number line (stream_effect (after_messages b (stream_of a).messages) s)
    by_fault None none told answerer = goes octets (record {
      speaks = speaks;
      quiet = ap (λ (t : Stream). t.fault) cut ∙ none;
      stream = sym (ap held_part cut);
      answerer = answerer;
      stop = ap stop_of none;
      text =
          ap (λ (g : Option StreamFault). answers_to b (stream_of a).messages
          ++ (answers_to (after_messages b (stream_of a).messages) s.messages ++ fault_text g))
          none
          ∙ ap (λ (t : List ℕ). answers_to b (stream_of a).messages ++ t)
          (append-nil (answers_to (after_messages b (stream_of a).messages) s.messages))
          ∙ told;
    })
    by_fault (Some g) some told answerer = breaks octets g (record {
      speaks = speaks;
      fault = ap (λ (t : Stream). t.fault) cut ∙ some;
      answerer = answerer;
      stop = ap stop_of some;
      text =
          ap (λ (h : Option StreamFault). answers_to b (stream_of a).messages
          ++ (answers_to (after_messages b (stream_of a).messages) s.messages ++ fault_text h))
          some
          ∙ sym (append_assoc (answers_to b (stream_of a).messages)
          (answers_to (after_messages b (stream_of a).messages) s.messages)
          (fault_text (Some g)))
          ∙ ap (λ (t : List ℕ). t ++ fault_text (Some g)) told;
    })

-- a line that isn't too long
outcome : (b : Answerer) (a : List ℕ) (number : ℕ) (line : List ℕ) → (stream_of a).fault ≡ None
    → length line ≤ LINE_OCTETS
    → Outcome b a number line (effect number (held_after a)
    (after_messages b (stream_of a).messages) (kept_of line))
outcome b a number line quiet short = by_skip (is_skipped (kept_of line)) refl
  where
    by_decode : is_skipped (kept_of line) ≡ false → (r : Result (List ℕ) FromHexError)
        → decode_of (kept_of line) ≡ r
        → Outcome b a number line (octets_effect number (held_after a)
        (after_messages b (stream_of a).messages) r)
    by_decode full (Ok octets) is =
        let speaks : octets_in number line ≡ Ok octets =
        rw (le-ltb LINE_OCTETS (length line) short, full, is) refl in
        fed b a number line octets (fed_by (held_after a) octets)
        (fed_by (held_after a) octets).fault refl speaks (any_cut a octets)
    by_decode full (Err e) is = is_bad (faults.NotHexadecimal number) (record {
      speaks = rw (le-ltb LINE_OCTETS (length line) short, full, is) refl;
      answerer = refl;
      stop = refl;
      text = refl;
    })

    by_skip : (skip : Bool) → is_skipped (kept_of line) ≡ skip
        → Outcome b a number line (effect number (held_after a)
        (after_messages b (stream_of a).messages) (kept_of line))
    by_skip true is =
        let nothing : a ++ [] ≡ a = append-nil a in
        rw is (goes [] (record {
          speaks = rw (le-ltb LINE_OCTETS (length line) short, is) refl;
          quiet = ap (λ (s : List ℕ). (stream_of s).fault) nothing ∙ quiet;
          stream = ap held_after (sym nothing);
          answerer = ap (λ (s : List ℕ). after_messages b (stream_of s).messages) (sym nothing);
          stop = refl;
          text = append-nil (answers_to b (stream_of a).messages)
              ∙ ap (λ (s : List ℕ). answers_to b (stream_of s).messages) (sym nothing);
        }))
    by_skip false is = rw is (by_decode is (decode_of (kept_of line)) refl)

-- ---- the text from a line on

-- what lines speak after octets a
abbrev total : List ℕ → Spoken → Stream
total a lines = stream_of (a ++ lines.octets)

-- from this state on the input says what is left of the stream of octets a and those that the lines
-- speak
record IsRest (b : Answerer) (a : List ℕ) (st : State) (input : List ℕ) (lines : Spoken) : Type 0
  where
    text : answers_to b (stream_of a).messages ++ (text_from st input ++ last_text (after st input))
        ≡ answers_to b (total a lines).messages ++ fault_text (total a lines).fault
    fault : last_fault (after st input)
        ≡ end_of (total a lines).fault lines.bad (total a lines).rest
    answerer : (end_input (after st input)).answerer ≡ after_messages b (total a lines).messages

-- a state in which the text has ended, whatever follows
record IsOver (st : State) (input : List ℕ) (e : TextFault) : Type 0 where
  silent : text_from st input ++ last_text (after st input) ≡ []
  fault : last_fault (after st input) ≡ Some e
  answerer : (end_input (after st input)).answerer ≡ st.answerer

over : (st : State) (input : List ℕ) (e : TextFault) → st.stop ≡ Some e → IsOver st input e
over st input e stop =
    let stays = nothing_follows st e input stop in
    record {
      silent =
          ap (λ (t : List ℕ). t ++ last_text (after st input)) stays.1
          ∙ ap last_text stays.0
          ∙ stopped_says st e stop;
      fault = ap last_fault stays.0 ∙ stopped_fault st e stop;
      answerer = ap (λ (s : State). (end_input s).answerer) stays.0
          ∙ ap (λ (s : State). s.answerer) (stopped_ended st e stop);
    }

-- nothing more is spoken
unspoken : (a : List ℕ) → stream_of (a ++ []) ≡ stream_of a
unspoken a = ap stream_of (append-nil a)

-- after a line that is bad
bad_rest : (b : Answerer) (a : List ℕ) (st : State) (input : List ℕ) (e : TextFault)
    → (stream_of a).fault ≡ None → st.stop ≡ Some e
    → st.answerer ≡ after_messages b (stream_of a).messages
    → IsRest b a st input (record { octets = []; bad = Some e })
bad_rest b a st input e quiet stop answerer =
    let done = over st input e stop in
    let none : (stream_of (a ++ [])).fault ≡ None = ap (λ (t : Stream). t.fault) (unspoken a)
    ∙ quiet in
    record {
      text =
          ap (λ (t : List ℕ). answers_to b (stream_of a).messages ++ t) done.silent
          ∙ ap (λ (t : Stream). answers_to b t.messages ++ []) (sym (unspoken a))
          ∙ ap (λ (f : Option StreamFault). answers_to b (stream_of (a ++ [])).messages
          ++ fault_text f) (sym none);
      fault = done.fault ∙ ap (λ (f : Option StreamFault). end_of f (Some e)
          (stream_of (a ++ [])).rest) (sym none);
      answerer = done.answerer ∙ answerer
          ∙ ap (λ (t : Stream). after_messages b t.messages) (sym (unspoken a));
    }

-- ---- a line feed

-- before the first octet of a line
abbrev in_empty : ℕ → Held → Answerer → Option TextFault → State
in_empty number stream answerer stop =
    record { line = []; number = number; stream = stream; answerer = answerer; stop = stop }

-- after a line feed the next line begins
goes_rest : (b : Answerer) (a : List ℕ) (number : ℕ) (line bs : List ℕ) (octets : List ℕ)
    (rest : Spoken)
    → Goes b a number line (line_effect (in_line b a number line)) octets
    → IsRest b (a ++ octets) (in_line b (a ++ octets) (next_number number) []) bs rest
    → IsRest b a (in_line b a number line) (10 ∷ bs)
    (record { octets = octets ++ rest.octets; bad = rest.bad })
goes_rest b a number line bs octets rest g on =
    let st = in_line b a number line in
    let t = line_effect st in
    let then = in_line b (a ++ octets) (next_number number) [] in
    let same : next_line st t ≡ then =
    ap (λ (s : Held). in_empty (next_number number) s t.answerer t.stop) g.stream
    ∙ ap (λ (c : Answerer). in_empty (next_number number) (held_after (a ++ octets)) c t.stop)
    g.answerer
    ∙ ap (λ (f : Option TextFault). in_empty (next_number number) (held_after (a ++ octets))
    (after_messages b (stream_of (a ++ octets)).messages) f) g.stop in
    let joined : stream_of ((a ++ octets) ++ rest.octets)
    ≡ stream_of (a ++ (octets ++ rest.octets)) =
    ap stream_of (append_assoc a octets rest.octets) in
    let behind = text_from then bs ++ last_text (after then bs) in
    record {
      text =
          ap (λ (s : State). answers_to b (stream_of a).messages
          ++ ((t.text ++ text_from s bs) ++ last_text (after s bs))) same
          ∙ ap (λ (x : List ℕ). answers_to b (stream_of a).messages ++ x)
          (append_assoc t.text (text_from then bs) (last_text (after then bs)))
          ∙ sym (append_assoc (answers_to b (stream_of a).messages) t.text behind)
          ∙ ap (λ (x : List ℕ). x ++ behind) g.text
          ∙ on.text
          ∙ ap (λ (s : Stream). answers_to b s.messages ++ fault_text s.fault) joined;
      fault = ap (λ (s : State). last_fault (after s bs)) same ∙ on.fault
          ∙ ap (λ (s : Stream). end_of s.fault rest.bad s.rest) joined;
      answerer = ap (λ (s : State). (end_input (after s bs)).answerer) same ∙ on.answerer
          ∙ ap (λ (s : Stream). after_messages b s.messages) joined;
    }

-- after a fault of the stream nothing of it follows
broken : (a octets more : List ℕ) (f : StreamFault) → (stream_of (a ++ octets)).fault ≡ Some f
    → stream_of (a ++ (octets ++ more))
    ≡ record { messages = (stream_of (a ++ octets)).messages; rest = []; fault = Some f }
broken a octets more f is =
    ap stream_of (sym (append_assoc a octets more))
    ∙ any_cut (a ++ octets) more
    ∙ ap (λ (g : Option StreamFault). with_messages (stream_of (a ++ octets)).messages
    (fed_from g ((stream_of (a ++ octets)).rest ++ more))) is
    ∙ ap (λ (ms : List Telegram). record { messages = ms; rest = []; fault = Some f })
    (append-nil (stream_of (a ++ octets)).messages)

breaks_rest : (b : Answerer) (a : List ℕ) (number : ℕ) (line bs : List ℕ) (octets : List ℕ)
    (f : StreamFault) (rest : Spoken)
    → Breaks b a number line (line_effect (in_line b a number line)) octets f
    → IsRest b a (in_line b a number line) (10 ∷ bs)
    (record { octets = octets ++ rest.octets; bad = rest.bad })
breaks_rest b a number line bs octets f rest g =
    let st = in_line b a number line in
    let t = line_effect st in
    let done = over (next_line st t) bs (faults.Stream f.fault) g.stop in
    let whole = broken a octets rest.octets f g.fault in
    record {
      text =
          ap (λ (x : List ℕ). answers_to b (stream_of a).messages ++ x)
          (append_assoc t.text (text_from (next_line st t) bs)
          (last_text (after (next_line st t) bs)))
          ∙ ap (λ (x : List ℕ). answers_to b (stream_of a).messages ++ (t.text ++ x)) done.silent
          ∙ ap (λ (x : List ℕ). answers_to b (stream_of a).messages ++ x) (append-nil t.text)
          ∙ g.text
          ∙ ap (λ (s : Stream). answers_to b s.messages ++ fault_text s.fault) (sym whole);
      fault = done.fault ∙ ap (λ (s : Stream). end_of s.fault rest.bad s.rest) (sym whole);
      answerer = done.answerer ∙ g.answerer
          ∙ ap (λ (s : Stream). after_messages b s.messages) (sym whole);
    }

is_bad_rest : (b : Answerer) (a : List ℕ) (number : ℕ) (line bs : List ℕ) (e : TextFault)
    → (stream_of a).fault ≡ None
    → IsBad b a number line (line_effect (in_line b a number line)) e
    → IsRest b a (in_line b a number line) (10 ∷ bs) (record { octets = []; bad = Some e })
is_bad_rest b a number line bs e quiet g =
    let st = in_line b a number line in
    let t = line_effect st in
    let on = bad_rest b a (next_line st t) bs e quiet g.stop g.answerer in
    record {
      text =
          ap (λ (x : List ℕ). answers_to b (stream_of a).messages
          ++ ((x ++ text_from (next_line st t) bs) ++ last_text (after (next_line st t) bs)))
          g.text
          ∙ on.text;
      fault = on.fault;
      answerer = on.answerer;
    }

-- a line that a line feed ends
line_rest : (b : Answerer) (a : List ℕ) (number : ℕ) (line bs : List ℕ) → (stream_of a).fault ≡ None
    → length line ≤ LINE_OCTETS
    → ((c : List ℕ) → (stream_of c).fault ≡ None
    → IsRest b c (in_line b c (next_number number) []) bs
    (speak_lines (next_number number) (lines_from [] bs)))
    → IsRest b a (in_line b a number line) (10 ∷ bs) (speak_lines number (line ∷ lines_from [] bs))
line_rest b a number line bs quiet short on = by_outcome (outcome b a number line quiet short)
  where
    as_spoken : (r : Result (List ℕ) TextFault) → octets_in number line ≡ r
        → IsRest b a (in_line b a number line) (10 ∷ bs)
        (spoken_then r (speak_lines (next_number number) (lines_from [] bs)))
        → IsRest b a (in_line b a number line) (10 ∷ bs)
        (speak_lines number (line ∷ lines_from [] bs))
    as_spoken r speaks says =
        subst (λ (x : Result (List ℕ) TextFault). IsRest b a (in_line b a number line) (10 ∷ bs)
        (spoken_then x (speak_lines (next_number number) (lines_from [] bs)))) (sym speaks)
        says

    by_outcome : Outcome b a number line (line_effect (in_line b a number line))
        → IsRest b a (in_line b a number line) (10 ∷ bs)
        (speak_lines number (line ∷ lines_from [] bs))
    by_outcome (goes octets g) = as_spoken (Ok octets) g.speaks
        (goes_rest b a number line bs octets (speak_lines (next_number number) (lines_from [] bs)) g
        (on (a ++ octets) g.quiet))
    by_outcome (breaks octets f g) = as_spoken (Ok octets) g.speaks
        (breaks_rest b a number line bs octets f
        (speak_lines (next_number number) (lines_from [] bs)) g)
    by_outcome (is_bad e g) = as_spoken (Err e) g.speaks (is_bad_rest b a number line bs e quiet g)

-- ---- the end of the input

-- an empty line says nothing
empty_says : (number : ℕ) (stream : Held) (answerer : Answerer) (stop : Option TextFault)
    → (last_text (in_empty number stream answerer stop) ≡ [])
    × ((end_input (in_empty number stream answerer stop)).answerer ≡ answerer)
    × ((end_input (in_empty number stream answerer stop)).stop ≡ stop)
    × ((end_input (in_empty number stream answerer stop)).stream ≡ stream)
empty_says number stream answerer None = (refl, refl, refl, refl)
empty_says number stream answerer (Some e) = (refl, refl, refl, refl)

-- a last line says what it says with a line feed
last_rest : (b : Answerer) (a : List ℕ) (number : ℕ) (line : List ℕ) (lines : Spoken)
    → IsRest b a (in_line b a number line) (10 ∷ []) lines
    → IsRest b a (in_line b a number line) [] lines
last_rest b a number line lines on =
    let t = line_effect (in_line b a number line) in
    let then = next_line (in_line b a number line) t in
    let empty = empty_says (next_number number) t.stream t.answerer t.stop in
    record {
      text =
          ap (λ (x : List ℕ). answers_to b (stream_of a).messages ++ x)
          (sym (ap (λ (x : List ℕ). (t.text ++ []) ++ x) empty.0 ∙ append-nil (t.text ++ [])
          ∙ append-nil t.text))
          ∙ on.text;
      fault =
          ap (λ (f : Option TextFault). fault_at_end f then) (sym empty.2)
          ∙ same_end (end_input then).stop then (end_input then) (sym empty.3)
          ∙ on.fault;
      answerer = sym empty.1 ∙ on.answerer;
    }
  where
    same_end : (f : Option TextFault) (s u : State) → s.stream ≡ u.stream
        → fault_at_end f s ≡ fault_at_end f u
    same_end None s u same = ap (λ (h : Held). left_over h.rest) same
    same_end (Some e) s u same = refl

-- ---- a line that is too long

long_line : (line : List ℕ) (input : List ℕ) (number : ℕ) → LINE_OCTETS < length line
    → speak_lines number (lines_from line input)
    ≡ record { octets = []; bad = Some (faults.TooLong number) }
long_line [] [] number long = absurd (omega arith)
long_line (x ∷ line) [] number long = rw (lt-ltb LINE_OCTETS (length (x ∷ line)) long) refl
long_line line (b ∷ bs) number long =
    by_test (long_line (line ++ b ∷ []) bs number
    (omega (arith, long, length-append line (b ∷ [])))) (eqb b 10) refl
  where
    by_test : speak_lines number (lines_from (line ++ b ∷ []) bs)
        ≡ record { octets = []; bad = Some (faults.TooLong number) }
        → (is : Bool) → eqb b 10 ≡ is → speak_lines number (lines_from line (b ∷ bs))
        ≡ record { octets = []; bad = Some (faults.TooLong number) }
    by_test more true feed = rw (feed, lt-ltb LINE_OCTETS (length line) long) refl
    by_test more false other = rw other more

-- ---- the whole

-- at the end of the input, in an empty line
nothing_left : (b : Answerer) (a : List ℕ) (number : ℕ) → (stream_of a).fault ≡ None
    → IsRest b a (in_line b a number []) [] (record { octets = []; bad = None })
nothing_left b a number quiet =
    let done = unspoken a in
    record {
      text = ap (λ (s : Stream). answers_to b s.messages ++ []) (sym done)
          ∙ ap (λ (f : Option StreamFault). answers_to b (stream_of (a ++ [])).messages
          ++ fault_text f) (sym (ap (λ (s : Stream). s.fault) done ∙ quiet));
      fault = ap (λ (s : Stream). left_over s.rest) (sym done)
          ∙ ap (λ (f : Option StreamFault). end_of f None (stream_of (a ++ [])).rest)
          (sym (ap (λ (s : Stream). s.fault) done ∙ quiet));
      answerer = ap (λ (s : Stream). after_messages b s.messages) (sym done);
    }

-- the text from inside a line on
rest_of : (b : Answerer) (a : List ℕ) (number : ℕ) (line input : List ℕ)
    → (stream_of a).fault ≡ None → length line ≤ LINE_OCTETS
    → IsRest b a (in_line b a number line) input (speak_lines number (lines_from line input))
rest_of b a number [] [] quiet short = nothing_left b a number quiet
rest_of b a number (x ∷ line) [] quiet short =
    last_rest b a number (x ∷ line) (speak_lines number ((x ∷ line) ∷ []))
    (line_rest b a number (x ∷ line) [] quiet short
    (λ c still. nothing_left b c (next_number number) still))
rest_of b a number line (o ∷ bs) quiet short = by_feed (eqb o 10) refl
    (λ c still. rest_of b c (next_number number) [] bs still (omega arith))
    (λ longer. rest_of b a number (line ++ o ∷ []) bs quiet longer)
  where
    by_feed : (is : Bool) → eqb o 10 ≡ is
        → ((c : List ℕ) → (stream_of c).fault ≡ None
        → IsRest b c (in_line b c (next_number number) []) bs
        (speak_lines (next_number number) (lines_from [] bs)))
        → (length (line ++ o ∷ []) ≤ LINE_OCTETS
        → IsRest b a (in_line b a number (line ++ o ∷ [])) bs
        (speak_lines number (lines_from (line ++ o ∷ []) bs)))
        → IsRest b a (in_line b a number line) (o ∷ bs)
        (speak_lines number (lines_from line (o ∷ bs)))
    by_feed true feed later more =
        let is : o ≡ 10 = grind (arith, nat_tests) in
        rw is (line_rest b a number line bs quiet short later)
    by_feed false other later more = elim (cases_lt (length line) LINE_OCTETS) [
      | inl less ↦ (
          let on = goes_on line number (held_after a) (after_messages b (stream_of a).messages) o
          other less in
          let rest = more (omega (arith, less, length-append line (o ∷ []))) in
          rw other (record {
            text =
                ap (λ (t : List ℕ). answers_to b (stream_of a).messages
                ++ ((t ++ text_from (next (in_line b a number line) o) bs)
                ++ last_text (after (next (in_line b a number line) o) bs))) on.1
                ∙ ap (λ (s : State). answers_to b (stream_of a).messages
                ++ (text_from s bs ++ last_text (after s bs))) on.0
                ∙ rest.text;
            fault = ap (λ (s : State). last_fault (after s bs)) on.0 ∙ rest.fault;
            answerer = ap (λ (s : State). (end_input (after s bs)).answerer) on.0 ∙ rest.answerer;
          }))
      | inr full ↦ (
          let stops : next (in_line b a number line) o
          ≡ record (in_line b a number line) { stop = Some (faults.TooLong number) } =
          rw (other, le-leb _ _ full) refl in
          let says_nothing : octet_text (in_line b a number line) o ≡ [] = rw other refl in
          let over_long : speak_lines number (lines_from line (o ∷ bs))
          ≡ record { octets = []; bad = Some (faults.TooLong number) } =
          ap (λ (t : Bool). speak_lines number
          (cond t (line ∷ lines_from [] bs) (lines_from (line ++ o ∷ []) bs))) other
          ∙ long_line (line ++ o ∷ []) bs number
          (omega (arith, full, length-append line (o ∷ []))) in
          let rest = bad_rest b a (record
          (in_line b a number line) { stop = Some (faults.TooLong number) }) bs
          (faults.TooLong number) quiet refl refl in
          rw over_long (record {
            text =
                ap (λ (t : List ℕ). answers_to b (stream_of a).messages
                ++ ((t ++ text_from (next (in_line b a number line) o) bs)
                ++ last_text (after (next (in_line b a number line) o) bs))) says_nothing
                ∙ ap (λ (s : State). answers_to b (stream_of a).messages
                ++ (text_from s bs ++ last_text (after s bs))) stops
                ∙ rest.text;
            fault = ap (λ (s : State). last_fault (after s bs)) stops ∙ rest.fault;
            answerer = ap (λ (s : State). (end_input (after s bs)).answerer) stops ∙ rest.answerer;
          }))
    ]

-- no octets are a stream of nothing
no_octets : stream_of [] ≡ record { messages = []; rest = []; fault = None }
unfolding walk
no_octets = refl

pub one_stream_of_lines : IsOneStreamOfLines
one_stream_of_lines b input =
    let begins : start b ≡ in_line b [] 1 [] =
    ap (λ (s : Stream). in_empty 1 (held_after []) (after_messages b s.messages) None)
    (sym no_octets) in
    let rest = rest_of b [] 1 [] input (ap (λ (s : Stream). s.fault) no_octets) (omega arith) in
    let nothing_said : answers_to b (stream_of []).messages ≡ [] =
    ap (λ (s : Stream). answers_to b s.messages) no_octets in
    record {
      text =
          ap (λ (s : State). text_of s input) begins
          ∙ ap (λ (t : List ℕ). t ++ text_of (in_line b [] 1 []) input) (sym nothing_said)
          ∙ rest.text;
      fault = ap (λ (s : State). fault_of s input) begins ∙ rest.fault;
      book = ap (λ (s : State). book_of s input) begins
          ∙ ap (λ (a : Answerer). a.book) rest.answerer;
    }
