-- A replay's book keeps its configuration, and its report is that of what was read.
use Rattle.std.proofs.Common.{◌≡◌, ℕ, Bool, true, false, List, [], ◌∷◌, ◌++◌, Option, Some, None}
use Rattle.std.proofs.Common.{Result, Ok, Err, refl, ap, subst, ◌∙◌, ◌==◌, nat_le, length}
use Rattle.std.proofs.Common.{arith, if◌then◌else◌}
use Rattle.std.specs.Io.KnownBytes.{Appends}
use Rattle.devices.specs.Devices.{AppendsFront}
use Rattle.devices.proofs.KnownBytes.{Consumes-none}
use Rattle.hex.specs.Hex.{decode_of}
use Rattle.hex.specs.declared.error.FromHexError.{FromHexError}
use Rattle.app_message.specs.Stream.{Held, fed_by}
use Rattle.app_message.specs.Telegram.{Telegram}
use Rattle.device_map.specs.Requests.{request_at}
use Rattle.device_map.specs.declared.fault.MapFault.{MapFault}
use Rattle.site_base.specs.declared.actor.Actor.{Actor}
use Rattle.site_base.specs.declared.event.Event.{Event}
use Rattle.site_base.specs.Configured.{Configured}
use Rattle.site_book.specs.Book.{Book, is_full, whole_book, with_row_of}
use Rattle.forecourt_engines.specs.Answers.{Answerer, after_message, after_messages, book_meaning}
use Rattle.forecourt_engines.specs.declared.fault.TextFault.{TextFault}
use Rattle.forecourt_engines.specs.declared.fault.TextFault.TheVariants as faults
use Rattle.forecourt_engines.specs.declared.fault.ReplayFault.{ReplayFault}
use Rattle.forecourt_engines.specs.declared.fault.ReplayFault.TheVariants as ends_so
use Rattle.forecourt_engines.specs.Replay.{is_early, is_unwritten, as_fault, Replayed}
use Rattle.forecourt_engines.specs.Reporting.{Reported, WritesReport, input_report}
use Rattle.forecourt_engines.specs.Reporting.{book_report, opening_state}
use Rattle.forecourt_engines.proofs.Running.{AppendsFront-none}
use Rattle.hex_lines.specs.declared.line_reading.TheConstants.{LINE_OCTETS}
use Rattle.forecourt_engines.specs.Text.{State, after, book_of, octets_effect, end_input, ends}
use Rattle.hex_lines.specs.Lines.{is_skipped, kept_of}
use Rattle.forecourt_engines.specs.Text.{effect, line_effect, next, next_line}
use Rattle.forecourt_engines.specs.Text.{octet_step, start}

-- what no row changes: the configuration, and how many rows are forgotten
abbrev unmoved : Book → Configured × ℕ
unmoved b = (b.config, b.forgotten)

book_keeps : (b : Book) (meaning : Result (Actor × Event) MapFault)
    → unmoved (book_meaning b meaning) ≡ unmoved b
book_keeps b (Err fault) = refl
book_keeps b (Ok x) = by_room (is_full b)
  where
    by_room : (full : Bool) → unmoved (if full then b else with_row_of b x.0 x.1) ≡ unmoved b
    by_room true = refl
    by_room false = refl

answerer_keeps : (a : Answerer) (ms : List Telegram)
    → unmoved (after_messages a ms).book ≡ unmoved a.book
answerer_keeps a [] = refl
answerer_keeps a (m ∷ ms) =
    answerer_keeps (after_message a m) ms ∙ book_keeps a.book (request_at m)

line_keeps : (number : ℕ) (stream : Held) (a : Answerer) (kept : List ℕ)
    → unmoved (effect number stream a kept).answerer.book ≡ unmoved a.book
line_keeps number stream a kept = by_skip (is_skipped kept)
  where
    by_text : (text : Result (List ℕ) FromHexError)
        → unmoved (octets_effect number stream a text).answerer.book ≡ unmoved a.book
    by_text (Ok octets) = answerer_keeps a (fed_by stream octets).messages
    by_text (Err fault) = refl

    by_skip : (skips : Bool)
        → unmoved (if skips then record { stream = stream; answerer = a; stop = None; text = [] }
        else octets_effect number stream a (decode_of kept)).answerer.book
        ≡ unmoved a.book
    by_skip true = refl
    by_skip false = by_text (decode_of kept)

told_keeps : (st : State) → unmoved (next_line st (line_effect st)).answerer.book
    ≡ unmoved st.answerer.book
told_keeps st = line_keeps st.number st.stream st.answerer (kept_of st.line)

octet_keeps : (st : State) (b : ℕ)
    → unmoved (next st b).answerer.book ≡ unmoved st.answerer.book
octet_keeps st b = by_stop st.stop
  where
    by_length : (long : Bool)
        → unmoved (if long then record st { stop = Some (faults.TooLong st.number) }
        else record st { line = st.line ++ b ∷ [] }).answerer.book
        ≡ unmoved st.answerer.book
    by_length true = refl
    by_length false = refl

    by_octet : (ends_line : Bool)
        → unmoved (if ends_line then next_line st (line_effect st)
        else if nat_le LINE_OCTETS (length st.line)
        then record st { stop = Some (faults.TooLong st.number) }
        else record st { line = st.line ++ b ∷ [] }).answerer.book
        ≡ unmoved st.answerer.book
    by_octet true = told_keeps st
    by_octet false = by_length (nat_le LINE_OCTETS (length st.line))

    by_stop : (stop : Option TextFault) → unmoved (octet_step stop st b).answerer.book
        ≡ unmoved st.answerer.book
    by_stop (Some fault) = refl
    by_stop None = by_octet (b == 10)

octets_keep : (st : State) (input : List ℕ) → unmoved (after st input).answerer.book
    ≡ unmoved st.answerer.book
octets_keep st [] = refl
octets_keep st (b ∷ bs) = octets_keep (next st b) bs ∙ octet_keeps st b

end_keeps : (st : State) → unmoved (end_input st).answerer.book ≡ unmoved st.answerer.book
end_keeps st = by_stop st.stop
  where
    by_stop : (stop : Option TextFault) → unmoved (ends stop st).answerer.book
        ≡ unmoved st.answerer.book
    by_stop (Some fault) = refl
    by_stop None = told_keeps st

-- the book that an input leads to has the configuration that it began with, and has forgotten no
-- more rows
pub same_config : (st : State) (input : List ℕ) → unmoved (book_of st input)
    ≡ unmoved st.answerer.book
same_config st input = end_keeps (after st input) ∙ octets_keep st input

-- ---- how it ends

late : (fault : Option TextFault) → is_early (as_fault fault) ≡ false
late None = refl
late (Some fault) = refl

early : (fault : ReplayFault) → is_unwritten fault ≡ true → is_early (Some fault) ≡ true
early ends_so.NoMemory before = refl
early (ends_so.Read fault) before = refl
early (ends_so.Write fault) before = refl
early (ends_so.Text fault) before = cc

-- the book couldn't be opened
pub reports_unopened : (turns : ℕ) (c : Configured) (a x : Option (List ℕ)) (fault : ReplayFault)
    → is_early (Some fault) ≡ true → Reported turns c a a x x (Some fault)
reports_unopened turns c a x fault soon = record {
  read = [];
  consumed = Consumes-none a;
  few = omega arith;
  front = AppendsFront-none x (input_report c []);
  whole = λ late. cc;
  exact = λ late. cc;
  there = λ late. cc;
}

-- no more could be read, or there was no memory
pub reports_early : (turns : ℕ) (c : Configured) (st : State) (a b x : Option (List ℕ))
    (fault : ReplayFault) (book : Option Book) → is_unwritten fault ≡ true
    → Replayed turns st a b None None (Some fault) book → Reported turns c a b x x (Some fault)
reports_early turns c st a b x fault book before r =
    let soon : is_early (Some fault) ≡ true = early fault before in
    record {
      read = r.read;
      consumed = r.consumed;
      few = r.few;
      front = AppendsFront-none x (input_report c r.read);
      whole = λ late. cc;
      exact = λ late. cc;
      there = λ late. cc;
    }

book_there : (turns : ℕ) (st : State) (a b : Option (List ℕ)) (fault : Option TextFault)
    (book : Book)
    → (r : Replayed turns st a b None None (as_fault fault) (Some book)) → book ≡ book_of st r.read
book_there turns st a b fault book r =
    let same : Some book ≡ Some (book_of st r.read) = r.rows (late fault) in
    cc

-- the book of a replay has the configuration that it began with, and has forgotten no row
pub config_there : (turns : ℕ) (c : Configured) (st : State) (a b : Option (List ℕ))
    (fault : Option TextFault) (book : Book) → st ≡ opening_state c
    → Replayed turns st a b None None (as_fault fault) (Some book)
    → (book.config ≡ c) × (book.forgotten ≡ 0)
config_there turns c st a b fault book begins r =
    let same : unmoved book ≡ (c, 0) =
    ap unmoved (book_there turns st a b fault book r)
    ∙ same_config st r.read
    ∙ ap (λ (s : State). unmoved s.answerer.book) begins in
    (ap (λ (x : Configured × ℕ). x.0) same, ap (λ (x : Configured × ℕ). x.1) same)

-- .. where its text has ended
pub whole_there : (turns : ℕ) (c : Configured) (changes : Bool) (st : State)
    (a b x y : Option (List ℕ)) (fault : Option ReplayFault) (book : Book)
    → st ≡ start (record { book = whole_book c []; changes = changes })
    → Replayed turns st a b x y fault (Some book) → is_early fault ≡ false → book.forgotten ≡ 0
whole_there turns c changes st a b x y fault book begins r ended =
    let there : Some book ≡ Some (book_of st r.read) = r.rows ended in
    let same : book ≡ book_of st r.read = cc in
    ap (λ (x : Configured × ℕ). x.1)
    (ap unmoved same ∙ same_config st r.read ∙ ap (λ (s : State). unmoved s.answerer.book) begins)

-- the text has ended, and the report of its rows was written, or a front of it
pub reports : (turns : ℕ) (c : Configured) (st : State) (a b x y : Option (List ℕ))
    (fault : Option TextFault) (book : Book) (end : Option ReplayFault) → st ≡ opening_state c
    → Replayed turns st a b None None (as_fault fault) (Some book)
    → WritesReport (as_fault fault) book x y end → Reported turns c a b x y end
reports turns c st a b x y fault book end begins r w =
    let begun : Replayed turns (opening_state c) a b None None (as_fault fault) (Some book) =
    subst (λ (s : State). Replayed turns s a b None None (as_fault fault) (Some book)) begins r in
    let text : book_report book ≡ input_report c begun.read =
    ap book_report (book_there turns (opening_state c) a b fault book begun) in
    record {
      read = begun.read;
      consumed = begun.consumed;
      few = begun.few;
      front = subst (AppendsFront x y) text w.front;
      whole = λ soon. subst (Appends x y) text (w.whole soon);
      exact = λ soon. w.exact soon ∙ begun.exact (late fault);
      there = λ soon. begun.there (late fault);
    }
