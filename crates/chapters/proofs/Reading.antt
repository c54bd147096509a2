-- Lines that a reader has read, one after another.
use Rattle.std.proofs.Common.{◌≡◌, ℕ, ◌+◌, ◌-◌, ◌<◌, ◌≤◌, ◌^◌, Bool, true, false, List, [], ◌∷◌}
use Rattle.std.proofs.Common.{◌++◌}
use Rattle.std.proofs.Common.{length, drop, take, Option, Some, None, refl, sym, ap, ◌∙◌}
use Rattle.std.proofs.Common.{subst, append-nil, append_assoc, arith, Result, Ok, Err}
use Rattle.std.specs.Prelude.{OnErr, OnOk, if◌then◌else◌}
use Rattle.std.proofs.lemmas.Option.{none-some, same_Some}
use Rattle.std.proofs.lemmas.List.{length-append}
use Rattle.std.proofs.Math.Seq.{drop-append_seam, take-append_seam}
use Rattle.hex_lines.specs.Lines.{IsLine}
use Rattle.site_base.specs.declared.actor.Actor.{Actor}
use Rattle.site_base.specs.declared.event.Event.{Event}
use Rattle.site_book.specs.Book.{Book, next_row, with_row_of}
use Rattle.site_book.specs.Unpaid.{GoesBy, Kept}
use Rattle.site_book.proofs.Growing.{goes_on}
use Rattle.stamps.specs.Stamps.{time_after, time_of_lines}
use Rattle.chapters.specs.declared.fault.HistoryFault.{HistoryFault}
use Rattle.chapters.specs.declared.fault.HistoryFault.TheVariants.{Line}
use Rattle.chapters.specs.ChapterReading.{HistoryRead, add_request, and_then, is_comment}
use Rattle.chapters.specs.ChapterReading.{is_of_seal, is_right_seal, is_same_line, read_line}
use Rattle.chapters.specs.ChapterReading.{read_lines, read_text, sealed_by, with_comment, with_line}
use Rattle.chapters.specs.ChapterReading.{with_seal}
use Rattle.chapters.specs.ChapterText.{seal_line, seal_of}
use Rattle.chapters.specs.History.{IsMadeOf}
use Rattle.chapters.specs.HistoryEnds.{EndState, EndsAt}
use Rattle.chapters.specs.Lines.{lines_from, request_in, unfinished, unfinished_from, whole_lines}
use Rattle.chapters.specs.Readers.{AddsText, AreRead, AreReadTo, KeepsLines, NamesRow}
use Rattle.chapters.specs.Readers.{ReaderState}
use Rattle.chapters.proofs.Lines.{all_unfinished, line_ends, lines_both, none_ends, one_line}
use Rattle.chapters.proofs.Lines.{unfinished_both}
use Rattle.chapters.proofs.Made.{made_more}
use Rattle.chapters.proofs.Times.{none_after, request_tells_none}

-- lines, and more lines
pub read_both : (a b : List (List ℕ)) (r : HistoryRead)
    → read_lines (a ++ b) r ≡ and_then (read_lines a r) (read_lines b)
read_both [] b r = refl
read_both (line ∷ a) b r = by_line (read_line line r) (read_both a b)
  where
    by_line : (o : Option HistoryRead)
        → ((s : HistoryRead) → read_lines (a ++ b) s ≡ and_then (read_lines a s) (read_lines b))
        → and_then o (read_lines (a ++ b)) ≡ and_then (and_then o (read_lines a)) (read_lines b)
    by_line None both = refl
    by_line (Some s) both = both s

-- the octets behind the last line feed stay
pub lines_keep_torn : (lines : List (List ℕ)) (r s : HistoryRead) → read_lines lines r ≡ Some s
    → s.torn ≡ r.torn
lines_keep_torn [] r s is = ap (λ (x : HistoryRead). x.torn) (sym (same_Some r s is))
lines_keep_torn (line ∷ lines) r s is = by_line (read_line line r) refl is
    (λ mid. lines_keep_torn lines mid s)
  where
    by_seal : (t : Bool) (mid : HistoryRead) → sealed_by t r ≡ Some mid → mid.torn ≡ r.torn
    by_seal true mid is = ap (λ (x : HistoryRead). x.torn) (sym (same_Some (with_seal r) mid is))
    by_seal false mid is = absurd (none-some mid is)

    by_request : (o : Option (Actor × Event)) (mid : HistoryRead)
        → add_request o line r ≡ Some mid → mid.torn ≡ r.torn
    by_request None mid is = absurd (none-some mid is)
    by_request (Some e) mid is = ap (λ (x : HistoryRead). x.torn) (sym (same_Some _ mid is))

    by_text : (t : Bool) (mid : HistoryRead)
        → (if t then Some (with_comment line r) else add_request (request_in line) line r) ≡ Some mid
        → mid.torn ≡ r.torn
    by_text true mid is =
        ap (λ (x : HistoryRead). x.torn) (sym (same_Some (with_comment line r) mid is))
    by_text false mid is = by_request (request_in line) mid is

    one : (t : Bool) (mid : HistoryRead)
        → (if t then sealed_by (is_right_seal line r) r else read_text line r) ≡ Some mid
        → mid.torn ≡ r.torn
    one true mid is = by_seal (is_right_seal line r) mid is
    one false mid is = by_text (is_comment line) mid is

    by_line : (o : Option HistoryRead) → read_line line r ≡ o
        → and_then o (read_lines lines) ≡ Some s
        → ((mid : HistoryRead) → read_lines lines mid ≡ Some s → s.torn ≡ mid.torn)
        → s.torn ≡ r.torn
    by_line None is all rest = absurd (none-some s all)
    by_line (Some mid) is all rest = rest mid all ∙ one (is_of_seal line) mid is

-- ---- one line

pub seal_right : (line : List ℕ) (chapters : ℕ) (r : HistoryRead) (old new : ReaderState)
    → is_of_seal line ≡ true
    → is_same_line (seal_line (seal_of r.seal r.unsealed)) line ≡ true
    → KeepsLines chapters r old → EndsAt chapters (seal_of r.seal r.unsealed) [] new.end
    → new.book ≡ old.book → new.end.time ≡ old.end.time → AreRead chapters r (line ∷ []) new
seal_right line chapters r old new of_seal right keeps ends same time = record {
  reading = with_seal r;
  read = rw (of_seal, right) refl;
  keeps = record {
    ends = ends;
    made = subst (λ (b : Book). IsMadeOf b r.events) (sym same) keeps.made;
    time = time ∙ keeps.time;
  };
}

pub seal_wrong : (line : List ℕ) (r : HistoryRead) → is_of_seal line ≡ true
    → is_same_line (seal_line (seal_of r.seal r.unsealed)) line ≡ false
    → read_line line r ≡ None
seal_wrong line r of_seal wrong = rw (of_seal, wrong) refl

pub text_right : (line : List ℕ) (chapters : ℕ) (r : HistoryRead) (mid new : ReaderState)
    → is_of_seal line ≡ false → AddsText line r mid → new.book ≡ mid.book
    → EndsAt chapters r.seal (r.unsealed ++ line ∷ []) new.end
    → new.end.time ≡ time_after line r.time → AreRead chapters r (line ∷ []) new
text_right line chapters r mid new of_seal adds same ends time = record {
  reading = adds.reading;
  read =
      ap (λ (o : Option HistoryRead). and_then o (read_lines []))
      (ap (λ (t : Bool). if t then sealed_by (is_right_seal line r) r else read_text line r) of_seal
      ∙ adds.read);
  keeps = record {
    ends = rw (adds.seal, adds.unsealed) ends;
    made = subst (λ (b : Book). IsMadeOf b adds.reading.events) (sym same) adds.made;
    time = time ∙ sym adds.time;
  };
}

pub text_wrong : (line : List ℕ) (r : HistoryRead) → is_of_seal line ≡ false
    → read_text line r ≡ None → read_line line r ≡ None
text_wrong line r of_seal wrong =
    ap (λ (t : Bool). if t then sealed_by (is_right_seal line r) r else read_text line r) of_seal
    ∙ wrong

pub comment_added : (line : List ℕ) (r : HistoryRead) (old new : ReaderState)
    → is_comment line ≡ true → new.book ≡ old.book → IsMadeOf old.book r.events
    → AddsText line r new
comment_added line r old new comment same made = record {
  reading = with_comment line r;
  read = rw comment refl;
  seal = refl;
  unsealed = refl;
  time = refl;
  made = subst (λ (b : Book). IsMadeOf b r.events) (sym same) made;
}

pub request_added : (line : List ℕ) (r : HistoryRead) (old : Book) (new : ReaderState)
    (actor : Actor) (event : Event) → is_comment line ≡ false
    → request_in line ≡ Some (actor, event) → IsMadeOf old r.events
    → new.book.config ≡ old.config → new.book.rows ≡ old.rows ++ next_row old actor event ∷ []
    → AddsText line r new
request_added line r old new actor event comment request made same rows = record {
  reading = record (with_line line r) { events = r.events ++ (actor, event) ∷ [] };
  read =
      ap (λ (t : Bool). if t then Some (with_comment line r)
      else add_request (request_in line) line r)
      comment
      ∙ ap (λ (o : Option (Actor × Event)). add_request o line r) request;
  seal = refl;
  unsealed = refl;
  time = sym (none_after line r.time (request_tells_none line comment));
  made = made_more old new.book r.events actor event made same rows;
}

pub request_wrong : (line : List ℕ) (r : HistoryRead) → is_comment line ≡ false
    → request_in line ≡ None → read_text line r ≡ None
request_wrong line r comment none =
    ap (λ (t : Bool). if t then Some (with_comment line r)
    else add_request (request_in line) line r)
    comment
    ∙ ap (λ (o : Option (Actor × Event)). add_request o line r) none

-- what goes by a book goes by it with the row that is tried
pub unpaid_applied : {X E : Type 0} (r : Result X E) (kept : Kept) (b new : Book) (actor : Actor)
    (event : Event) → GoesBy kept b → OnOk r (new ≡ with_row_of b actor event)
    → OnErr r (new ≡ b) → GoesBy kept new
unpaid_applied (Ok x) kept b new actor event goes row same =
    subst (GoesBy kept) (sym row)
    (goes_on kept b (with_row_of b actor event) (next_row b actor event ∷ []) refl refl
    goes.behind goes)
unpaid_applied (Err e) kept b new actor event goes row same =
    subst (GoesBy kept) (sym same) goes

-- ---- line after line

-- what is kept of lines goes by the book and by where they end
pub keeps_same : (n : ℕ) (r : HistoryRead) (a b : ReaderState) → b.book ≡ a.book → b.end ≡ a.end
    → KeepsLines n r a → KeepsLines n r b
keeps_same n r a b book end keeps = record {
  ends = subst (EndsAt n r.seal r.unsealed) (sym end) keeps.ends;
  made = subst (λ (x : Book). IsMadeOf x r.events) (sym book) keeps.made;
  time = ap (λ (e : EndState). e.time) end ∙ keeps.time;
}

-- what stands behind a front, and ahead of a rest
pub behind_done : (text done rest : List ℕ) → text ≡ done ++ rest
    → drop (length text - length rest) text ≡ rest
behind_done text done rest parts =
    let size : length text ≡ length done + length rest =
    ap length parts ∙ length-append done rest in
    let here : length text - length rest ≡ length done = omega (arith, size) in
    ap (λ (n : ℕ). drop n text) here ∙ ap (drop (length done)) parts ∙ drop-append_seam done rest

pub ahead_of : (text done rest : List ℕ) → text ≡ done ++ rest
    → take (length text - length rest) text ≡ done
ahead_of text done rest parts =
    let size : length text ≡ length done + length rest =
    ap length parts ∙ length-append done rest in
    let here : length text - length rest ≡ length done = omega (arith, size) in
    ap (λ (n : ℕ). take n text) here ∙ ap (take (length done)) parts ∙ take-append_seam done rest

-- the lines of a front of whole lines, and of what stands behind it
pub lines_behind : (text done rest : List ℕ) → text ≡ done ++ rest → unfinished done ≡ []
    → whole_lines text ≡ whole_lines done ++ whole_lines rest
lines_behind text done rest parts whole =
    ap whole_lines parts ∙ lines_both [] done rest
    ∙ ap (λ (line : List ℕ). whole_lines done ++ lines_from line rest) whole

pub lines_in_parts : (rest line others : List ℕ) → rest ≡ (line ++ 10 ∷ []) ++ others → IsLine line
    → whole_lines rest ≡ line ∷ whole_lines others
lines_in_parts rest line others parts plain =
    lines_behind rest (line ++ 10 ∷ []) others parts (line_ends [] line)
    ∙ ap (λ (ls : List (List ℕ)). ls ++ whole_lines others) (one_line line plain)

-- two parts of whole lines are whole lines
pub whole_both : (a b : List ℕ) → unfinished a ≡ [] → unfinished b ≡ [] → unfinished (a ++ b) ≡ []
whole_both a b one two =
    unfinished_both [] a b ∙ ap (λ (line : List ℕ). unfinished_from line b) one ∙ two

-- Of what was left of a chapter these octets are whole lines, which the reader has read since then;
-- this is left.
pub record ReadsOn (text rest : List ℕ) (old now : ReaderState) : Type 0 where
  pub done : List ℕ
  pub parts : text ≡ done ++ rest
  pub whole : unfinished done ≡ []
  pub few : length (whole_lines done) + length rest ≤ length text
  pub count : old.line + length (whole_lines done) < 2 ^ 64
      → now.line ≡ old.line + length (whole_lines done)
  pub read : (chapters : ℕ) (r : HistoryRead) → KeepsLines chapters r old
      → AreRead chapters r (whole_lines done) now
  pub time : now.end.time ≡ time_of_lines (whole_lines done) old.end.time
  pub first : now.end.first ≡ old.end.first
  pub rows : now.book.rows ≡ old.book.rows
  pub site : now.site ≡ old.site
  pub config : now.book.config ≡ old.book.config
  pub chapters : now.end.chapters ≡ old.end.chapters
  pub begins : now.begin ≡ old.begin
  pub torn : now.torn ≡ old.torn

pub begins_reading : (text : List ℕ) (s : ReaderState) → ReadsOn text text s s
begins_reading text s = record {
  done = [];
  parts = refl;
  whole = refl;
  few = omega arith;
  count = λ short. omega arith;
  read = λ chapters r keeps. record { reading = r; read = refl; keeps = keeps };
  time = refl;
  first = refl;
  rows = refl;
  site = refl;
  config = refl;
  chapters = refl;
  begins = refl;
  torn = refl;
}

-- one line more, which left the reader so
pub record ReadsLine (text rest : List ℕ) (old now : ReaderState) : Type 0 where
  pub done : List ℕ
  pub parts : text ≡ done ++ rest
  pub whole : unfinished done ≡ []
  pub few : length (whole_lines done) + length rest ≤ length text
  pub short : length rest < length text
  pub count : old.line + length (whole_lines done) < 2 ^ 64
      → now.line ≡ old.line + length (whole_lines done)
  pub read : (chapters : ℕ) (r : HistoryRead) → KeepsLines chapters r old
      → AreRead chapters r (whole_lines done) now
  pub time : now.end.time ≡ time_of_lines (whole_lines done) old.end.time

-- the time behind lines, and one more
times_both : (lines : List (List ℕ)) (line : List ℕ) (last : Option (List ℕ))
    → time_of_lines (lines ++ line ∷ []) last ≡ time_after line (time_of_lines lines last)
times_both [] line last = refl
times_both (l ∷ lines) line last = times_both lines line (time_after l last)

pub reads_line : (text rest line others : List ℕ) (old now mid new : ReaderState)
    → ReadsOn text rest old now → rest ≡ (line ++ 10 ∷ []) ++ others → IsLine line
    → mid.book ≡ now.book → mid.end ≡ now.end
    → ((chapters : ℕ) (r : HistoryRead) → KeepsLines chapters r mid
    → AreRead chapters r (line ∷ []) new)
    → (now.line + 1 < 2 ^ 64 → new.line ≡ now.line + 1)
    → new.end.time ≡ time_after line now.end.time
    → ReadsLine text others old new
reads_line text rest line others old now mid new r parts plain book end next number time =
    let done : List ℕ = r.done ++ (line ++ 10 ∷ []) in
    let lines : whole_lines done ≡ whole_lines r.done ++ line ∷ [] =
    lines_behind done r.done (line ++ 10 ∷ []) refl r.whole
    ∙ ap (λ (ls : List (List ℕ)). whole_lines r.done ++ ls) (one_line line plain) in
    let size : length (whole_lines done) ≡ length (whole_lines r.done) + 1 =
    ap length lines ∙ length-append (whole_lines r.done) (line ∷ []) in
    let all : text ≡ done ++ others =
    r.parts ∙ ap (λ (xs : List ℕ). r.done ++ xs) parts
    ∙ sym (append_assoc r.done (line ++ 10 ∷ []) others) in
    let rest_size : length rest ≡ length line + 1 + length others =
    ap length parts ∙ length-append (line ++ 10 ∷ []) others
    ∙ ap (λ (n : ℕ). n + length others) (length-append line (10 ∷ [])) in
    let text_size : length text ≡ length r.done + length rest =
    ap length r.parts ∙ length-append r.done rest in
    record {
      done = done;
      parts = all;
      whole = whole_both r.done (line ++ 10 ∷ []) r.whole (line_ends [] line);
      few = omega (arith, r.few, size, rest_size);
      short = omega (arith, rest_size, text_size);
      count = λ small.
          let before = r.count (omega (arith, small, size)) in
          number (omega (arith, before, small, size)) ∙ omega (arith, before, size);
      read = λ n first keeps.
          let before = r.read n first keeps in
          let one = next n before.reading
          (keeps_same n before.reading now mid book end before.keeps) in
          record {
            reading = one.reading;
            read =
                ap (λ (ls : List (List ℕ)). read_lines ls first) lines
                ∙ read_both (whole_lines r.done) (line ∷ []) first
                ∙ ap (λ (o : Option HistoryRead). and_then o (read_lines (line ∷ []))) before.read
                ∙ one.read;
            keeps = one.keeps;
          };
      time =
          time ∙ ap (time_after line) r.time
          ∙ sym (times_both (whole_lines r.done) line old.end.time)
          ∙ ap (λ (ls : List (List ℕ)). time_of_lines ls old.end.time) (sym lines);
    }

-- .. and made no row
pub reads_more : (text rest others : List ℕ) (old now new : ReaderState)
    → ReadsOn text rest old now → ReadsLine text others old new
    → new.end.first ≡ now.end.first → new.book.rows ≡ now.book.rows
    → new.site ≡ now.site → new.book.config ≡ now.book.config
    → new.end.chapters ≡ now.end.chapters → new.begin ≡ now.begin → new.torn ≡ now.torn
    → ReadsOn text others old new
reads_more text rest others old now new r line first rows site config chapters begins torn = record {
  done = line.done;
  parts = line.parts;
  whole = line.whole;
  few = line.few;
  count = line.count;
  read = line.read;
  time = line.time;
  first = first ∙ r.first;
  rows = rows ∙ r.rows;
  site = site ∙ r.site;
  config = config ∙ r.config;
  chapters = chapters ∙ r.chapters;
  begins = begins ∙ r.begins;
  torn = torn ∙ r.torn;
}

-- ---- a chapter goes on

-- the reader goes on in the chapter with these whole lines
pub goes_further : (chapters : ℕ) (r : HistoryRead) (tail rest others done : List ℕ)
    (old now : ReaderState) → AreReadTo chapters r tail rest old → rest ≡ done ++ others
    → unfinished done ≡ [] → length (whole_lines done) + length others ≤ length rest
    → (old.line + length (whole_lines done) < 2 ^ 64
    → now.line ≡ old.line + length (whole_lines done))
    → ((n : ℕ) (x : HistoryRead) → KeepsLines n x old → AreRead n x (whole_lines done) now)
    → AreReadTo chapters r tail others now
goes_further chapters r tail rest others done old now to parts whole few count reads =
    let all : List ℕ = to.done ++ done in
    let lines : whole_lines all ≡ whole_lines to.done ++ whole_lines done =
    lines_behind all to.done done refl to.whole in
    let more = reads chapters to.reading to.keeps in
    let here = count (omega (arith, to.few, few)) in
    record {
      done = all;
      parts = to.parts ∙ ap (λ (xs : List ℕ). to.done ++ xs) parts
          ∙ sym (append_assoc to.done done others);
      whole = whole_both to.done done to.whole whole;
      reading = more.reading;
      read =
          ap (λ (ls : List (List ℕ)). read_lines ls r) lines
          ∙ read_both (whole_lines to.done) (whole_lines done) r
          ∙ ap (λ (o : Option HistoryRead). and_then o (read_lines (whole_lines done))) to.read
          ∙ more.read;
      keeps = more.keeps;
      count = omega (
        arith,
        here,
        to.count,
        ap length lines,
        length-append (whole_lines to.done) (whole_lines done),
      );
      few = omega (arith, here, to.few, few);
    }

-- .. to its end: no line is left
pub lines_end : (chapters : ℕ) (r : HistoryRead) (tail rest : List ℕ) (s : ReaderState)
    → (to : AreReadTo chapters r tail rest s) → IsLine rest
    → read_lines (whole_lines tail) r ≡ Some to.reading
lines_end chapters r tail rest s to plain =
    ap (λ (ls : List (List ℕ)). read_lines ls r)
    (lines_behind tail to.done rest to.parts to.whole
    ∙ ap (λ (ls : List (List ℕ)). whole_lines to.done ++ ls) (none_ends [] rest plain)
    ∙ append-nil (whole_lines to.done))
    ∙ to.read

-- .. and these are the octets behind its last line feed
pub rest_is_torn : (tail done rest : List ℕ) → tail ≡ done ++ rest → unfinished done ≡ []
    → IsLine rest → unfinished tail ≡ rest
rest_is_torn tail done rest parts whole plain =
    ap unfinished parts ∙ unfinished_both [] done rest
    ∙ ap (λ (line : List ℕ). unfinished_from line rest) whole
    ∙ all_unfinished [] rest plain

-- ---- a wrong line

pub wrong_line : (chapters : ℕ) (r : HistoryRead) (tail text rest line others : List ℕ)
    (old now : ReaderState) (number : ℕ) (fault : HistoryFault)
    → AreReadTo chapters r tail text old → ReadsOn text rest old now
    → rest ≡ (line ++ 10 ∷ []) ++ others → IsLine line
    → ((n : ℕ) (x : HistoryRead) → KeepsLines n x now → read_line line x ≡ None)
    → (now.line + 1 < 2 ^ 64 → number ≡ now.line + 1)
    → fault ≡ Line now.end.chapters number → NamesRow chapters r tail fault
wrong_line chapters r tail text rest line others old now number fault to on parts plain wrong
    count is =
    let further = goes_further chapters r tail text rest on.done old now to on.parts on.whole on.few
    on.count on.read in
    let size : length rest ≡ length line + 1 + length others =
    ap length parts ∙ length-append (line ++ 10 ∷ []) others
    ∙ ap (λ (n : ℕ). n + length others) (length-append line (10 ∷ [])) in
    let place = count (omega (arith, further.few, size)) in
    record {
      number = number;
      line = is ∙ ap (λ (n : ℕ). Line n number) further.keeps.ends.count;
      wrong = record {
        before = whole_lines further.done;
        line = line;
        others = whole_lines others;
        lines =
            lines_behind tail further.done rest further.parts further.whole
            ∙ ap (λ (ls : List (List ℕ)). whole_lines further.done ++ ls)
            (lines_in_parts rest line others parts plain);
        place = omega (arith, place, further.count);
        reading = further.reading;
        read = further.read;
        wrong = wrong chapters further.reading further.keeps;
      };
    }
