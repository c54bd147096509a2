-- A chapter more that a reader has read, or refuses.
use Rattle.std.proofs.Common.{◌≡◌, ℕ, suc, ◌+◌, ◌-◌, ◌<◌, ◌≤◌, ◌^◌, Bool, true, false, List, []}
use Rattle.std.proofs.Common.{◌∷◌, ◌++◌, length, drop, take, Option, Some, None, refl, sym, ap, ◌∙◌}
use Rattle.std.proofs.Common.{subst, arith, eqb, not, inl, inr}
use Rattle.std.specs.Prelude.{is_some}
use Rattle.std.specs.Prelude.{◌&&◌, ◌≢◌, if◌then◌else◌}
use Rattle.std.proofs.lemmas.Bool.{eqb-true}
use Rattle.std.proofs.lemmas.Option.{same_Some}
use Rattle.std.proofs.lemmas.List.{length-append, length-drop, length-take-le, nil_from_length}
use Rattle.std.proofs.lemmas.List.{take-append-drop}
use Rattle.std.proofs.Math.Seq.{drop-append-add, take-append-add, take-append_seam}
use Rattle.hex_lines.specs.Lines.{IsLine}
use Rattle.site_base.specs.declared.row.Row.{Row as RowFacts}
use Rattle.chapters.specs.declared.fault.HistoryFault.{HistoryFault}
use Rattle.chapters.specs.declared.fault.HistoryFault.TheVariants.{NotAfter}
use Rattle.chapters.specs.ChapterBegins.{begin_of}
use Rattle.chapters.specs.ChapterReading.{HistoryRead, and_then, is_none_left, nothing_read}
use Rattle.chapters.specs.ChapterReading.{read_chapter, read_from, read_lines}
use Rattle.chapters.specs.ChapterText.{first_lines, text_of_lines}
use Rattle.chapters.specs.History.{IsMadeOf}
use Rattle.chapters.specs.HistoryEnds.{EndsAt}
use Rattle.chapters.specs.Lines.{unfinished, unfinished_from, whole_lines}
use Rattle.chapters.specs.Readers.{AreReadTo, HasRead, IsReading, IsRefused, IsWrongLine}
use Rattle.chapters.specs.Readers.{KeepsLines, Names, NamesIn, NamesLine, NamesRow, ReaderState}
use Rattle.chapters.specs.Readers.{begins_so, behind_lines, first_fault, with_chapter}
use Rattle.chapters.proofs.FirstLines.{begins_parts}
use Rattle.chapters.proofs.Lines.{line_ends, unfinished_both}
use Rattle.chapters.proofs.Reading.{ReadsLine, ReadsOn, behind_done, goes_further, keeps_same}
use Rattle.chapters.proofs.Reading.{lines_end, lines_keep_torn, read_both, rest_is_torn, whole_both}

-- ---- chapters, and one more

pub texts_apart : (site : List ℕ) (n : ℕ) (a : List (List ℕ)) (text : List ℕ) (r : HistoryRead)
    → read_from site n (a ++ text ∷ []) r
    ≡ and_then (read_from site n a r) (λ s. and_then (read_chapter site (n + length a) text s)
    (λ x. Some x))
texts_apart site n [] text r =
    ap (λ (m : ℕ). and_then (read_chapter site m text r) (λ x. Some x)) (omega arith)
texts_apart site n (t ∷ a) text r =
    by_first (read_chapter site n t r) (texts_apart site (suc n) a text)
  where
    next : (suc n) + length a ≡ n + suc (length a)
    next = omega arith

    by_first : (o : Option HistoryRead)
        → ((s : HistoryRead) → read_from site (suc n) (a ++ text ∷ []) s
        ≡ and_then (read_from site (suc n) a s)
        (λ x. and_then (read_chapter site (suc n + length a) text x) (λ y. Some y)))
        → and_then o (read_from site (suc n) (a ++ text ∷ []))
        ≡ and_then (and_then o (read_from site (suc n) a))
        (λ s. and_then (read_chapter site (n + suc (length a)) text s) (λ x. Some x))
    by_first None both = refl
    by_first (Some s) both =
        both s
        ∙ ap (λ (m : ℕ). and_then (read_from site (suc n) a s)
        (λ x. and_then (read_chapter site m text x) (λ y. Some y))) next

same_and : (r : Option HistoryRead) → and_then r (λ y. Some y) ≡ r
same_and None = refl
same_and (Some x) = refl

-- what is read with one chapter more
chapter_more : (texts : List (List ℕ)) (text : List ℕ) (s : ReaderState) (h : HasRead texts s)
    (o : Option HistoryRead) → read_chapter s.site (length texts + 1) text h.reading ≡ o
    → read_from s.site 1 (texts ++ text ∷ []) nothing_read ≡ o
chapter_more texts text s h o is =
    texts_apart s.site 1 texts text nothing_read
    ∙ ap (λ (r : Option HistoryRead). and_then r
    (λ x. and_then (read_chapter s.site (1 + length texts) text x) (λ y. Some y))) h.read
    ∙ ap (λ (n : ℕ). and_then (read_chapter s.site n text h.reading) (λ y. Some y)) (omega arith)
    ∙ ap (λ (r : Option HistoryRead). and_then r (λ y. Some y)) is
    ∙ same_and o

-- ---- a chapter's end

-- what the reader keeps says whether the chapters before end with a seal
ended_is : (texts : List (List ℕ)) (s : ReaderState) (h : HasRead texts s)
    → (not s.torn && s.end.sealed) ≡ is_none_left h.reading
ended_is texts s h =
    ap (λ (t : Bool). not t && s.end.sealed) h.torn
    ∙ ap (λ (t : Bool). not (not (eqb (length h.reading.torn) 0)) && t) h.keeps.ends.sealed
    ∙ turned (eqb (length h.reading.torn) 0) (eqb (length h.reading.unsealed) 0)
  where
    turned : (a b : Bool) → (not (not a) && b) ≡ (b && a)
    turned true true = refl
    turned true false = refl
    turned false true = refl
    turned false false = refl

both_true : (a b : Bool) → (a && b) ≡ true → (a ≡ true) × (b ≡ true)
both_true true b is = (refl, is)
both_true false b is = absurd cc

-- the first lines that come next
abbrev pub next_first : ReaderState → List (List ℕ)
next_first s = first_lines s.site (s.end.chapters + 1) s.end.seal

-- .. of what is known of the reader
pub next_of : (s : ReaderState) (site after : List ℕ) (n : ℕ) → site ≡ s.site
    → n ≡ s.end.chapters → after ≡ s.end.seal → first_lines site (n + 1) after ≡ next_first s
next_of s site after n named count last =
    ap (λ (x : List ℕ). first_lines x (n + 1) after) named
    ∙ ap (λ (m : ℕ). first_lines s.site (m + 1) after) count
    ∙ ap (λ (x : List ℕ). first_lines s.site (s.end.chapters + 1) x) last

next_is : (texts : List (List ℕ)) (s : ReaderState) (h : HasRead texts s)
    → next_first s ≡ first_lines s.site (length texts + 1) h.reading.seal
next_is texts s h =
    ap (λ (n : ℕ). first_lines s.site (n + 1) s.end.seal) h.keeps.ends.count
    ∙ ap (λ (seal : List ℕ). first_lines s.site (length texts + 1) seal) h.keeps.ends.last

-- ---- what is refused

abbrev lines_on : List ℕ → List (List ℕ) → HistoryRead → Option HistoryRead
lines_on text lines r =
    read_lines (whole_lines (behind_lines lines text)) (with_chapter lines text r)

chapter_if : (site : List ℕ) (n : ℕ) (text : List ℕ) (r : HistoryRead) (ended begins : Bool)
    → is_none_left r ≡ ended → begins_so text (first_lines site n r.seal) ≡ begins
    → read_chapter site n text r
    ≡ (if ended && begins then lines_on text (first_lines site n r.seal) r else None)
chapter_if site n text r ended begins one two =
    ap (λ (t : Bool). if t && begins_so text (first_lines site n r.seal)
    then lines_on text (first_lines site n r.seal) r else None) one
    ∙ ap (λ (t : Bool). if ended && t then lines_on text (first_lines site n r.seal) r else None)
    two

pub unended_refused : (texts : List (List ℕ)) (text : List ℕ) (s : ReaderState)
    → (not s.torn && s.end.sealed) ≡ false → HasRead texts s → IsRefused texts text s
unended_refused texts text s ended h =
    let r = h.reading in
    let n : ℕ = length texts + 1 in
    chapter_more texts text s h None
    (chapter_if s.site n text r false (begins_so text (first_lines s.site n r.seal))
    (sym (ended_is texts s h) ∙ ended) refl)

pub unended_named : (texts : List (List ℕ)) (text : List ℕ) (s : ReaderState) (n : ℕ)
    → n ≡ s.end.chapters + 1 → (not s.torn && s.end.sealed) ≡ false → (h : HasRead texts s)
    → Names s.site (length texts + 1) h.reading text (NotAfter n (n - 1))
unended_named texts text s n is ended h =
    let here : n ≡ length texts + 1 = is ∙ ap (λ (m : ℕ). m + 1) h.keeps.ends.count in
    inl (record {
      left = sym (ended_is texts s h) ∙ ended;
      is = ap (λ (m : ℕ). NotAfter m (m - 1)) here;
    })

pub other_refused : (texts : List (List ℕ)) (text : List ℕ) (s : ReaderState)
    → (not s.torn && s.end.sealed) ≡ true → begins_so text (next_first s) ≡ false
    → HasRead texts s → IsRefused texts text s
other_refused texts text s ended other h =
    chapter_more texts text s h None
    (chapter_if s.site (length texts + 1) text h.reading true false
    (sym (ended_is texts s h) ∙ ended)
    (ap (begins_so text) (sym (next_is texts s h)) ∙ other))

pub other_named : (texts : List (List ℕ)) (text : List ℕ) (s : ReaderState) (fault : HistoryFault)
    → (not s.torn && s.end.sealed) ≡ true → begins_so text (next_first s) ≡ false
    → fault ≡ first_fault (s.end.chapters + 1) (next_first s) text → (h : HasRead texts s)
    → Names s.site (length texts + 1) h.reading text fault
other_named texts text s fault ended other is h =
    inr (inl (record {
      ended = sym (ended_is texts s h) ∙ ended;
      other = ap (begins_so text) (sym (next_is texts s h)) ∙ other;
      is =
          is
          ∙ ap (λ (n : ℕ). first_fault (n + 1) (next_first s) text) h.keeps.ends.count
          ∙ ap (λ (lines : List (List ℕ)). first_fault (length texts + 1) lines text)
          (next_is texts s h);
    }))

-- ---- a chapter that begins as it should

-- the reader has met the first lines
pub chapter_begins : (texts : List (List ℕ)) (text first : List ℕ) (s new : ReaderState) (n : ℕ)
    (h : HasRead texts s) → (not s.torn && s.end.sealed) ≡ true
    → first ≡ text_of_lines (next_first s) → n ≡ length first
    → begins_so text (next_first s) ≡ true
    → ((chapters : ℕ) (seal : List ℕ) (lines : List (List ℕ)) → EndsAt chapters seal [] s.end
    → first ≡ text_of_lines lines → lines ≢ [] → EndsAt (chapters + 1) seal lines new.end)
    → new.book ≡ s.book → new.end.time ≡ s.end.time → new.site ≡ s.site → new.line ≡ 3
    → 3 + length (drop n text) < 2 ^ 64 → IsReading texts text (drop n text) new
chapter_begins texts text first s new n h ended is size begins met book time site line few =
    let left = both_true (eqb (length h.reading.unsealed) 0) (eqb (length h.reading.torn) 0)
    (sym (ended_is texts s h) ∙ ended) in
    let none : h.reading.unsealed ≡ [] =
    nil_from_length h.reading.unsealed (eqb-true (length h.reading.unsealed) 0 left.0) in
    let lines : List (List ℕ) = first_lines s.site (length texts + 1) h.reading.seal in
    let named : first_lines new.site (length texts + 1) h.reading.seal ≡ lines =
    ap (λ (name : List ℕ). first_lines name (length texts + 1) h.reading.seal) site in
    let here : drop n text ≡ behind_lines lines text =
    ap (λ (m : ℕ). drop m text) (size ∙ ap length (is ∙ ap text_of_lines (next_is texts s h))) in
    let to : AreReadTo (length texts + 1) (with_chapter lines text h.reading)
    (behind_lines lines text) (drop n text) new = record {
      done = [];
      parts = sym here;
      whole = refl;
      reading = with_chapter lines text h.reading;
      read = refl;
      keeps = record {
        ends = met (length texts) h.reading.seal lines
            (subst (λ (ls : List (List ℕ)). EndsAt (length texts) h.reading.seal ls s.end) none
            h.keeps.ends)
            (is ∙ ap text_of_lines (next_is texts s h)) some;
        made = subst (λ b. IsMadeOf b h.reading.events) (sym book) h.keeps.made;
        time = time ∙ h.keeps.time;
      };
      count = line;
      few = omega (arith, line, few);
    } in
    record {
      before = h.reading;
      read = subst (λ (name : List ℕ). read_from name 1 texts nothing_read ≡ Some h.reading)
          (sym site) h.read;
      ended = sym (ended_is texts s h) ∙ ended;
      begins =
          ap (begins_so text) (named ∙ sym (next_is texts s h)) ∙ begins;
      lines = subst (λ (ls : List (List ℕ)). AreReadTo (length texts + 1)
          (with_chapter ls text h.reading) (behind_lines ls text) (drop n text) new) (sym named) to;
    }
  where
    some : first_lines s.site (length texts + 1) h.reading.seal ≢ []
    some none = absurd (cc none)

-- the first lines that a chapter being read has
abbrev pub first_of : (texts : List (List ℕ)) (text rest : List ℕ) (s : ReaderState)
    → IsReading texts text rest s → List (List ℕ)
first_of texts text rest s i = first_lines s.site (length texts + 1) i.before.seal

-- .. and it goes on
pub reading_goes : (texts : List (List ℕ)) (text rest others : List ℕ) (s new : ReaderState)
    (i : IsReading texts text rest s) → new.site ≡ s.site
    → AreReadTo (length texts + 1) (with_chapter (first_of texts text rest s i) text i.before)
    (behind_lines (first_of texts text rest s i) text) others new
    → IsReading texts text others new
reading_goes texts text rest others s new i site to = record {
  before = i.before;
  read = subst (λ (name : List ℕ). read_from name 1 texts nothing_read ≡ Some i.before) (sym site)
      i.read;
  ended = i.ended;
  begins = subst (λ (name : List ℕ).
      begins_so text (first_lines name (length texts + 1) i.before.seal) ≡ true) (sym site)
      i.begins;
  lines = subst (λ (name : List ℕ). AreReadTo (length texts + 1)
      (with_chapter (first_lines name (length texts + 1) i.before.seal) text i.before)
      (behind_lines (first_lines name (length texts + 1) i.before.seal) text) others new)
      (sym site) to;
}

-- .. with one line more
pub reading_line : (texts : List (List ℕ)) (whole text others : List ℕ) (old new : ReaderState)
    → IsReading texts whole text old → new.site ≡ old.site → ReadsLine text others old new
    → IsReading texts whole (drop (length text - length others) text) new
reading_line texts whole text others old new i site line =
    subst (λ (rest : List ℕ). IsReading texts whole rest new)
    (sym (behind_done text line.done others line.parts))
    (reading_goes texts whole text others old new i site
    (goes_further (length texts + 1) (with_chapter (first_of texts whole text old i) whole i.before)
    (behind_lines (first_of texts whole text old i) whole) text others line.done old new i.lines
    line.parts line.whole line.few line.count line.read))

-- .. with lines that made no row
pub reading_on : (texts : List (List ℕ)) (whole text rest : List ℕ) (old now new : ReaderState)
    → IsReading texts whole text old → ReadsOn text rest old now
    → new.site ≡ now.site → new.book ≡ now.book → new.end ≡ now.end → new.line ≡ now.line
    → IsReading texts whole rest new
reading_on texts whole text rest old now new i on site book end line =
    reading_goes texts whole text rest old new i (site ∙ on.site)
    (goes_further (length texts + 1) (with_chapter (first_of texts whole text old i) whole i.before)
    (behind_lines (first_of texts whole text old i) whole) text rest on.done old new i.lines
    on.parts on.whole on.few (λ small. line ∙ on.count small)
    (λ n r keeps.
    let all = on.read n r keeps in
    record {
      reading = all.reading;
      read = all.read;
      keeps = keeps_same n all.reading now new book end all.keeps;
    }))

-- what is read with the chapter that is being read
chapter_is : (texts : List (List ℕ)) (text rest : List ℕ) (s : ReaderState)
    (i : IsReading texts text rest s) (o : Option HistoryRead)
    → lines_on text (first_of texts text rest s i) i.before ≡ o
    → read_from s.site 1 (texts ++ text ∷ []) nothing_read ≡ o
chapter_is texts text rest s i o is =
    texts_apart s.site 1 texts text nothing_read
    ∙ ap (λ (r : Option HistoryRead). and_then r
    (λ x. and_then (read_chapter s.site (1 + length texts) text x) (λ y. Some y))) i.read
    ∙ ap (λ (n : ℕ). and_then (read_chapter s.site n text i.before) (λ y. Some y)) (omega arith)
    ∙ ap (λ (r : Option HistoryRead). and_then r (λ y. Some y))
    (chapter_if s.site (length texts + 1) text i.before true true i.ended i.begins ∙ is)
    ∙ same_and o

-- the reader has read it to its end
pub chapter_ends : (texts : List (List ℕ)) (text rest : List ℕ) (s : ReaderState)
    → IsReading texts text rest s → IsLine rest → s.torn ≡ not (eqb (length rest) 0)
    → HasRead (texts ++ text ∷ []) s
chapter_ends texts text rest s i plain torn =
    let first : List (List ℕ) = first_of texts text rest s i in
    let begun : HistoryRead = with_chapter first text i.before in
    let tail : List ℕ = behind_lines first text in
    let all = lines_end (length texts + 1) begun tail rest s i.lines plain in
    let size : length (texts ++ text ∷ []) ≡ length texts + 1 =
    length-append texts (text ∷ []) in
    record {
      reading = i.lines.reading;
      read = chapter_is texts text rest s i (Some i.lines.reading) all;
      keeps = subst (λ (m : ℕ). KeepsLines m i.lines.reading s) (sym size) i.lines.keeps;
      torn =
          torn
          ∙ ap (λ (xs : List ℕ). not (eqb (length xs) 0))
          (sym (rest_is_torn tail i.lines.done rest i.lines.parts i.lines.whole plain))
          ∙ ap (λ (xs : List ℕ). not (eqb (length xs) 0))
          (sym (lines_keep_torn (whole_lines tail) begun i.lines.reading all));
    }

-- ---- a wrong line behind the first ones

lines_refused : (r : HistoryRead) (rest : List ℕ) (number : ℕ) → IsWrongLine r rest number
    → read_lines (whole_lines rest) r ≡ None
lines_refused r rest number w =
    ap (λ (ls : List (List ℕ)). read_lines ls r) w.lines
    ∙ read_both w.before (w.line ∷ w.others) r
    ∙ ap (λ (o : Option HistoryRead). and_then o (read_lines (w.line ∷ w.others))) w.read
    ∙ ap (λ (o : Option HistoryRead). and_then o (read_lines w.others)) w.wrong

pub line_refused : (texts : List (List ℕ)) (text rest : List ℕ) (s : ReaderState)
    (fault : HistoryFault) (i : IsReading texts text rest s)
    → NamesRow (length texts + 1) (with_chapter (first_of texts text rest s i) text i.before)
    (behind_lines (first_of texts text rest s i) text) fault
    → IsRefused texts text s
line_refused texts text rest s fault i names =
    chapter_is texts text rest s i None (lines_refused _ _ names.number names.wrong)

pub line_named : (texts : List (List ℕ)) (text rest : List ℕ) (s : ReaderState)
    (fault : HistoryFault) (i : IsReading texts text rest s)
    → NamesRow (length texts + 1) (with_chapter (first_of texts text rest s i) text i.before)
    (behind_lines (first_of texts text rest s i) text) fault
    → NamesIn texts text i.before s fault
line_named texts text rest s fault i names = record {
  ended = i.ended;
  begins = i.begins;
  row = names;
}

-- .. of the chapter that was begun behind what was read
pub named_behind : (texts : List (List ℕ)) (text rest : List ℕ) (old s : ReaderState)
    (fault : HistoryFault) (h : HasRead texts old) (i : IsReading texts text rest s)
    → s.site ≡ old.site → NamesIn texts text i.before s fault
    → Names old.site (length texts + 1) h.reading text fault
named_behind texts text rest old s fault h i site names =
    let same : i.before ≡ h.reading = same_Some i.before h.reading
    (sym i.read ∙ ap (λ (name : List ℕ). read_from name 1 texts nothing_read) site ∙ h.read) in
    inr (inr (subst (λ (r : HistoryRead). NamesLine (length texts + 1)
    (first_lines old.site (length texts + 1) r.seal) r text fault) same
    (subst (λ (name : List ℕ). NamesLine (length texts + 1)
    (first_lines name (length texts + 1) i.before.seal) i.before text fault) site names)))

-- ---- whole lines

pub none_torn : (lines : List (List ℕ)) → unfinished (text_of_lines lines) ≡ []
none_torn [] = refl
none_torn (line ∷ lines) =
    unfinished_both [] (line ++ 10 ∷ []) (text_of_lines lines)
    ∙ ap (λ (left : List ℕ). unfinished_from left (text_of_lines lines)) (line_ends [] line)
    ∙ none_torn lines

-- the octets of the lines that a text begins with are whole lines
pub first_whole : (text first : List ℕ) (lines : List (List ℕ)) (n : ℕ)
    → first ≡ text_of_lines lines → n ≡ length first → begins_so text lines ≡ true
    → unfinished (take n text) ≡ []
first_whole text first lines n is size begins =
    let all : List ℕ = text_of_lines lines in
    let parts : text ≡ all ++ drop (length all) text = begins_parts text all begins in
    ap (λ (m : ℕ). unfinished (take m text)) (size ∙ ap length is)
    ∙ ap (λ (xs : List ℕ). unfinished (take (length all) xs)) parts
    ∙ ap unfinished (take-append_seam all (drop (length all) text))
    ∙ none_torn lines

-- whole lines, and more of them
pub whole_parts : (text rest : List ℕ) (n : ℕ) → length rest ≤ length text
    → rest ≡ drop (length text - length rest) text
    → unfinished (take (length text - length rest) text) ≡ [] → n ≤ length rest
    → unfinished (take n rest) ≡ []
    → (drop n rest ≡ drop (length text - length (drop n rest)) text)
    × (unfinished (take (length text - length (drop n rest)) text) ≡ [])
whole_parts text rest n few is whole within more =
    let at : ℕ = length text - length rest in
    let left : length (drop n rest) ≡ length rest - n = length-drop n rest in
    let here : length text - length (drop n rest) ≡ at + n = omega (arith, left, few, within) in
    let parts : text ≡ take at text ++ rest =
    sym (take-append-drop at text) ∙ ap (λ (xs : List ℕ). take at text ++ xs) (sym is) in
    let size : length (take at text) ≡ at = length-take-le at text (omega arith) in
    let front : take (at + n) text ≡ take at text ++ take n rest =
    ap (take (at + n)) parts
    ∙ ap (λ (m : ℕ). take (m + n) (take at text ++ rest)) (sym size)
    ∙ take-append-add (take at text) rest n in (
      sym (ap (λ (m : ℕ). drop m text) here
          ∙ ap (drop (at + n)) parts
          ∙ ap (λ (m : ℕ). drop (m + n) (take at text ++ rest)) (sym size)
          ∙ drop-append-add (take at text) rest n),
      ap (λ (m : ℕ). unfinished (take m text)) here
          ∙ ap unfinished front
          ∙ whole_both (take at text) (take n rest) whole more,
    )

-- ---- a whole chapter

-- Since it was so the reader has read the lines of a chapter's text that stand ahead of this rest;
-- where none is left, it has read the chapter.
pub record ReadsChapter (text rest : List ℕ) (left : Bool) (old now : ReaderState) : Type 0 where
  pub reads : (texts : List (List ℕ)) → HasRead texts old → IsReading texts text rest now
  pub ends : left ≡ false → (texts : List (List ℕ)) → HasRead texts old
      → HasRead (texts ++ text ∷ []) now
  pub none : left ≡ false → whole_lines rest ≡ []
  pub few : length rest ≤ length text
  pub is : rest ≡ drop (length text - length rest) text
  pub whole : unfinished (take (length text - length rest) text) ≡ []
  pub site : now.site ≡ old.site
  pub config : now.book.config ≡ old.book.config
  pub chapters : now.end.chapters ≡ old.end.chapters + 1
  pub begins : now.begin ≡ begin_of old.book

none_left : (row : Option RowFacts) → is_some row ≡ false → row ≡ None
none_left None is = refl
none_left (Some row) is = absurd cc

-- .. up to its next row, or to its end
pub reads_next : (text rest others : List ℕ) (n : ℕ) (left : Bool) (row : Option RowFacts)
    (old now new : ReaderState) → ReadsChapter text rest true old now → others ≡ drop n rest
    → left ≡ is_some row → n ≤ length rest → unfinished (take n rest) ≡ []
    → ((texts : List (List ℕ)) (whole : List ℕ) → IsReading texts whole rest now
    → IsReading texts whole (drop n rest) new)
    → (row ≡ None → (texts : List (List ℕ)) (whole : List ℕ) → IsReading texts whole rest now
    → HasRead (texts ++ whole ∷ []) new)
    → (row ≡ None → whole_lines (drop n rest) ≡ [])
    → new.site ≡ now.site → new.book.config ≡ now.book.config
    → new.end.chapters ≡ now.end.chapters → new.begin ≡ now.begin
    → ReadsChapter text others left old new
reads_next text rest others n left row old now new so is goes within whole reads ends none site
    config chapters begins =
    let parts = whole_parts text rest n so.few so.is so.whole within whole in
    let size : length others ≡ length rest - n = ap length is ∙ length-drop n rest in
    let no_row = λ (none : left ≡ false). none_left row (sym goes ∙ none) in
    record {
      reads = λ texts h.
          subst (λ (xs : List ℕ). IsReading texts text xs new) (sym is)
          (reads texts text (so.reads texts h));
      ends = λ none texts h. ends (no_row none) texts text (so.reads texts h);
      none = λ last. ap whole_lines is ∙ none (no_row last);
      few = omega (arith, size, so.few);
      is =
          is ∙ parts.0
          ∙ ap (λ (xs : List ℕ). drop (length text - length xs) text) (sym is);
      whole =
          ap (λ (xs : List ℕ). unfinished (take (length text - length xs) text)) is ∙ parts.1;
      site = site ∙ so.site;
      config = config ∙ so.config;
      chapters = chapters ∙ so.chapters;
      begins = begins ∙ so.begins;
    }
