use Rattle.std.proofs.Common.{◌≡◌, ◌∙◌, ◌+◌, ◌∷◌, ◌++◌, [], List, None, Some, ap}
use Rattle.std.proofs.Common.{append-nil}
use Rattle.std.proofs.Common.{arith, drop, length, subst, not, suc, sym, take, string_bytes, ℕ}
use Rattle.std.specs.List.{cons_option}
use Rattle.hex_lines.proofs.Bytes.{absent, behind_byte, found}
use Rattle.stamps.specs.Stamps.{time_after, time_of_lines}
use Rattle.chapters.specs.ChapterReading.{HistoryRead, read_line}
use Rattle.chapters.specs.declared.fault.HistoryFault.TheVariants.{Line}
use Rattle.chapters.specs.declared.line_read.LineRead.{LineRead}
use Rattle.chapters.specs.Lines.{unfinished, whole_lines}
use Rattle.chapters.specs.OpenShift.{first_with}
use Rattle.chapters.specs.Readers.{AreRead, KeepsLines, ReaderState, is_right, row_read, IsReading}
use Rattle.chapters.specs.Readers.{behind_lines, with_chapter}
use Rattle.chapters.proofs.Lines.{none_ends}
use Rattle.chapters.proofs.Reading.{ReadsLine, ahead_of, behind_done, keeps_same, reads_line, reads_more}
use Rattle.chapters.proofs.Reading.{wrong_line}
use Rattle.chapters.proofs.ReadingChapters.{chapter_ends, first_of, line_named, line_refused}
use Rattle.chapters.proofs.ReadingChapters.{reading_line, reading_on}
use Rattle.chapters.proofs.reader.HistoryReader.next_row.Goals as goal

pub loop-end-preserved : goal.loop-end-preserved
loop-end-preserved c =
    let rest = c.loop-end.rest.now in
    let at = found 10 rest c.in-Some.end c.in-Some.ensures in
    let others = behind_byte rest c.in-Some.end at.within in
    let mid : ReaderState = record {
      site = string_bytes c.self.inside.site;
      book = c.self.inside.book;
      unpaid = c.self.inside.unpaid;
      end = c.self.inside.end;
      begin = c.self.inside.begin;
      line = c.saturating_add-self-inside.result;
      torn = c.self.inside.is_torn;
    } in
    let one = reads_line c.args.text.now rest (take c.in-Some.end rest)
    (drop (suc c.in-Some.end) rest) c.args.self.now c.loop-end.self mid c.read_line.new.self
    c.loop-end.invariant at.parts at.before (ap (λ (s : ReaderState). s.book) c.self.view_is)
    (ap (λ (s : ReaderState). s.end) c.self.view_is)
    (subst (λ (line : List ℕ). (n : ℕ) (x : HistoryRead) → KeepsLines n x mid
    → AreRead n x (line ∷ []) c.read_line.new.self) c.split_at.ensures.front
    (c.in_ok-read_line.ensures.right (ap is_right c.in-NoRow.is)))
    (λ small. c.read_line.ensures.number
    ∙ omega (
      arith,
      small,
      c.saturating_add-self-inside.ensures,
      ap (λ (s : ReaderState). s.line) c.self.view_is,
    ))
    (rw (sym c.split_at.ensures.front) c.in_ok-read_line.ensures.time
    ∙ ap (λ (s : ReaderState). time_after (take c.in-Some.end rest) s.end.time) c.self.view_is) in
    rw (c.split_at.ensures.back, others)
    (reads_more c.args.text.now rest (drop (suc c.in-Some.end) rest) c.args.self.now c.loop-end.self
    c.read_line.new.self c.loop-end.invariant one
    (c.in_ok-read_line.ensures.first
    ∙ ap (λ (read : LineRead). first_with (row_read read) c.read_line.new.self.end.time
    c.self.inside.end.first) c.in-NoRow.is
    ∙ ap (λ (s : ReaderState). s.end.first) c.self.view_is)
    (c.in_ok-read_line.ensures.row
    ∙ ap (λ (read : LineRead). c.self.inside.book.rows ++ cons_option (row_read read) [])
    c.in-NoRow.is
    ∙ append-nil c.self.inside.book.rows ∙ ap (λ (s : ReaderState). s.book.rows) c.self.view_is)
    (c.read_line.ensures.site ∙ ap (λ (s : ReaderState). s.site) c.self.view_is)
    (c.read_line.ensures.config ∙ ap (λ (s : ReaderState). s.book.config) c.self.view_is)
    (c.read_line.ensures.chapters ∙ ap (λ (s : ReaderState). s.end.chapters) c.self.view_is)
    (c.read_line.ensures.begins ∙ ap (λ (s : ReaderState). s.begin) c.self.view_is)
    (c.read_line.ensures.torn ∙ ap (λ (s : ReaderState). s.torn) c.self.view_is))

-- the line of the row is read
row_line : (c : goal.In-Row) → ReadsLine c.args.text.now
    (drop (suc c.in-Some.end) c.loop-end.rest.now) c.args.self.now c.read_line.new.self
row_line c =
    let rest = c.loop-end.rest.now in
    let at = found 10 rest c.in-Some.end c.in-Some.ensures in
    let mid : ReaderState = record {
      site = string_bytes c.self.inside.site;
      book = c.self.inside.book;
      unpaid = c.self.inside.unpaid;
      end = c.self.inside.end;
      begin = c.self.inside.begin;
      line = c.saturating_add-self-inside.result;
      torn = c.self.inside.is_torn;
    } in
    reads_line c.args.text.now rest (take c.in-Some.end rest)
    (drop (suc c.in-Some.end) rest) c.args.self.now c.loop-end.self mid c.read_line.new.self
    c.loop-end.invariant at.parts at.before (ap (λ (s : ReaderState). s.book) c.self.view_is)
    (ap (λ (s : ReaderState). s.end) c.self.view_is)
    (subst (λ (line : List ℕ). (n : ℕ) (x : HistoryRead) → KeepsLines n x mid
    → AreRead n x (line ∷ []) c.read_line.new.self) c.split_at.ensures.front
    (c.in_ok-read_line.ensures.right (ap is_right c.in-Row.is)))
    (λ small. c.read_line.ensures.number
    ∙ omega (
      arith,
      small,
      c.saturating_add-self-inside.ensures,
      ap (λ (s : ReaderState). s.line) c.self.view_is,
    ))
    (rw (sym c.split_at.ensures.front) c.in_ok-read_line.ensures.time
    ∙ ap (λ (s : ReaderState). time_after (take c.in-Some.end rest) s.end.time) c.self.view_is)

pub returns-in-Row-clause-reads : goal.returns-in-Row-clause-reads
returns-in-Row-clause-reads c = λ texts whole i.
    let rest = c.loop-end.rest.now in
    let at = found 10 rest c.in-Some.end c.in-Some.ensures in
    let others = behind_byte rest c.in-Some.end at.within in
    rw (c.split_at.ensures.back, others)
    (reading_line texts whole c.args.text.now (drop (suc c.in-Some.end) rest) c.args.self.now
    c.read_line.new.self i
    (c.read_line.ensures.site ∙ ap (λ (s : ReaderState). s.site) c.self.view_is
    ∙ c.loop-end.invariant.site) (row_line c))

pub returns-in-Row-clause-whole : goal.returns-in-Row-clause-whole
returns-in-Row-clause-whole c =
    let rest = c.loop-end.rest.now in
    let at = found 10 rest c.in-Some.end c.in-Some.ensures in
    let others = behind_byte rest c.in-Some.end at.within in
    let one = row_line c in
    rw (c.split_at.ensures.back, others)
    (ap unfinished (ahead_of c.args.text.now one.done (drop (suc c.in-Some.end) rest) one.parts)
    ∙ one.whole)

pub returns-in-Row-clause-time : goal.returns-in-Row-clause-time
returns-in-Row-clause-time c =
    let rest = c.loop-end.rest.now in
    let at = found 10 rest c.in-Some.end c.in-Some.ensures in
    let others = behind_byte rest c.in-Some.end at.within in
    let one = row_line c in
    rw (c.split_at.ensures.back, others)
    (one.time ∙ ap (λ (xs : List ℕ). time_of_lines (whole_lines xs) c.args.self.now.end.time)
    (sym (ahead_of c.args.text.now one.done (drop (suc c.in-Some.end) rest) one.parts)))

pub returns-in-Row-clause-first : goal.returns-in-Row-clause-first
returns-in-Row-clause-first c =
    c.in_ok-read_line.ensures.first
    ∙ ap (λ (read : LineRead). first_with (row_read read) c.read_line.new.self.end.time
    c.self.inside.end.first) c.in-Row.is
    ∙ ap (first_with (Some c.in-Row.row) c.read_line.new.self.end.time)
    (ap (λ (s : ReaderState). s.end.first) c.self.view_is ∙ c.loop-end.invariant.first)

pub returns-clause-first : goal.returns-clause-first
returns-clause-first c =
    ap (λ (s : ReaderState). s.end.first) c.self-2.view_is ∙ c.loop-end.invariant.first

pub returns-clause-time : goal.returns-clause-time
returns-clause-time c =
    let on = c.loop-end.invariant in
    ap (λ (s : ReaderState). s.end.time) c.self-2.view_is ∙ on.time
    ∙ ap (λ (xs : List ℕ). time_of_lines (whole_lines xs) c.args.self.now.end.time)
    (sym (ahead_of c.args.text.now on.done c.loop-end.rest.now on.parts))

pub returns-in-Wrong-clause-refused : goal.returns-in-Wrong-clause-refused
returns-in-Wrong-clause-refused c = λ of_text texts whole i.
    let rest = c.loop-end.rest.now in
    let at = found 10 rest c.in-Some.end c.in-Some.ensures in
    let mid : ReaderState = record {
      site = string_bytes c.self.inside.site;
      book = c.self.inside.book;
      unpaid = c.self.inside.unpaid;
      end = c.self.inside.end;
      begin = c.self.inside.begin;
      line = c.saturating_add-self-inside.result;
      torn = c.self.inside.is_torn;
    } in
    line_refused texts whole c.args.text.now c.args.self.now
    (Line c.chapters.result c.self-in-Some.inside.line) i
    (wrong_line (length texts + 1)
    (with_chapter (first_of texts whole c.args.text.now c.args.self.now i) whole i.before)
    (behind_lines (first_of texts whole c.args.text.now c.args.self.now i) whole)
    c.args.text.now rest (take c.in-Some.end rest) (drop (suc c.in-Some.end) rest)
    c.args.self.now c.loop-end.self c.self-in-Some.inside.line
    (Line c.chapters.result c.self-in-Some.inside.line) i.lines c.loop-end.invariant at.parts
    at.before
    (λ n x keeps.
    subst (λ (line : List ℕ). read_line line x ≡ None) c.split_at.ensures.front
    (c.in_ok-read_line.ensures.wrong (ap is_right c.in-Wrong.is) n x
    (keeps_same n x c.loop-end.self mid (ap (λ (s : ReaderState). s.book) c.self.view_is)
    (ap (λ (s : ReaderState). s.end) c.self.view_is) keeps)))
    (λ small. ap (λ (s : ReaderState). s.line) c.self-in-Some.view_is ∙ c.read_line.ensures.number
    ∙ omega (
      arith,
      small,
      c.saturating_add-self-inside.ensures,
      ap (λ (s : ReaderState). s.line) c.self.view_is,
    ))
    (ap (λ (n : ℕ). Line n c.self-in-Some.inside.line)
    (c.chapters.ensures.count ∙ ap (λ (s : ReaderState). s.end.chapters) c.self-in-Some.view_is
    ∙ c.read_line.ensures.chapters ∙ ap (λ (s : ReaderState). s.end.chapters) c.self.view_is)))

pub returns-in-Wrong-clause-named : goal.returns-in-Wrong-clause-named
returns-in-Wrong-clause-named c = λ of_text texts whole i.
    let rest = c.loop-end.rest.now in
    let at = found 10 rest c.in-Some.end c.in-Some.ensures in
    let mid : ReaderState = record {
      site = string_bytes c.self.inside.site;
      book = c.self.inside.book;
      unpaid = c.self.inside.unpaid;
      end = c.self.inside.end;
      begin = c.self.inside.begin;
      line = c.saturating_add-self-inside.result;
      torn = c.self.inside.is_torn;
    } in
    line_named texts whole c.args.text.now c.args.self.now
    (Line c.chapters.result c.self-in-Some.inside.line) i
    (wrong_line (length texts + 1)
    (with_chapter (first_of texts whole c.args.text.now c.args.self.now i) whole i.before)
    (behind_lines (first_of texts whole c.args.text.now c.args.self.now i) whole)
    c.args.text.now rest (take c.in-Some.end rest) (drop (suc c.in-Some.end) rest)
    c.args.self.now c.loop-end.self c.self-in-Some.inside.line
    (Line c.chapters.result c.self-in-Some.inside.line) i.lines c.loop-end.invariant at.parts
    at.before
    (λ n x keeps.
    subst (λ (line : List ℕ). read_line line x ≡ None) c.split_at.ensures.front
    (c.in_ok-read_line.ensures.wrong (ap is_right c.in-Wrong.is) n x
    (keeps_same n x c.loop-end.self mid (ap (λ (s : ReaderState). s.book) c.self.view_is)
    (ap (λ (s : ReaderState). s.end) c.self.view_is) keeps)))
    (λ small. ap (λ (s : ReaderState). s.line) c.self-in-Some.view_is ∙ c.read_line.ensures.number
    ∙ omega (
      arith,
      small,
      c.saturating_add-self-inside.ensures,
      ap (λ (s : ReaderState). s.line) c.self.view_is,
    ))
    (ap (λ (n : ℕ). Line n c.self-in-Some.inside.line)
    (c.chapters.ensures.count ∙ ap (λ (s : ReaderState). s.end.chapters) c.self-in-Some.view_is
    ∙ c.read_line.ensures.chapters ∙ ap (λ (s : ReaderState). s.end.chapters) c.self.view_is)))

pub returns-clause-reads : goal.returns-clause-reads
returns-clause-reads c = λ texts whole i.
    let on = c.loop-end.invariant in
    let new : ReaderState = record {
      site = string_bytes c.self-2.inside.site;
      book = c.self-2.inside.book;
      unpaid = c.self-2.inside.unpaid;
      end = c.self-2.inside.end;
      begin = c.self-2.inside.begin;
      line = c.self-2.inside.line;
      torn = not c.is_empty.result;
    } in
    subst (λ (xs : List ℕ). IsReading texts whole xs new)
    (sym (behind_done c.args.text.now on.done c.loop-end.rest.now on.parts))
    (reading_on texts whole c.args.text.now c.loop-end.rest.now c.args.self.now c.loop-end.self new
    i on (ap (λ (s : ReaderState). s.site) c.self-2.view_is)
    (ap (λ (s : ReaderState). s.book) c.self-2.view_is)
    (ap (λ (s : ReaderState). s.end) c.self-2.view_is)
    (ap (λ (s : ReaderState). s.line) c.self-2.view_is))

pub returns-clause-ends : goal.returns-clause-ends
returns-clause-ends c = λ none texts whole i.
    let on = c.loop-end.invariant in
    let new : ReaderState = record {
      site = string_bytes c.self-2.inside.site;
      book = c.self-2.inside.book;
      unpaid = c.self-2.inside.unpaid;
      end = c.self-2.inside.end;
      begin = c.self-2.inside.begin;
      line = c.self-2.inside.line;
      torn = not c.is_empty.result;
    } in
    chapter_ends texts whole c.loop-end.rest.now new
    (reading_on texts whole c.args.text.now c.loop-end.rest.now c.args.self.now c.loop-end.self new
    i on (ap (λ (s : ReaderState). s.site) c.self-2.view_is)
    (ap (λ (s : ReaderState). s.book) c.self-2.view_is)
    (ap (λ (s : ReaderState). s.end) c.self-2.view_is)
    (ap (λ (s : ReaderState). s.line) c.self-2.view_is))
    (absent 10 c.loop-end.rest.now c.in_default.ensures) (ap not c.is_empty.ensures)

pub returns-clause-last : goal.returns-clause-last
returns-clause-last c = λ none.
    let on = c.loop-end.invariant in
    ap whole_lines (behind_done c.args.text.now on.done c.loop-end.rest.now on.parts)
    ∙ none_ends [] c.loop-end.rest.now (absent 10 c.loop-end.rest.now c.in_default.ensures)
