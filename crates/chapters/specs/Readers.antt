-- What a reader of a history keeps of it, and which text it refuses.
use Rattle.std.specs.Prelude.{◌≡◌, ◌==◌, ◌≤◌, ◌<◌, ◌+◌, ◌-◌, ◌^◌, ◌⊎◌, ⊤, ℕ, Bool, true, false, not}
use Rattle.std.specs.Prelude.{List, [], ◌∷◌, ◌++◌, Option, Some, None, length, drop, take}
use Rattle.std.specs.Prelude.{if◌then◌else◌}
use Rattle.std.specs.List.{starts_with}
use Rattle.site_base.specs.declared.row.Row.{Row as RowFacts}
use Rattle.site_book.specs.Book.{Book}
use Rattle.site_book.specs.Unpaid.{Kept}
use Rattle.stamps.specs.Stamps.{time_after}
use Rattle.chapters.specs.declared.fault.HistoryFault.{HistoryFault}
use Rattle.chapters.specs.declared.fault.HistoryFault.TheVariants.{Line, NotAfter}
use Rattle.chapters.specs.declared.chapter_begin.ChapterBegin.{ChapterBegin}
use Rattle.chapters.specs.declared.line_read.LineRead.{LineRead}
use Rattle.chapters.specs.declared.line_read.LineRead.TheVariants as lines_read
use Rattle.chapters.specs.ChapterReading.{HistoryRead, is_none_left, nothing_read, read_from}
use Rattle.chapters.specs.ChapterReading.{read_line, read_lines, read_text}
use Rattle.chapters.specs.ChapterText.{first_lines, text_of_lines}
use Rattle.chapters.specs.History.{IsMadeOf}
use Rattle.chapters.specs.HistoryEnds.{EndState, EndsAt}
use Rattle.chapters.specs.Lines.{unfinished, whole_lines}

-- the name of the site; the book of the rows, and what may be unpaid of it; where the text ends,
-- and where its last chapter began; how many lines of that one are read; whether octets stand
-- behind its last line feed
pub record ReaderState : Type 0 where
  pub site : List ℕ
  pub book : Book
  pub unpaid : Kept
  pub end : EndState
  pub begin : ChapterBegin
  pub line : ℕ
  pub torn : Bool

-- what was read of the lines of so many chapters is what the reader keeps
pub record KeepsLines (chapters : ℕ) (r : HistoryRead) (s : ReaderState) : Type 0 where
  pub ends : EndsAt chapters r.seal r.unsealed s.end
  pub made : IsMadeOf s.book r.events
  pub time : s.end.time ≡ r.time

-- the reader has read these chapters
pub record HasRead (texts : List (List ℕ)) (s : ReaderState) : Type 0 where
  pub reading : HistoryRead
  pub read : read_from s.site 1 texts nothing_read ≡ Some reading
  pub keeps : KeepsLines (length texts) reading s
  pub torn : s.torn ≡ not (length reading.torn == 0)

-- the line was read behind that, and is no seal; the book has its row, if it is a request
pub record AddsText (line : List ℕ) (r : HistoryRead) (new : ReaderState) : Type 0 where
  pub reading : HistoryRead
  pub read : read_text line r ≡ Some reading
  pub seal : reading.seal ≡ r.seal
  pub unsealed : reading.unsealed ≡ r.unsealed ++ line ∷ []
  pub time : reading.time ≡ time_after line r.time
  pub made : IsMadeOf new.book reading.events

-- so many of the octets are whole lines; at most an unfinished one stands behind them
pub record AreWholeLines (whole : ℕ) (text : List ℕ) : Type 0 where
  pub few : whole ≤ length text
  pub ended : unfinished (take whole text) ≡ []
  pub behind : whole_lines (drop whole text) ≡ []

-- these lines were read, from here on
pub record AreRead (chapters : ℕ) (r : HistoryRead) (lines : List (List ℕ)) (s : ReaderState)
    : Type 0 where
  pub reading : HistoryRead
  pub read : read_lines lines r ≡ Some reading
  pub keeps : KeepsLines chapters reading s

-- ---- a line

-- the line was right
abbrev pub is_right : LineRead → Bool
is_right lines_read.Wrong = false
is_right lines_read.NoRow = true
is_right (lines_read.Row row) = true

-- the row that it made
abbrev pub row_read : LineRead → Option RowFacts
row_read lines_read.Wrong = None
row_read lines_read.NoRow = None
row_read (lines_read.Row row) = Some row

-- ---- a chapter, row after row

-- a text begins with these lines
abbrev pub begins_so : List ℕ → List (List ℕ) → Bool
begins_so text lines = starts_with (λ a b. a == b) text (text_of_lines lines)

-- the octets of a text behind the lines with which it begins
abbrev pub behind_lines : List (List ℕ) → List ℕ → List ℕ
behind_lines lines text = drop (length (text_of_lines lines)) text

-- what is read once these lines of a chapter's text are
abbrev pub with_chapter : List (List ℕ) → List ℕ → HistoryRead → HistoryRead
with_chapter lines text r =
    record r { unsealed = lines; torn = unfinished (behind_lines lines text) }

-- Of the lines behind a chapter's first ones those are read that stand ahead of this rest, on from
-- here; the reader keeps what was read, and how many lines of the chapter are.
pub record AreReadTo (chapters : ℕ) (r : HistoryRead) (text rest : List ℕ) (s : ReaderState)
    : Type 0 where
  pub done : List ℕ
  pub parts : text ≡ done ++ rest
  pub whole : unfinished done ≡ []
  pub reading : HistoryRead
  pub read : read_lines (whole_lines done) r ≡ Some reading
  pub keeps : KeepsLines chapters reading s
  pub count : s.line ≡ length (whole_lines done) + 3
  pub few : s.line + length rest < 2 ^ 64

-- The reader has read these chapters, and is reading the one behind them, which has this text: its
-- lines ahead of this rest are read.
pub record IsReading (texts : List (List ℕ)) (text rest : List ℕ) (s : ReaderState) : Type 0 where
  pub before : HistoryRead
  pub read : read_from s.site 1 texts nothing_read ≡ Some before
  pub ended : is_none_left before ≡ true
  pub begins : begins_so text (first_lines s.site (length texts + 1) before.seal) ≡ true
  pub lines :
      let first = first_lines s.site (length texts + 1) before.seal in
      AreReadTo (length texts + 1) (with_chapter first text before) (behind_lines first text) rest s

-- ---- what is refused

-- a fault of what a text says
abbrev pub IsOfText : HistoryFault → Type 0
IsOfText (Line chapter line) = ⊤
IsOfText (NotAfter chapter before) = ⊤
IsOfText fault = ⊥

-- behind these chapters none with this text is read
abbrev pub IsRefused : List (List ℕ) → List ℕ → ReaderState → Type 0
IsRefused texts text s = read_from s.site 1 (texts ++ text ∷ []) nothing_read ≡ None

-- the third line is another one: in the first chapter that line is wrong; any other chapter doesn't
-- go on from the one before
abbrev pub third_fault : ℕ → HistoryFault
third_fault n = if n == 1 then Line 1 3 else NotAfter n (n - 1)

-- a text whose first lines aren't these: the first one that is another
abbrev pub first_fault : ℕ → List (List ℕ) → List ℕ → HistoryFault
first_fault n lines text =
    if not (begins_so text (take 1 lines)) then Line n 1
    else if not (begins_so text (take 2 lines)) then Line n 2
    else third_fault n

-- of the lines behind the first three, read on from here, the line of this number is the first that
-- is wrong
pub record IsWrongLine (r : HistoryRead) (rest : List ℕ) (number : ℕ) : Type 0 where
  pub before : List (List ℕ)
  pub line : List ℕ
  pub others : List (List ℕ)
  pub lines : whole_lines rest ≡ before ++ line ∷ others
  pub place : number ≡ length before + 4
  pub reading : HistoryRead
  pub read : read_lines before r ≡ Some reading
  pub wrong : read_line line reading ≡ None

-- a fault names such a line of the last of so many chapters
pub record NamesRow (chapters : ℕ) (r : HistoryRead) (rest : List ℕ) (fault : HistoryFault)
    : Type 0 where
  pub number : ℕ
  pub line : fault ≡ Line chapters number
  pub wrong : IsWrongLine r rest number

-- .. of a chapter that begins as it should
pub record NamesLine (n : ℕ) (lines : List (List ℕ)) (r : HistoryRead) (text : List ℕ)
    (fault : HistoryFault) : Type 0 where
  pub ended : is_none_left r ≡ true
  pub begins : begins_so text lines ≡ true
  pub row : NamesRow n (with_chapter lines text r) (behind_lines lines text) fault

-- a chapter with other first lines than these
pub record NamesFirst (n : ℕ) (lines : List (List ℕ)) (r : HistoryRead) (text : List ℕ)
    (fault : HistoryFault) : Type 0 where
  pub ended : is_none_left r ≡ true
  pub other : begins_so text lines ≡ false
  pub is : fault ≡ first_fault n lines text

-- the chapters before, of which this was read, don't end with a seal
pub record NamesEnd (n : ℕ) (r : HistoryRead) (fault : HistoryFault) : Type 0 where
  pub left : is_none_left r ≡ false
  pub is : fault ≡ NotAfter n (n - 1)

-- what a fault says of the chapter of this number, behind others of which this was read
abbrev pub Names : List ℕ → ℕ → HistoryRead → List ℕ → HistoryFault → Type 0
Names site n r text fault =
    let lines = first_lines site n r.seal in
    NamesEnd n r fault ⊎ (NamesFirst n lines r text fault ⊎ NamesLine n lines r text fault)

-- .. of the chapter with this text, behind these ones, that a reader is reading
abbrev pub NamesIn : List (List ℕ) → List ℕ → HistoryRead → ReaderState → HistoryFault → Type 0
NamesIn texts text r s fault =
    NamesLine (length texts + 1) (first_lines s.site (length texts + 1) r.seal) r text fault
