-- What is written of a round: a stamp, lines of rows, and seals.
use Rattle.std.specs.Prelude.{◌≡◌, ◌≤◌, ℕ, List, [], ◌∷◌, ◌++◌, Option, Some, None, filter, length}
use Rattle.std.specs.Prelude.{not}
use Rattle.std.specs.Prelude.{if◌then◌else◌}
use Rattle.std.specs.List.{AllByRecursion}
use Rattle.site_base.specs.declared.row.Row.{Row}
use Rattle.hex_lines.specs.Lines.{IsLine}
use Rattle.stamps.specs.Stamps.{at_line, is_later, later_of}
use Rattle.written_site.specs.SiteRun.{events_of}
use Rattle.chapters.specs.ChapterReading.{HistoryRead, is_of_seal, read_lines}
use Rattle.chapters.specs.ChapterText.{row_digits, text_of_lines}
use Rattle.chapters.specs.HistoryEnds.{EndState, EndsAt}
use Rattle.chapters.specs.OpenShift.{first_behind}
use Rattle.chapters.specs.RowText.{CanBeSpelled}
use Rattle.chapters.specs.Times.{Rise, times_in}

-- the stamp of this time, where it is later than the last one
abbrev pub stamp_lines : Option (List ℕ) → Option (List ℕ) → List (List ℕ)
stamp_lines last None = []
stamp_lines last (Some now) = if is_later last now then at_line now ∷ [] else []

-- the lines of the rows of a round at this time: ahead of each stands its stamp, where that is
-- later than the last one
abbrev pub round_lines : Option (List ℕ) → Option (List ℕ) → List Row → List (List ℕ)
round_lines last now [] = []
round_lines last now (r ∷ rows) =
    stamp_lines last now ++ (row_digits r ∷ round_lines (later_of last now) now rows)

-- the last time behind these rows
abbrev pub time_behind : Option (List ℕ) → Option (List ℕ) → List Row → Option (List ℕ)
time_behind last now [] = last
time_behind last now (r ∷ rows) = time_behind (later_of last now) now rows

-- lines without those of seals
abbrev pub without_seals : List (List ℕ) → List (List ℕ)
without_seals lines = filter (λ line. not (is_of_seal line)) lines

-- Behind a text, of which this was read, stand more lines: but for seals these ones. They are read
-- as just these rows, with right seals, and the text ends so. Their times rise; if the last one was
-- known, it is.
pub record Writes (said : List (List ℕ)) (rows : List Row) (chapters : ℕ) (r : HistoryRead)
    (old new : EndState) (text longer : List ℕ) : Type 0 where
  pub lines : List (List ℕ)
  pub grows : longer ≡ text ++ text_of_lines lines
  pub plain : AllByRecursion IsLine lines
  pub says : without_seals lines ≡ said
  pub reading : HistoryRead
  pub read : read_lines lines r ≡ Some reading
  pub told : reading.events ≡ r.events ++ events_of rows
  pub ends : EndsAt chapters reading.seal reading.unsealed new
  pub time : old.time ≡ r.time → new.time ≡ reading.time
  pub rises : Rise old.time (times_in lines) new.time

-- .. behind any text that ended so
abbrev pub WritesOn : List (List ℕ) → List Row → EndState → EndState → List ℕ → List ℕ → Type 0
WritesOn said rows old new text longer =
    (chapters : ℕ) (r : HistoryRead) → EndsAt chapters r.seal r.unsealed old
    → Writes said rows chapters r old new text longer

-- .. the lines of a round at this time
abbrev pub WritesRound : Option (List ℕ) → List Row → EndState → EndState → List ℕ → List ℕ
    → Type 0
WritesRound now rows old new text longer =
    WritesOn (round_lines old.time now rows) rows old new text longer

-- the lines of these rows stand alone in a text, with seals among them
pub record WritesFirst (now : Option (List ℕ)) (rows : List Row) (old new : EndState)
    (text : List ℕ) : Type 0 where
  pub written : WritesRound now rows old new [] text
  pub spelled : CanBeSpelled rows
  pub time : new.time ≡ time_behind old.time now rows
  pub first : new.first ≡ first_behind old.time now rows old.first
  pub size : length rows ≤ length text
  pub none : rows ≡ [] → new ≡ old
  pub still : rows ≡ [] → text ≡ []
  pub count : new.chapters ≡ old.chapters

-- a text of whole lines: those of a round at this time with these rows, and seals. The times that
-- they tell rise behind the last one
pub record IsRound (last now : Option (List ℕ)) (rows : List Row) (text : List ℕ) : Type 0 where
  pub lines : List (List ℕ)
  pub is : text ≡ text_of_lines lines
  pub plain : AllByRecursion IsLine lines
  pub says : without_seals lines ≡ round_lines last now rows
  pub behind : Option (List ℕ)
  pub rises : Rise last (times_in lines) behind
