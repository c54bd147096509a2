-- When a chapter ends, and what is left then.
use Rattle.std.specs.Prelude.{◌≡◌, ◌+◌, ◌-◌, ◌&&◌, ℕ, Bool, true, false, Option, Some, None, length}
use Rattle.std.specs.Prelude.{nat_le}
use Rattle.kept_history.specs.KeptRows.{kept_rows}
use Rattle.site_book.specs.Book.{Book}
use Rattle.chapters.specs.ChapterBegins.{begin_of, is_over}
use Rattle.journal.specs.declared.journal.ChapterEnd.{ChapterEnd}
use Rattle.journal.specs.declared.journal.ChapterEnd.TheVariants.{Ended, NotDue, Refused}
use Rattle.journal.specs.declared.journal.TheConstants.{RETRY_ROWS}
use Rattle.journal.specs.Stored.{JournalState}

-- so many rows of a book are kept
abbrev pub rows_kept : Book → ℕ
rows_kept b = length (kept_rows b.rows)

-- the next chapter wasn't refused, or at so many rows that enough have come since
abbrev pub may_try : Option ℕ → ℕ → Bool
may_try None rows = true
may_try (Some refused) rows = nat_le RETRY_ROWS (rows - refused)

-- the open chapter, which has the last rows of this book, is over, and the next one may be tried
abbrev pub is_due : JournalState → Book → Bool
is_due j b = is_over j.begin b && may_try j.refused (rows_kept b)

-- The next chapter has begun: with the next row of this book.
pub record HasBegunNext (b : Book) (old new : JournalState) : Type 0 where
  pub due : is_due old b ≡ true
  pub count : new.end.chapters ≡ old.end.chapters + 1
  pub begin : new.begin ≡ begin_of b
  pub refused : new.refused ≡ None

-- There can't be a next one now: the open one goes on, and it is noted at how many rows.
pub record GoesOnLonger (b : Book) (old new : JournalState) : Type 0 where
  pub due : is_due old b ≡ true
  pub count : new.end.chapters ≡ old.end.chapters
  pub begin : new.begin ≡ old.begin
  pub refused : new.refused ≡ Some (rows_kept b)

-- what an answer says of the journal of this book
abbrev pub IsEnd : ChapterEnd → Book → JournalState → JournalState → Type 0
IsEnd NotDue b old new = (is_due old b ≡ false) × (new ≡ old)
IsEnd Ended b old new = HasBegunNext b old new
IsEnd Refused b old new = GoesOnLonger b old new

-- .. of a station's journal, if it has one
abbrev pub IsEndOf : ChapterEnd → Book → Option JournalState → Option JournalState → Type 0
IsEndOf end b None None = end ≡ NotDue
IsEndOf end b (Some old) (Some new) = IsEnd end b old new
IsEndOf end b old new = ⊥
