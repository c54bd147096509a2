-- Where a chapter begins, and when it is over.
use Rattle.std.specs.Prelude.{◌==◌, ◌||◌, ◌-◌, Bool, length, nat_le, not}
use Rattle.kept_history.specs.KeptRows.{kept_rows}
use Rattle.site_book.specs.Book.{Book, site_of_book}
use Rattle.written_site.specs.SiteState.{open_shift}
use Rattle.chapters.specs.declared.chapter_begin.ChapterBegin.{ChapterBegin}
use Rattle.chapters.specs.declared.chapter_begin.TheConstants.{CHAPTER_ROWS}

-- a chapter whose first row is the next one of this book
abbrev pub begin_of : Book → ChapterBegin
begin_of b = record { shift = open_shift (site_of_book b); rows = length (kept_rows b.rows) }

-- a shift was closed in the chapter that began so, or it has 1,000,000 rows
abbrev pub is_over : ChapterBegin → Book → Bool
is_over began b =
    not (open_shift (site_of_book b) == began.shift)
    || nat_le CHAPTER_ROWS (length (kept_rows b.rows) - began.rows)
