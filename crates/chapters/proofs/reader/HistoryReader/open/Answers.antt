use Rattle.std.proofs.Common.{ap, refl}
use Rattle.site_book.specs.Book.{Book}
use Rattle.chapters.specs.ChapterReading.{nothing_read}
use Rattle.chapters.proofs.reader.HistoryReader.open.Goals as goal

pub returns-clause-nothing : goal.returns-clause-nothing
returns-clause-nothing c = record {
  reading = nothing_read;
  read = refl;
  keeps = record {
    ends = c.in_ok-new.ensures.ends;
    made = ap (λ (b : Book). b.rows) c.in_ok-book.ensures;
    time = c.in_ok-new.ensures.time;
  };
  torn = refl;
}
