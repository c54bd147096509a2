-- What a reader of chapters gives.
use Rattle.std.proofs.Common.{◌≡◌, ℕ, List, Some, length, string_bytes, subst, sym}
use Rattle.site_book.specs.Book.{Book}
use Rattle.chapters.specs.ChapterReading.{nothing_read, read_from}
use Rattle.chapters.specs.History.{IsMadeOf}
use Rattle.chapters.specs.HistoryEnds.{EndState, EndsAt}
use Rattle.chapters.specs.Readers.{ReaderState}
use Rattle.chapters.specs.declared.reader.ReadHistory.{ReadHistory}
use Rattle.history_folder.specs.Reading.{HasReadSome, IsRead}

pub is_read : (count : ℕ) (s : ReaderState) (r : ReadHistory) → HasReadSome count s
    → string_bytes r.site ≡ s.site → r.book ≡ s.book → r.end ≡ s.end → IsRead r
is_read count s r h site book end =
    let reading = h.has.reading in
    record {
      texts = h.texts;
      reading = reading;
      read = subst (λ (name : List ℕ). read_from name 1 h.texts nothing_read ≡ Some reading)
          (sym site) h.has.read;
      made = subst (λ (b : Book). IsMadeOf b reading.events) (sym book) h.has.keeps.made;
      ends = subst (λ (e : EndState). EndsAt (length h.texts) reading.seal reading.unsealed e)
          (sym end) h.has.keeps.ends;
    }
