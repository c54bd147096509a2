-- A station that is opened on its journal.
use Rattle.std.proofs.Common.{◌≡◌, ℕ, List, Option, length, ◌∙◌}
use Rattle.site_base.specs.Configured.{Configured}
use Rattle.site_book.specs.Book.{Book}
use Rattle.journal.specs.Disks.{DiskFile, OfFile, OfFiles}
use Rattle.journal.specs.Opening.{Reopens, Resumes}
use Rattle.journal.specs.Recovering.{IsReadIn, KeepsWholeLines}
use Rattle.journal.specs.Stored.{StoredState}
use Rattle.journal.proofs.Recovering.{lines_then}

pub reopens : (site first : List ℕ) (config : Configured) (recovered : Book)
    (last clock : Option (List ℕ)) (old settled : Option DiskFile) (rows : ℕ) (s : StoredState)
    → first ≡ site
    → recovered.config ≡ config → OfFile (IsReadIn site recovered) old
    → OfFiles KeepsWholeLines old settled → rows ≡ length recovered.rows
    → Resumes first recovered last clock settled s → Reopens site config clock old rows s
reopens site first config recovered last clock old settled rows s named same read stays count r = record {
  recovered = recovered;
  same = same;
  read = read;
  count = count;
  signed_off = r.rows;
  stored = r.stored;
  journal = r.journal;
  there = r.there;
  named = r.named ∙ named;
  clock = r.clock;
  read_file = settled;
  last = last;
  lines = r.lines;
  moments = lines_then old settled r.journal.file stays r.moments;
}
