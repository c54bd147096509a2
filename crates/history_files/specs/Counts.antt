-- What a process keeps of its history's folder.
use Rattle.std.specs.Prelude.{◌≡◌, ◌+◌, ℕ, List, length}
use Rattle.history_files.specs.declared.locked.HistoryFolder.{HistoryFolder}
use Rattle.history_files.specs.declared.history_disk.HistoryDisk.{HistoryDisk}

module _ {R : Type 0} where
  -- how many chapters were found
  abbrev pub chapters_found : HistoryFolder R → ℕ
  chapters_found f = f.chapters

  -- how many chapters are closed
  abbrev pub chapters_closed : HistoryDisk R → ℕ
  chapters_closed d = d.closed

  -- how many octets it has put into the open chapter's file
  abbrev pub octets_put : HistoryDisk R → ℕ
  octets_put d = d.len

  -- how many of them were flushed
  abbrev pub octets_flushed : HistoryDisk R → ℕ
  octets_flushed d = d.flushed

  -- the open chapter was closed, and the next one has these octets, all of them flushed
  pub record HasBegun (octets : List ℕ) (old new : HistoryDisk R) : Type 0 where
    pub closed : chapters_closed new ≡ chapters_closed old + 1
    pub put : octets_put new ≡ length octets
    pub flushed : octets_flushed new ≡ length octets

  -- the open chapter stays open
  pub record StaysOpen (old new : HistoryDisk R) : Type 0 where
    pub closed : chapters_closed new ≡ chapters_closed old
    pub put : octets_put new ≡ octets_put old
    pub flushed : octets_flushed new ≡ octets_flushed old
