use Rattle.std.proofs.Common.{subst, sym}
use Rattle.journal.specs.Disks.{Keeps, OfFiles}
use Rattle.journal.specs.Stored.{IsJournalOf, JournalState}
use Rattle.journal.proofs.Ending.{journal_sealed}
use Rattle.journal.proofs.Fronts.{files_then}
use Rattle.journal.proofs.Storing.{journal_broken}
use Rattle.journal.proofs.journal.Journal.seal.Goals as goal

pub returns-in_err-sync-clause-journal : goal.returns-in_err-sync-clause-journal
returns-in_err-sync-clause-journal g c = λ rows is.
    journal_broken rows _ c.seal_text.new.self _ (subst (IsJournalOf rows) (sym c.self.view_is) is)
    (files_then _ _ _ c.append.ensures.moments c.sync.ensures.moments)

pub returns-in_err-sync-clause-moments : goal.returns-in_err-sync-clause-moments
returns-in_err-sync-clause-moments g c =
    subst (λ (j : JournalState). OfFiles Keeps j.file (g.D.Disk.file c.sync.new.self))
    c.self.view_is (files_then _ _ _ c.append.ensures.moments c.sync.ensures.moments)

pub returns-clause-journal : goal.returns-clause-journal
returns-clause-journal g c = λ rows is.
    journal_sealed rows _ c.in_ok-line.line.items c.seal_text.new.self _ _
    (subst (IsJournalOf rows) (sym c.self.view_is) is)
    c.if-self.false
    (λ chapters seal unsealed ends. (
      c.in_ok-line.ensures.line chapters seal unsealed ends,
      c.in_ok-line.ensures.behind chapters seal unsealed ends,
    ))
    c.seal_text.ensures.time
    (rw (sym c.deref.ensures.value) c.in_ok-append.ensures.ok) c.in_ok-sync.ensures.ok

pub returns-clause-moments : goal.returns-clause-moments
returns-clause-moments g c =
    subst (λ (j : JournalState). OfFiles Keeps j.file (g.D.Disk.file c.sync.new.self))
    c.self.view_is (files_then _ _ _ c.append.ensures.moments c.sync.ensures.moments)
