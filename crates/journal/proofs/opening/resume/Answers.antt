use Rattle.std.proofs.Common.{◌∙◌, ◌≤◌, ℕ, Option, ap, arith, string_bytes, subst, sym}
use Rattle.site_base.specs.Configured.{Configured}
use Rattle.journal.specs.declared.memory.TheConstants.{LEAST_ROWS}
use Rattle.journal.specs.Disks.{DiskFile, Keeps, OfFiles}
use Rattle.chapters.specs.RowText.{kept_behind}
use Rattle.journal.specs.Stored.{GrowsByLines, GrowsByRound, IsJournalOf, JournalState}
use Rattle.journal.proofs.SigningOff.{allowed_off, behind_off, journal_begun, resumes, sent_off}
use Rattle.journal.proofs.SigningOff.{unpaid_off}
use Rattle.journal.proofs.opening.resume.Goals as goal

pub store-requires-clause-journal : goal.store-requires-clause-journal
store-requires-clause-journal g c =
    subst (IsJournalOf c.sign_off_all.new.book.rows) (sym c.new-journal.ensures)
    (journal_begun (string_bytes c.args.recovered.site) c.args.recovered.book
    c.sign_off_all.new.book c.args.recovered.end c.args.recovered.begin c.args.clock
    (g.D.Disk.file c.args.disk) c.len-rows.result c.requires.settled c.requires.kept c.requires.spelled c.len-rows.ensures.rows
    c.sign_off_all.ensures.rows)

pub store-requires-clause-sent : goal.store-requires-clause-sent
store-requires-clause-sent g c =
    sent_off c.args.recovered.book c.sign_off_all.new.book c.sign_off_all.ensures.rows
    c.requires.sent

pub store-requires-clause-memory : goal.store-requires-clause-memory
store-requires-clause-memory g c =
    let few = behind_off c.args.recovered.book c.sign_off_all.new.book c.sign_off_all.ensures.rows
    c.len-rows.ensures.forgotten in
    let stored = ap (λ (j : JournalState). j.stored) c.new-journal.ensures in
    omega (arith, few, stored, c.len-rows.ensures.rows)

pub with_journal-requires-clause-unpaid : goal.with_journal-requires-clause-unpaid
with_journal-requires-clause-unpaid g c =
    unpaid_off c.args.recovered.unpaid c.args.recovered.book c.sign_off_all.new.book
    c.sign_off_all.ensures.rows c.requires.unpaid

pub with_journal-requires-clause-sent : goal.with_journal-requires-clause-sent
with_journal-requires-clause-sent g c =
    sent_off c.args.recovered.book c.sign_off_all.new.book c.sign_off_all.ensures.rows
    c.requires.sent

pub with_journal-requires-clause-behind : goal.with_journal-requires-clause-behind
with_journal-requires-clause-behind g c =
    let few = behind_off c.args.recovered.book c.sign_off_all.new.book c.sign_off_all.ensures.rows
    c.len-rows.ensures.forgotten in
    let stored = ap (λ (j : JournalState). j.stored) c.new-journal.ensures in
    omega (arith, few, stored, c.len-rows.ensures.rows, c.store.ensures.none_lost)

pub with_journal-requires-clause-enough : goal.with_journal-requires-clause-enough
with_journal-requires-clause-enough g c =
    subst (λ (config : Configured). LEAST_ROWS ≤ config.rows)
    (sym (allowed_off c.args.recovered.book c.sign_off_all.new.book c.sign_off_all.ensures.rows))
    c.requires.enough

pub returns-in-Ok-clause-resumed : goal.returns-in-Ok-clause-resumed
returns-in-Ok-clause-resumed g c =
    let rows = c.sign_off_all.new.book.rows in
    let file = c.store.new.self.file in
    let was = ap (λ (j : JournalState). j.file) c.new-journal.ensures in
    let written = subst (λ (j : JournalState). GrowsByLines rows j c.store.new.self)
    c.new-journal.ensures c.in-Ok.ensures.lines in
    resumes (string_bytes c.args.recovered.site) c.args.recovered.book c.sign_off_all.new.book
    c.args.recovered.end.time c.args.clock c.args.recovered.unpaid
    (g.D.Disk.file c.args.disk) c.store.new.self c.with_journal.result c.with_journal.ensures
    c.sign_off_all.ensures.rows c.sign_off_all.ensures.off c.in-Ok.ensures.stored
    (c.store.ensures.site ∙ ap (λ (j : JournalState). j.site) c.new-journal.ensures)
    (c.store.ensures.clock ∙ ap (λ (j : JournalState). j.clock) c.new-journal.ensures)
    (subst (λ (n : ℕ).
    OfFiles (GrowsByRound c.args.recovered.end.time c.args.clock (kept_behind n rows))
    (g.D.Disk.file c.args.disk) file)
    c.len-rows.ensures.rows written)
    (subst (λ (f : Option DiskFile). OfFiles Keeps f file) was c.store.ensures.moments)
