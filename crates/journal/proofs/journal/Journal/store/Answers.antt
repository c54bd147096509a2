use Rattle.std.proofs.Common.{◌≡◌, ◌∙◌, [], ap, arith, length, refl, subst, sym}
use Rattle.std.proofs.lemmas.Bool.Decides.{nat_tests}
use Rattle.std.proofs.lemmas.Grind.{common_steps}
use Rattle.std.proofs.lemmas.List.{nil_from_length}
use Rattle.chapters.specs.RowText.{kept_behind}
use Rattle.journal.specs.Disks.{Keeps, OfFiles}
use Rattle.journal.specs.Stored.{GrowsByLines, GrowsByRound, IsJournalOf, JournalState}
use Rattle.journal.proofs.Fronts.{files_then}
use Rattle.journal.proofs.Storing.{journal_broken, journal_kept, journal_stored, lines_none}
use Rattle.journal.proofs.Storing.{lines_written, none_left, some_text}
use Rattle.journal.proofs.journal.Journal.store.Goals as goal

pub returns-then-count-self-clause-lines : goal.returns-then-count-self-clause-lines
returns-then-count-self-clause-lines g c =
    lines_none c.args.book.now.rows c.args.self.now c.args.self.now
    (none_left c.args.book.now.rows c.args.self.now
    (sym (ap (λ (j : JournalState). j.stored) c.self.view_is) ∙ sym c.if-count-self.true
    ∙ c.len-count.ensures.rows)) refl

-- where only reads were left
pub returns-then-is_empty-clause-journal : goal.returns-then-is_empty-clause-journal
returns-then-is_empty-clause-journal g c =
    let rows = c.args.book.now.rows in
    let text = c.put_round.new.text.items in
    let size : length text ≡ 0 = grind (arith, common_steps, nat_tests) in
    let none = nil_from_length (kept_behind c.self.inside.stored rows)
    (omega (arith, size, c.in_ok-put_round.ensures.size)) in
    journal_kept rows _ c.len-count.result c.put_round.new.self
    (subst (IsJournalOf rows) (sym c.self.view_is) c.requires.journal) c.if-self.false
    (c.in_ok-put_round.ensures.none none) none c.len-count.ensures.rows

pub returns-in_err-append-clause-quiet : goal.returns-in_err-append-clause-quiet
returns-in_err-append-clause-quiet g c = λ none.
    let text = c.put_round.new.text.items in
    let some : text ≡ [] → ⊥ = some_text text (grind (arith, common_steps, nat_tests)) in
    absurd (some (c.in_ok-put_round.ensures.still
    (subst (λ (j : JournalState). kept_behind j.stored c.args.book.now.rows ≡ [])
    (sym c.self.view_is) none)))

pub returns-in_err-sync-clause-journal : goal.returns-in_err-sync-clause-journal
returns-in_err-sync-clause-journal g c =
    journal_broken c.args.book.now.rows _ c.put_round.new.self _
    (subst (IsJournalOf c.args.book.now.rows) (sym c.self.view_is) c.requires.journal)
    (files_then _ _ _ c.append.ensures.moments c.sync.ensures.moments)

pub returns-in_err-sync-clause-quiet : goal.returns-in_err-sync-clause-quiet
returns-in_err-sync-clause-quiet g c = λ none.
    let text = c.put_round.new.text.items in
    let some : text ≡ [] → ⊥ = some_text text (grind (arith, common_steps, nat_tests)) in
    absurd (some (c.in_ok-put_round.ensures.still
    (subst (λ (j : JournalState). kept_behind j.stored c.args.book.now.rows ≡ [])
    (sym c.self.view_is) none)))

pub returns-in_err-sync-clause-moments : goal.returns-in_err-sync-clause-moments
returns-in_err-sync-clause-moments g c =
    subst (λ (j : JournalState). OfFiles Keeps j.file (g.D.Disk.file c.sync.new.self))
    c.self.view_is (files_then _ _ _ c.append.ensures.moments c.sync.ensures.moments)

pub returns-clause-journal : goal.returns-clause-journal
returns-clause-journal g c =
    let rows = c.args.book.now.rows in
    subst (IsJournalOf rows) (sym c.note_seal.ensures)
    (journal_stored rows _ c.put_round.new.text.items _ c.put_round.new.self _ _ c.len-count.result
    (subst (IsJournalOf rows) (sym c.self.view_is) c.requires.journal) c.if-self.false
    c.in_ok-put_round.ensures.written c.in_ok-put_round.ensures.spelled
    (rw (sym c.deref.ensures.value) c.in_ok-append.ensures.ok) c.in_ok-sync.ensures.ok
    c.len-count.ensures.rows)

pub returns-clause-lines : goal.returns-clause-lines
returns-clause-lines g c =
    let rows = c.args.book.now.rows in
    let file = g.D.Disk.file c.sync.new.self in
    subst (λ (k : JournalState). GrowsByLines rows c.args.self.now k) (sym c.note_seal.ensures)
    (subst (λ (j : JournalState).
    OfFiles (GrowsByRound j.end.time j.clock (kept_behind j.stored rows)) j.file file)
    c.self.view_is
    (lines_written rows _ c.put_round.new.text.items c.put_round.new.self
    (g.D.Disk.file c.append.new.self) file
    (subst (IsJournalOf rows) (sym c.self.view_is) c.requires.journal) c.if-self.false
    c.in_ok-put_round.ensures.written (rw (sym c.deref.ensures.value) c.in_ok-append.ensures.ok)
    c.in_ok-sync.ensures.ok))

pub returns-clause-quiet : goal.returns-clause-quiet
returns-clause-quiet g c = λ none.
    let text = c.put_round.new.text.items in
    let some : text ≡ [] → ⊥ = some_text text (grind (arith, common_steps, nat_tests)) in
    absurd (some (c.in_ok-put_round.ensures.still
    (subst (λ (j : JournalState). kept_behind j.stored c.args.book.now.rows ≡ [])
    (sym c.self.view_is) none)))

pub returns-clause-moments : goal.returns-clause-moments
returns-clause-moments g c =
    subst (λ (k : JournalState). OfFiles Keeps c.args.self.now.file k.file) (sym c.note_seal.ensures)
    (subst (λ (j : JournalState). OfFiles Keeps j.file (g.D.Disk.file c.sync.new.self))
    c.self.view_is (files_then _ _ _ c.append.ensures.moments c.sync.ensures.moments))
