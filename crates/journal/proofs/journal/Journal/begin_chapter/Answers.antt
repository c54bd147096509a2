use Rattle.std.proofs.Common.{◌∙◌, ◌+◌, ℕ, List, ap, subst, sym}
use Rattle.chapters.specs.ChapterText.{first_lines, text_of_lines}
use Rattle.journal.specs.Stored.{IsJournalOf, JournalState}
use Rattle.journal.proofs.Ending.{journal_begun_anew, journal_same}
use Rattle.journal.proofs.journal.Journal.begin_chapter.Goals as goal

pub returns-then-not-branch-clause-journal : goal.returns-then-not-branch-clause-journal
returns-then-not-branch-clause-journal g c = λ rows is.
    journal_same rows _ _ (subst (IsJournalOf rows) (sym c.self.view_is) is)
    (ap (λ (j : JournalState). j.failed) c.self.view_is ∙ c.requires.whole)
    (c.in_ok-begin.ensures.goes_on c.if-not-branch.true)

pub returns-clause-journal : goal.returns-clause-journal
returns-clause-journal g c = λ rows is.
    journal_begun_anew rows _ c.as_bytes.result.now c.begin_chapter.new.self _
    (subst (IsJournalOf rows) (sym c.self.view_is) is)
    (ap (λ (j : JournalState). j.failed) c.self.view_is ∙ c.requires.whole)
    (ap (λ (j : JournalState). j.end.sealed) c.self.view_is ∙ c.requires.sealed)
    (c.as_bytes.ensures.value ∙ c.in_ok-lines.ensures
    ∙ ap (λ (site : List ℕ). text_of_lines
    (first_lines site (c.self.inside.end.chapters + 1) c.self.inside.end.seal))
    c.as_str.ensures.value)
    (λ chapters seal lines ends is some.
    c.begin_chapter.ensures.begun chapters seal lines ends
    (c.as_bytes-2.ensures.value ∙ sym c.as_bytes.ensures.value ∙ is) some)
    c.begin_chapter.ensures.time
    (c.in_ok-begin.ensures.begun c.if-not-branch.false)
