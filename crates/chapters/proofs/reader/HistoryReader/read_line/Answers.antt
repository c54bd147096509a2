use Rattle.std.proofs.Common.{◌≡◌, ◌∙◌, ◌++◌, ◌∷◌, [], ap, refl, subst, sym}
use Rattle.stamps.specs.Stamps.{time_after}
use Rattle.chapters.specs.HistoryEnds.{EndState, EndsAt}
use Rattle.chapters.specs.Readers.{KeepsLines, ReaderState}
use Rattle.chapters.proofs.Rounds.{same_ends}
use Rattle.chapters.proofs.Reading.{seal_right, seal_wrong, text_right}
use Rattle.chapters.proofs.reader.HistoryReader.read_line.Goals as goal

pub returns-then-starts_with-clause-right : goal.returns-then-starts_with-clause-right
returns-then-starts_with-clause-right c = λ yes chapters r keeps.
    let here = subst (KeepsLines chapters r) (sym c.self.view_is) keeps in
    seal_right c.args.line.now chapters r _ _
    (sym c.starts_with.ensures.value ∙ c.if-starts_with.true)
    (sym (c.in_ok-meet_seal.ensures.right chapters r.seal r.unsealed here.ends)
    ∙ sym c.of_seal.ensures.right ∙ yes) here
    (c.in_ok-meet_seal.ensures.behind chapters r.seal r.unsealed here.ends) refl
    c.meet_seal.ensures.time

pub returns-then-starts_with-clause-wrong : goal.returns-then-starts_with-clause-wrong
returns-then-starts_with-clause-wrong c = λ no chapters r keeps.
    let here = subst (KeepsLines chapters r) (sym c.self.view_is) keeps in
    seal_wrong c.args.line.now r (sym c.starts_with.ensures.value ∙ c.if-starts_with.true)
    (sym (c.in_ok-meet_seal.ensures.right chapters r.seal r.unsealed here.ends)
    ∙ sym c.of_seal.ensures.right ∙ no)

pub returns-clause-right : goal.returns-clause-right
returns-clause-right c = λ yes chapters r keeps.
    let adds = c.in_ok-read.ensures.right yes r keeps.made in
    let same : c.self-2.inside.end ≡ c.args.self.now.end =
    ap (λ (s : ReaderState). s.end) c.self-2.view_is ∙ c.read_text.ensures.end in
    text_right c.args.line.now chapters r c.read_text.new.self _
    (sym c.starts_with.ensures.value ∙ c.if-starts_with.false) adds
    (ap (λ (s : ReaderState). s.book) c.self-2.view_is)
    (same_ends chapters r.seal (r.unsealed ++ c.args.line.now ∷ []) _ _ _ _ _ c.note_read.ensures
    (c.cover_line.ensures.covers chapters r.seal r.unsealed
    (subst (EndsAt chapters r.seal r.unsealed) (sym same) keeps.ends)))
    (ap (λ (e : EndState). e.time) c.note_read.ensures ∙ c.cover_line.ensures.time
    ∙ ap (time_after c.args.line.now) (ap (λ (e : EndState). e.time) same ∙ keeps.time))
