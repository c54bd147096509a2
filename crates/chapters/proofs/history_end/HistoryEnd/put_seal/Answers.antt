use Rattle.std.proofs.Common.{◌++◌, ◌∙◌, List, ap, ℕ}
use Rattle.chapters.proofs.Rounds.{writes_seal}
use Rattle.chapters.proofs.history_end.HistoryEnd.put_seal.Goals as goal

pub returns-clause-written : goal.returns-clause-written
returns-clause-written c = λ chapters r ends.
    writes_seal chapters r c.args.self.now _ c.in_ok-line.line.items c.args.text.now.items _
    (c.in_ok-line.ensures.line chapters r.seal r.unsealed ends)
    (c.in_ok-extend_from_slice.ensures.items
    ∙ ap (λ (xs : List ℕ). c.args.text.now.items ++ xs) c.deref.ensures.value)
    (c.in_ok-line.ensures.behind chapters r.seal r.unsealed ends) c.seal_text.ensures.time
