use Rattle.std.proofs.Common.{arith, ◌++◌, ◌∙◌, ◌∷◌, [], ap, append-nil, sym}
use Rattle.chapters.specs.ChapterText.{row_digits}
use Rattle.chapters.specs.HistoryEnds.{EndState}
use Rattle.chapters.specs.RowText.{row_line}
use Rattle.chapters.proofs.Rounds.{behind_start, same_ends, some_line, writes_row}
use Rattle.chapters.proofs.history_end.HistoryEnd.put_row.Goals as goal

pub returns-clause-written : goal.returns-clause-written
returns-clause-written c = λ chapters r ends.
    let row = c.args.row.now in
    writes_row row chapters r c.args.self.now _ c.args.text.now.items _
    (c.requires.kept, c.in_ok-put_row_line.ensures.asks) c.in_ok-put_row_line.ensures.line
    (same_ends chapters r.seal (r.unsealed ++ row_digits row ∷ []) _ _ _ _ _ c.note_row.ensures
    (same_ends chapters r.seal (r.unsealed ++ row_digits row ∷ []) _ _ _ _ _ c.count_row.ensures
    (c.cover.ensures.covers chapters r.seal r.unsealed (row_digits row ∷ []) ends
    (behind_start c.args.text.now.items (row_line row) _ _
    (omega (arith, c.len-start.ensures, c.args.text.now.ok))
    (c.deref.ensures.value ∙ c.in_ok-put_row_line.ensures.line)
    ∙ sym (append-nil (row_line row))) (some_line (row_digits row)))))
    (ap (λ (e : EndState). e.time) c.note_row.ensures
    ∙ ap (λ (e : EndState). e.time) c.count_row.ensures ∙ c.cover.ensures.time)
