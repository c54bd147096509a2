use Rattle.std.proofs.Common.{◌∙◌, [], ◌∷◌, sym}
use Rattle.kept_history.specs.KeptRows.{kept_rows}
use Rattle.chapters.specs.Rounds.{round_lines}
use Rattle.chapters.proofs.Rounds.{keeps_nothing, keeps_row, then_sealed}
use Rattle.chapters.proofs.history_end.HistoryEnd.put_kept.Goals as goal

pub returns-then-not-is_kept-clause-written : goal.returns-then-not-is_kept-clause-written
returns-then-not-is_kept-clause-written c = λ chapters r ends.
    keeps_nothing c.args.row.now c.args.self.now.time c.args.now.now chapters r c.args.self.now
    c.args.text.now.items (sym c.is_kept.ensures ∙ c.if-not-is_kept.true) ends

pub returns-in_ok-put_seal-clause-written : goal.returns-in_ok-put_seal-clause-written
returns-in_ok-put_seal-clause-written c = λ chapters r ends.
    let row = c.args.row.now in
    let last = c.args.self.now.time in
    let now = c.args.now.now in
    let stamp = c.in_ok-put_stamp.ensures.written chapters r ends in
    let line = c.in_ok-put_row.ensures.written chapters stamp.reading stamp.ends in
    let both = keeps_row row last now chapters r c.args.self.now _ _ c.args.text.now.items _ _
    (sym c.is_kept.ensures ∙ c.if-not-is_kept.false) stamp line in
    then_sealed (round_lines last now (kept_rows (row ∷ []))) (kept_rows (row ∷ [])) chapters r
    c.args.self.now _ _ c.args.text.now.items _ _ both (c.in_ok-put_seal.ensures.written chapters both.reading both.ends)

pub returns-else-rows-ge-SEAL_ROWS-clause-written :
    goal.returns-else-rows-ge-SEAL_ROWS-clause-written
returns-else-rows-ge-SEAL_ROWS-clause-written c = λ chapters r ends.
    let stamp = c.in_ok-put_stamp.ensures.written chapters r ends in
    keeps_row c.args.row.now c.args.self.now.time c.args.now.now chapters r c.args.self.now _ _
    c.args.text.now.items _ _
    (sym c.is_kept.ensures ∙ c.if-not-is_kept.false) stamp
    (c.in_ok-put_row.ensures.written chapters stamp.reading stamp.ends)
