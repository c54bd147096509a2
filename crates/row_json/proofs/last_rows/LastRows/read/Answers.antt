use Rattle.std.proofs.Common.{◌∙◌, ap, map, string_bytes, ◌++◌, ◌∷◌, []}
use Rattle.circular_buffer.specs.Buffer.{keep_last}
use Rattle.row_json.specs.declared.sizes.TheConstants.{LAST_ROWS}
use Rattle.row_json.specs.LastRows.{with_row}
use Rattle.row_json.specs.RowObjects.{row_line}
use Rattle.row_json.specs.ToldRows.{told_row}
use Rattle.row_json.proofs.LastLines.{kept, same_last}
use Rattle.row_json.proofs.last_rows.LastRows.read.Goals as goal

pub returns-clause-read : goal.returns-clause-read
returns-clause-read c =
    let before = map string_bytes c.self.inside.lines.items in
    let line = c.in_ok-line.ensures
    ∙ ap (λ s. row_line (told_row s c.self.inside.next c.args.time c.args.row.now))
    c.in_ok-pass.ensures.site in
    let lines = ap (λ b. map string_bytes b.items) c.push_back.ensures.items
    ∙ kept c.self.inside.lines.capacity c.self.inside.lines.items c.in_ok-line.line
    ∙ ap (λ k. keep_last k (before ++ string_bytes c.in_ok-line.line ∷ [])) c.self.invariant.0
    ∙ ap (λ l. keep_last LAST_ROWS (before ++ l ∷ [])) line in
    same_last _ _ _ _ _ c.in_ok-pass.ensures.site lines
    ∙ ap (λ s. with_row c.args.time c.args.row.now s) c.self.view_is
