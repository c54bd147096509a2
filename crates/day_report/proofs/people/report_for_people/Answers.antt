use Rattle.std.proofs.Common.{◌++◌, ℕ, List, [], ap, ◌∙◌}
use Rattle.site_base.specs.declared.view.ProductView.{ProductView}
use Rattle.day_report.specs.Columns.{Line, table_text}
use Rattle.day_report.specs.People.{clears_text, rows_text, table_lines}
use Rattle.day_report.proofs.JoinedTexts.{put_both}
use Rattle.day_report.proofs.people.report_for_people.Goals as goal

pub returns : goal.returns
returns c =
    let rows = c.put_rows.new.text.items in
    let clears = c.put_clears.new.text.items in
    put_both [] (rows_text c.args.totals.now.rows) _ _ _
    (c.in_ok-put_rows.ensures
    ∙ ap (λ (t : List ℕ). t ++ rows_text c.args.totals.now.rows) c.new-text.ensures.items)
    (put_both rows _ _ _ _
    (c.in_ok-put_clears.ensures
    ∙ ap (λ (ts : List (ℕ × ℕ × ℕ)). rows ++ clears_text ts) c.as_slice.ensures)
    (c.in_ok-put_table.ensures
    ∙ ap (λ (ls : List Line). clears ++ table_text ls)
    (c.deref.ensures.value
    ∙ c.in_ok-lines.ensures
    ∙ ap (λ (vs : List ProductView). table_lines c.args.products.now vs) c.as_slice-2.ensures)))
