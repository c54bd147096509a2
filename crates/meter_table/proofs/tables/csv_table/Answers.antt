use Rattle.std.proofs.Common.{◌∙◌}
use Rattle.meter_table.specs.declared.form.Form.TheVariants.{Csv}
use Rattle.meter_table.specs.Tables.{figure_text}
use Rattle.meter_table.proofs.MoreLines.{line_more}
use Rattle.meter_table.proofs.tables.csv_table.Goals as goal

pub loop-x-preserved : goal.loop-x-preserved
loop-x-preserved c =
    line_more (figure_text Csv c.args.products.now) c.args.figures.now c.loop-x.x-index
    c.x-item.result c.loop-x.text.items c.deref.result.now _ _ c.loop-x-test.true c.x-item.is
    c.in_ok-extend_from_slice.ensures.items
    (c.deref.ensures.value ∙ c.in_ok-figure_line.ensures) c.loop-x.invariant
