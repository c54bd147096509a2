use Rattle.std.proofs.Common.{◌≡◌, ◌++◌, drop, flat_map}
use Rattle.meter_table.specs.declared.form.Form.TheVariants.{Csv}
use Rattle.meter_table.specs.Tables.{figure_text, figures_text}
use Rattle.meter_table.proofs.tables.csv_table.Given as goal

-- what is to follow is the lines of the nozzles that are left
abbrev pub invariant-loop-x : goal.invariant-loop-x
invariant-loop-x l =
    l.text.items ++ flat_map (figure_text Csv l.products) (drop l.x-index l.figures)
    ≡ figures_text Csv l.products l.figures
