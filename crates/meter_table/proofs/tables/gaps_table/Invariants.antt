use Rattle.std.proofs.Common.{◌≡◌, ◌≢◌, ◌++◌, drop, flat_map}
use Rattle.meter_table.specs.declared.form.Form.TheVariants.{Text}
use Rattle.meter_table.specs.Tables.{gap_titles, head_text, replaced_text}
use Rattle.meter_table.proofs.tables.gaps_table.Given as goal

-- what is to follow is the lines of the replaced meters that are left
abbrev pub invariant-loop-x : goal.invariant-loop-x
invariant-loop-x l = l.form ≢ Text →
    l.text.items ++ flat_map (replaced_text l.form) (drop l.x-index l.x-items)
    ≡ head_text l.form gap_titles ++ flat_map (replaced_text l.form) l.x-items
