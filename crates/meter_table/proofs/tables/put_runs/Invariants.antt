use Rattle.std.proofs.Common.{◌≡◌, ◌≢◌, ◌++◌, drop, flat_map}
use Rattle.meter_table.specs.declared.form.Form.TheVariants.{Text}
use Rattle.meter_table.specs.Tables.{run_text}
use Rattle.meter_table.proofs.tables.put_runs.Given as goal

-- what is to follow is the lines of the runs that are left
abbrev pub invariant-loop-run : goal.invariant-loop-run
invariant-loop-run l = l.form ≢ Text →
    l.text.items ++ flat_map (run_text l.form) (drop l.run-index l.runs)
    ≡ l.fn.text.items ++ flat_map (run_text l.form) l.runs
