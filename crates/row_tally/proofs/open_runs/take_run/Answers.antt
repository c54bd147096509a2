use Rattle.std.proofs.Common.{◌∙◌, ◌∷◌, [], ap, arith, length, sym}
use Rattle.row_tally.specs.Runs.{run_place, run_settled}
use Rattle.row_tally.proofs.Runs.{no_run, run_at}
use Rattle.row_tally.proofs.open_runs.take_run.Goals as goal

pub remove-run-requires : goal.remove-run-requires
remove-run-requires c =
    let p = c.args.told.now.point in
    let n = c.args.told.now.nozzle in
    let at = run_at p n c.args.runs.now.items c.in-Some.place
    (ap (run_place p n) (sym c.deref.ensures.value) ∙ sym c.find_run.ensures ∙ c.in-Some.is) in
    omega (arith, at.within, c.deref.ensures.len, ap length c.deref.ensures.value)

pub returns-in-Some-clause-settled : goal.returns-in-Some-clause-settled
returns-in-Some-clause-settled c =
    let p = c.args.told.now.point in
    let n = c.args.told.now.nozzle in
    let at = run_at p n c.args.runs.now.items c.in-Some.place
    (ap (run_place p n) (sym c.deref.ensures.value) ∙ sym c.find_run.ensures ∙ c.in-Some.is) in
    ap (λ run. run ∷ []) (c.settled_by.ensures
    ∙ ap (run_settled c.args.row) c.remove-run.ensures.value)
    ∙ sym (at.settles c.args.row c.remove-run.result)

pub returns-in-Some-clause-left : goal.returns-in-Some-clause-left
returns-in-Some-clause-left c =
    let p = c.args.told.now.point in
    let n = c.args.told.now.nozzle in
    let at = run_at p n c.args.runs.now.items c.in-Some.place
    (ap (run_place p n) (sym c.deref.ensures.value) ∙ sym c.find_run.ensures ∙ c.in-Some.is) in
    c.remove-run.ensures.items ∙ sym at.leaves

pub returns-in-None-clause-settled : goal.returns-in-None-clause-settled
returns-in-None-clause-settled c =
    let p = c.args.told.now.point in
    let n = c.args.told.now.nozzle in
    let none = no_run p n c.args.runs.now.items
    (ap (run_place p n) (sym c.deref.ensures.value) ∙ sym c.find_run.ensures ∙ c.in-None.is) in
    sym (none.settles c.args.row)

pub returns-in-None-clause-left : goal.returns-in-None-clause-left
returns-in-None-clause-left c =
    let p = c.args.told.now.point in
    let n = c.args.told.now.nozzle in
    let none = no_run p n c.args.runs.now.items
    (ap (run_place p n) (sym c.deref.ensures.value) ∙ sym c.find_run.ensures ∙ c.in-None.is) in
    sym none.leaves
