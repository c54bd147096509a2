use Rattle.std.proofs.Common.{◌∙◌, ◌++◌, ◌∷◌, [], ap, arith, length, refl, set, sym}
use Rattle.row_tally.specs.Runs.{run_longer, run_place}
use Rattle.row_tally.proofs.Runs.{no_run, run_at}
use Rattle.row_tally.proofs.open_runs.add_refused.Goals as goal

pub index_mut-run-requires : goal.index_mut-run-requires
index_mut-run-requires c =
    let p = c.args.told.now.point in
    let n = c.args.told.now.nozzle in
    let at = run_at p n c.args.runs.now.items c.in-Some.found
    (ap (run_place p n) (sym c.deref.ensures.value) ∙ sym c.find_run.ensures ∙ c.in-Some.is) in
    omega (arith, at.within, c.deref.ensures.len, ap length c.deref.ensures.value)

pub returns-in-Some : goal.returns-in-Some
returns-in-Some c =
    let p = c.args.told.now.point in
    let n = c.args.told.now.nozzle in
    let at = run_at p n c.args.runs.now.items c.in-Some.found
    (ap (run_place p n) (sym c.deref.ensures.value) ∙ sym c.find_run.ensures ∙ c.in-Some.is) in
    ap (set c.args.runs.now.items c.in-Some.found)
    (c.go_on.ensures
    ∙ ap (run_longer c.args.place.now c.args.told.now c.args.refusal) c.index_mut-run.ensures.value)
    ∙ sym (at.longer c.args.place.now c.args.told.now c.args.expected c.args.refusal
    c.index_mut-run.result.now refl refl)

pub returns-in_ok-push-in-None : goal.returns-in_ok-push-in-None
returns-in_ok-push-in-None c =
    let p = c.args.told.now.point in
    let n = c.args.told.now.nozzle in
    let none = no_run p n c.args.runs.now.items
    (ap (run_place p n) (sym c.deref.ensures.value) ∙ sym c.find_run.ensures ∙ c.in-None.is) in
    c.in_ok-push-in-None.ensures.items
    ∙ ap (λ run. c.args.runs.now.items ++ run ∷ []) c.begin.ensures
    ∙ sym (none.begins c.args.place.now c.args.told.now c.args.expected c.args.refusal refl refl)
