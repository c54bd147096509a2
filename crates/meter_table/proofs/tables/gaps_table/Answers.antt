use Rattle.std.proofs.Common.{◌≡◌, ◌∙◌, ◌++◌, List, [], ap, drop, flat_map, sym}
use Rattle.std.proofs.lemmas.List.{append-nil, drop_all}
use Rattle.meter_table.specs.declared.gap.Replacement.{Replacement}
use Rattle.meter_table.specs.Tables.{gap_titles, head_text, replaced_text, run_text}
use Rattle.meter_table.proofs.tables.gaps_table.Goals as goal

pub returns : goal.returns
returns c = λ told.
    let form = c.args.form in
    let g = c.args.gaps.now in
    let replaced : List Replacement = c.replaced-x-items.result.now in
    let none_left : drop c.loop-x.x-index replaced ≡ [] =
    drop_all c.loop-x.x-index replaced c.loop-x-test.false in
    let all : c.loop-x.text.items
    ≡ head_text form gap_titles ++ flat_map (replaced_text form) g.replaced =
    sym (append-nil c.loop-x.text.items)
    ∙ ap (λ (xs : List Replacement). c.loop-x.text.items ++ flat_map (replaced_text form) xs)
    (sym none_left)
    ∙ c.loop-x.invariant told
    ∙ ap (λ (xs : List Replacement). head_text form gap_titles ++ flat_map (replaced_text form) xs)
    c.replaced-x-items.ensures in
    c.in_ok-put_runs-2.ensures told
    ∙ ap (λ xs. c.put_runs.new.text.items ++ flat_map (run_text form) xs) c.unsettled.ensures
    ∙ ap (λ t. t ++ flat_map (run_text form) g.unsettled)
    (c.in_ok-put_runs.ensures told
    ∙ ap (λ xs. c.loop-x.text.items ++ flat_map (run_text form) xs) c.settled.ensures
    ∙ ap (λ t. t ++ flat_map (run_text form) g.settled) all)
