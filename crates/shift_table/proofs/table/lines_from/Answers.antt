use Rattle.std.proofs.Common.{◌+◌, ◌++◌, ℕ, List, sym, ap, ◌∙◌}
use Rattle.shift_table.specs.ShiftTable.{line_at, lines_from}
use Rattle.shift_table.proofs.EachNumber.{one_more}
use Rattle.shift_table.proofs.table.lines_from.Goals as goal

pub loop-behind-preserved : goal.loop-behind-preserved
loop-behind-preserved c =
    let line : ℕ → List ℕ = line_at c.args.form c.args.book.now c.args.read.now in
    c.in_ok-put_shift.ensures
    ∙ ap (λ (t : List ℕ). t ++ line c.in-Some.number) c.loop-behind.invariant
    ∙ ap (λ (n : ℕ). lines_from c.args.form c.args.book.now c.args.read.now c.args.first
    c.loop-behind.behind ++ line n)
    (c.in-Some.ensures.value ∙ ap (λ (k : ℕ). k + c.loop-behind.behind) c.get.ensures.value)
    ∙ sym (one_more line c.args.first c.loop-behind.behind)
