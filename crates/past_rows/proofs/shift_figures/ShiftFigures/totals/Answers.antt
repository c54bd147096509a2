use Rattle.std.proofs.Common.{◌≡◌, ◌∙◌, ◌+◌, None, Option, Some, ap, subst, sym}
use Rattle.site_base.specs.declared.totals.Totals.{Totals}
use Rattle.past_rows.specs.ShiftFigures.{FiguresState, IsTaken}
use Rattle.past_rows.proofs.RowsBefore.{ends_taken, products_of_shifts}
use Rattle.past_rows.proofs.shift_figures.ShiftFigures.totals.Goals.{in-Some-after+in_ok-totals-in-Some-after}
use Rattle.past_rows.proofs.shift_figures.ShiftFigures.totals.Goals.{in-None+in_ok-totals-in-None+in_ok-totals-in-None-2}
use Rattle.past_rows.proofs.shift_figures.ShiftFigures.totals.Goals as goal

pub returns-clause-figures : goal.returns-clause-figures
returns-clause-figures c = λ met.
    let b = c.args.book.now in
    let shifts = c.args.self.now.shifts in
    let before = subst (λ (o : Option Totals). IsTaken shifts.first b o)
    (sym (ap (λ (f : FiguresState). f.before) c.self.view_is) ∙ c.in-Some.is) met.before in
    elim c.match-self-2.branch [
      | in-Some-after+in_ok-totals-in-Some-after w ↦ record {
        before = c.in-Some.before;
        after = w.in-Some-after.after;
        begins = before.1;
        ends = (subst (λ (o : Option Totals). IsTaken (shifts.last + 1) b o)
            (sym (ap (λ (f : FiguresState). f.after) c.self.view_is) ∙ w.in-Some-after.is)
            met.after).1;
        between = w.totals-is ∙ w.in_ok-totals-in-Some-after.ensures;
      }
      | in-None+in_ok-totals-in-None+in_ok-totals-in-None-2 w ↦ record {
        before = c.in-Some.before;
        after = w.in_ok-totals-in-None.field-0;
        begins = before.1;
        ends = ends_taken (shifts.last + 1) b w.in_ok-totals-in-None.field-0
            (subst (λ (o : Option Totals). IsTaken (shifts.last + 1) b o)
            (sym (ap (λ (f : FiguresState). f.after) c.self.view_is) ∙ w.in-None.is) met.after)
            w.in_ok-totals-in-None.ensures.figures;
        between = w.totals-is ∙ w.in_ok-totals-in-None-2.ensures;
      }
    ]

pub returns-clause-products : goal.returns-clause-products
returns-clause-products c = λ met.
    products_of_shifts c.args.self.now.shifts c.args.book.now c.match-self-2.totals
    (returns-clause-figures c met)
