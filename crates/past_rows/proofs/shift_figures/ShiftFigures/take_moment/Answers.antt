use Rattle.std.proofs.Common.{◌≡◌, ◌∙◌, ◌+◌, Option, ap, subst, sym}
use Rattle.site_base.specs.declared.totals.Totals.{Totals}
use Rattle.past_rows.specs.ShiftFigures.{FiguresState, IsTaken}
use Rattle.past_rows.proofs.RowsBefore.{on_ok_then}
use Rattle.past_rows.proofs.shift_figures.ShiftFigures.take_moment.Goals as goal

pub returns-clause-next : goal.returns-clause-next
returns-clause-next c =
    on_ok_then c.take_totals-2.result _ _
    (λ after earlier met next.
    let so = subst (λ (f : FiguresState). IsTaken f.shifts.first earlier f.before
    × IsTaken (f.shifts.last + 1) earlier f.after) (sym c.self.view_is) (met.before, met.after) in
    record {
      before = subst (λ n. IsTaken n c.args.book.now c.take_totals.new.taken) c.get.ensures.value
          (c.in_ok-take_totals.ensures.next earlier
          (subst (λ n. IsTaken n earlier c.self.inside.before) (sym c.get.ensures.value) so.0)
          next);
      after = subst (λ n. IsTaken (n + 1) c.args.book.now c.take_totals-2.new.taken)
          c.get-2.ensures.value
          (after earlier
          (subst (λ n. IsTaken (n + 1) earlier c.self.inside.after) (sym c.get-2.ensures.value)
          so.1) next);
    }) c.take_totals-2.ensures.next
