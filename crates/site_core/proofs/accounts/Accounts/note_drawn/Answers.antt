use Rattle.std.proofs.Common.{◌+◌, ◌<◌, ◌^◌, ap, arith, ◌∙◌}
use Rattle.written_site.specs.SiteStep.{draw_noted}
use Rattle.written_site.specs.Volumes.{drawn_of}
use Rattle.site_core.specs.Accounts.{draws_of}
use Rattle.site_core.proofs.AccountFigures.{draw_kept}
use Rattle.site_core.proofs.NotedDraws.{draws-noted, figure_bound, kept_noted}
use Rattle.site_core.proofs.accounts.Accounts.note_drawn.Goals as goal

pub note_drawn-requires : goal.note_drawn-requires
note_drawn-requires c =
    let shifts = c.self.inside.shifts.shifts in
    let bound = figure_bound shifts c.self.inside.drawn c.args.q c.self.invariant.drawn
    (omega (arith, c.cell-cell.ensures.place))
    (omega (arith, c.cell-cell.ensures.place, c.cell-cell.ensures.within)) in
    let fits = rw (← c.self.view_is) at c.requires in
    omega (arith, bound, fits)

pub invariant_of-self : goal.invariant_of-self
invariant_of-self c =
    let inside = c.self.inside in
    record {
      figures = rw c.note_drawn.ensures.shifts (draw_kept c.args.q c.args.volume
          inside.sales.sales inside.shifts.shifts inside.tills c.self.invariant.figures);
      drawn = rw c.note_drawn.ensures.shifts (kept_noted inside.shifts.shifts inside.drawn
          c.args.q c.cell-cell.result c.args.volume c.self.invariant.drawn
          c.cell-cell.ensures.place c.cell-cell.ensures.within c.self.told);
    }

pub returns-clause-drawn : goal.returns-clause-drawn
returns-clause-drawn c =
    ap draws_of c.note_drawn.ensures.shifts
    ∙ draws-noted c.self.inside.shifts.shifts c.args.q c.args.volume
    ∙ ap (λ a. draw_noted c.args.q c.args.volume a.drawn) c.self.view_is
