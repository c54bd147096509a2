use Rattle.std.proofs.Common.{◌≡◌, ◌<◌, ◌^◌, ℕ, length, sym, ap, subst, ◌∙◌}
use Rattle.std.specs.List.{sum_by}
use Rattle.shift_ledger.specs.Shifts.{figures_of}
use Rattle.shift_ledger.proofs.ClosedShifts.{do_stay}
use Rattle.written_site.specs.ShiftFigures.{takings_in}
use Rattle.site_core.proofs.NotedDraws.{draws-open}
use Rattle.site_core.proofs.ShownFigures.{takings_shown}
use Rattle.site_core.proofs.accounts.Accounts.takings.Goals as goal
use Rattle.site_core.proofs.accounts.Accounts.takings.Goals.{In-Some}

-- the row's cents are those that were cleared in the open shift
told : (c : In-Some) → sum_by (λ (e : ℕ × ℕ). e.1) c.in-Some.row.tills
    ≡ takings_in (length c.args.self.now.drawn) c.args.self.now.sales
told c =
    let inside = c.self.inside in
    takings_shown c.open.result inside.sales.sales inside.shifts.shifts inside.tills
    c.in-Some.row c.self.invariant.figures (sym c.row.ensures ∙ c.in-Some.is)
    ∙ ap (λ h. takings_in h inside.sales.sales)
    (c.open.ensures ∙ sym (draws-open inside.shifts.shifts))
    ∙ ap (λ a. takings_in (length a.drawn) a.sales) c.self.view_is

pub sum_of_cents-requires : goal.sum_of_cents-requires
sum_of_cents-requires c =
    subst (λ (sum : ℕ). sum < 2 ^ 64) (sym (told (goal.at.sum_of_cents-requires c).In-Some))
    c.requires

pub unreachable-requires : goal.unreachable-requires
unreachable-requires c =
    let shifts = c.self.inside.shifts.shifts in
    let some = do_stay.shown shifts in
    let none = sym (ap (λ h. figures_of h shifts) c.open.ensures) ∙ sym c.row.ensures
    ∙ c.in-None.is in
    cc

pub returns : goal.returns
returns c = c.sum_of_cents.ensures ∙ told (goal.at.returns c).In-Some
