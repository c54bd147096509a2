use Rattle.std.proofs.Common.{◌≡◌, ℕ, ◌+◌, ◌<◌, ◌^◌, Some, None, true, length, get_or, sym, ap}
use Rattle.std.proofs.Common.{subst, ◌∙◌, rules}
use Rattle.shift_ledger.specs.Figures.{FitsClear}
use Rattle.shift_ledger.specs.Shifts.{after_clear, open_number}
use Rattle.transaction_buffer.specs.declared.request.Request.{Request}
use Rattle.transaction_buffer.specs.declared.request.Request.TheVariants.{Clear}
use Rattle.transaction_buffer.specs.Clears.{FitsOneClear}
use Rattle.transaction_buffer.specs.FoundSales.{key_of}
use Rattle.transaction_buffer.specs.Sales.{Sale, Sales}
use Rattle.transaction_buffer.specs.TransactionTable.{after_request, refusal_of}
use Rattle.written_site.specs.FigureSteps.{HasClear}
use Rattle.site_core.specs.Accounts.{AreFigures, FitsGrant, draws_of, total_of, with_one_more}
use Rattle.site_core.proofs.AccountFigures.{sales_kept}
use Rattle.site_core.proofs.AskedClears.{IsOneClear, accepted_clear, unpaid_keeps}
use Rattle.site_core.proofs.ClearedOnce.{clear_draws, clear_fits, cleared_once, one_more}
use Rattle.site_core.proofs.NotedDraws.{draws-open}
use Rattle.site_core.proofs.NumberedCells.{member_at}
use Rattle.site_core.proofs.accounts.Accounts.grant.Goals as goal
use Rattle.site_core.proofs.accounts.Accounts.grant.Goals.{After-view-view}

pub invariant_of-self : goal.invariant_of-self
invariant_of-self c =
    let inside = c.self.inside in
    record {
      figures = rw c.grant.ensures.sales (sales_kept inside.sales.sales _ inside.shifts.shifts
          inside.tills
          (unpaid_keeps c.args.request.now c.args.t (key_of c.args.sale.now) inside.sales.sales
          c.in_default.not-Clear) c.self.invariant.figures);
      drawn = c.self.invariant.drawn;
    }

-- what fits is a clear in the open shift
asks : (c : After-view-view)
    → FitsGrant (Clear c.in-Clear.field-0) c.args.t (key_of c.args.sale.now)
    c.self.inside.sales.sales (draws_of c.self.inside.shifts.shifts)
asks c =
    let required = rw (← c.self.view_is) at c.requires.fits in
    subst (λ (r : Request). FitsGrant r c.args.t (key_of c.args.sale.now)
    c.self.inside.sales.sales (draws_of c.self.inside.shifts.shifts)) c.in-Clear.is required

-- the sale that is cleared
cleared : (c : After-view-view)
    → (x : Sale) × IsOneClear c.in-Clear.field-0 c.args.t (key_of c.args.sale.now)
    c.self.inside.sales.sales c.view-view.result x
cleared c =
    let sales : Sales = c.self.inside.sales.sales in
    let k = key_of c.args.sale.now in
    let required = rw (← c.self.view_is) at c.requires.accepted in
    accepted_clear c.in-Clear.field-0 c.args.t k sales c.view-view.result
    (ap (λ (r : Request). refusal_of r c.args.t k sales) (sym c.in-Clear.is) ∙ required)
    c.view-view.ensures

-- its figures fit, and the totals with it
fits : (c : After-view-view)
    → FitsClear c.args.t c.view-view.result.product c.view-view.result.volume
    c.view-view.result.cents c.self.inside.shifts.shifts.current
    × ((total_of c.args.t c.self.inside.tills).0 + 1 < 2 ^ 64)
    × ((total_of c.args.t c.self.inside.tills).1 + c.view-view.result.cents < 2 ^ 64)
fits c =
    let inside = c.self.inside in
    let sales = c.self.inside.sales.sales in
    let x = cleared c in
    let one : FitsOneClear (open_number inside.shifts.shifts) c.args.t x.0 sales =
    subst (λ h. FitsOneClear h c.args.t x.0 sales) (draws-open inside.shifts.shifts)
    ((asks c).1 x.0 x.1.there x.1.unpaid) in
    subst (λ view. FitsClear c.args.t view.product view.volume view.cents
    inside.shifts.shifts.current
    × ((total_of c.args.t inside.tills).0 + 1 < 2 ^ 64)
    × ((total_of c.args.t inside.tills).1 + view.cents < 2 ^ 64)) x.1.shows
    (clear_fits sales inside.shifts.shifts inside.tills c.args.t x.0 c.self.invariant.figures one)

pub note_cleared-requires : goal.note_cleared-requires
note_cleared-requires c =
    rw (c.get.ensures.value, c.get-cents.ensures.value)
    (fits (goal.at.note_cleared-requires c).After-view-view).0

pub overflow_add-self : goal.overflow_add-self
overflow_add-self c =
    let tills = c.self.inside.tills in
    let at = member_at c.args.t c.cell-cell.result tills (0, 0) c.cell-cell.ensures.place in
    let small : (get_or tills c.cell-cell.result (0, 0)).0 + 1 < 2 ^ 64 =
    subst (λ (e : ℕ × ℕ). e.0 + 1 < 2 ^ 64) at
    (fits (goal.at.overflow_add-self c).After-view-view).1 in
    search (rules, small)

pub overflow_add-self-2 : goal.overflow_add-self-2
overflow_add-self-2 c =
    let tills = c.self.inside.tills in
    let at = member_at c.args.t c.cell-cell.result tills (0, 0) c.cell-cell.ensures.place in
    let small : (get_or tills c.cell-cell.result (0, 0)).1 + c.view-view.result.cents < 2 ^ 64 =
    subst (λ (e : ℕ × ℕ). e.1 + c.view-view.result.cents < 2 ^ 64) at
    (fits (goal.at.overflow_add-self-2 c).After-view-view).2 in
    rw c.get-cents.ensures.value (search (rules, small))

pub invariant_of-self-2 : goal.invariant_of-self-2
invariant_of-self-2 c =
    let d = (goal.at.invariant_of-self-2 c).After-view-view in
    let inside = c.self.inside in
    let sales : Sales = inside.sales.sales in
    let shifts = inside.shifts.shifts in
    let k = key_of c.args.sale.now in
    let new = c.grant-2.new.self.sales in
    let view = c.view-view.result in
    let x = cleared d in
    let shift : c.in-Clear.field-0 ≡ open_number shifts = (asks d).0 ∙ draws-open shifts in
    let leads : after_request (Clear c.in-Clear.field-0) c.args.t k sales ≡ new =
    ap (λ (r : Request). after_request r c.args.t k sales) (sym c.in-Clear.is)
    ∙ sym c.grant-2.ensures.sales in
    let counts : HasClear sales new c.args.t (open_number shifts) x.0 =
    subst (λ s. HasClear sales s c.args.t (open_number shifts) x.0) leads
    (subst (λ h. HasClear sales (after_request (Clear c.in-Clear.field-0) c.args.t k sales)
    c.args.t h x.0) shift x.1.counts) in
    let noted : AreFigures new (after_clear c.args.t view.product view.volume view.cents shifts)
    (with_one_more c.args.t view.cents inside.tills) =
    subst (λ v. AreFigures new (after_clear c.args.t v.product v.volume v.cents shifts)
    (with_one_more c.args.t v.cents inside.tills)) x.1.shows
    (cleared_once sales new shifts inside.tills c.args.t x.0 counts c.self.invariant.figures) in
    let more = one_more c.args.t c.cell-cell.result view.cents inside.tills
    c.cell-cell.ensures.place in
    rw (c.note_cleared.ensures.shifts, c.get.ensures.value, c.get-cents.ensures.value) (record {
      figures = subst (λ tills. AreFigures new
          (after_clear c.args.t view.product view.volume view.cents shifts) tills) more noted;
      drawn = clear_draws c.args.t view.product view.volume view.cents shifts inside.drawn
          c.self.invariant.drawn;
    })
