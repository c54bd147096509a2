use Rattle.std.proofs.Common.{◌≡◌, ℕ, ◌+◌, List, sym, subst}
use Rattle.transaction_buffer.specs.Sales.{Sale}
use Rattle.transaction_buffer.specs.Sums.{sum_among, volume_locked_by}
use Rattle.transaction_buffer.specs.UnpaidPlaces.{figure_at}
use Rattle.transaction_buffer.proofs.SumsAfter.{can_first, can_second, moved_twice}
use Rattle.transaction_buffer.proofs.TwoPlaces.{locked_at_places}
use Rattle.transaction_buffer.proofs.shelf.Shelf.unlock_sums.Goals as goal
use Rattle.transaction_buffer.proofs.shelf.Shelf.unlock_sums.Goals.{After-deref-sales}

-- what the till has locked at the one place, at the other, and among all sales
abbrev at_one : After-deref-sales → ℕ → ℕ
at_one c q =
    figure_at (volume_locked_by q c.args.t) c.self.inside.unpaid.one c.deref-sales.result.now

abbrev at_other : After-deref-sales → ℕ → ℕ
at_other c q =
    figure_at (volume_locked_by q c.args.t) c.self.inside.unpaid.other c.deref-sales.result.now

abbrev at_both : After-deref-sales → ℕ → ℕ
at_both c q = sum_among (volume_locked_by q c.args.t) c.self.inside.sales.items

parts : (c : After-deref-sales) (q : ℕ) → at_both c q ≡ at_one c q + at_other c q
parts c q = subst
    (λ (ys : List Sale). sum_among (volume_locked_by q c.args.t) c.self.inside.sales.items
    ≡ figure_at (volume_locked_by q c.args.t) c.self.inside.unpaid.one ys
    + figure_at (volume_locked_by q c.args.t) c.self.inside.unpaid.other ys)
    (sym c.deref-sales.ensures.value)
    (locked_at_places q c.args.t c.self.inside.sales.items c.self.inside.unpaid.one
    c.self.inside.unpaid.other c.self.invariant.places)

pub unlock_sum_at-requires : goal.unlock_sum_at-requires
unlock_sum_at-requires c =
    let d = (goal.at.unlock_sum_at-requires c).After-deref-sales in
    let required = rw (← c.self.view_is) at c.requires in
    can_first (at_one d) (at_other d) (at_both d) (parts d) c.args.sums.now c.args.sums.now required

pub unlock_sum_at-requires-2 : goal.unlock_sum_at-requires-2
unlock_sum_at-requires-2 c =
    let d = (goal.at.unlock_sum_at-requires-2 c).After-deref-sales in
    let required = rw (← c.self.view_is) at c.requires in
    can_second (at_one d) (at_other d) (at_both d) (parts d) c.args.sums.now
    c.unlock_sum_at.new.sums required c.unlock_sum_at.ensures

pub returns : goal.returns
returns c =
    let d = (goal.at.returns c).After-deref-sales in
    rw (← c.self.view_is)
    (moved_twice (at_one d) (at_other d) (at_both d) (parts d) c.args.sums.now
    c.unlock_sum_at.new.sums c.unlock_sum_at-2.new.sums c.unlock_sum_at.ensures
    c.unlock_sum_at-2.ensures)
