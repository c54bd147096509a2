use Rattle.std.proofs.Common.{◌≡◌, List, ℕ, get_or, is_some, sym, ap, ◌∙◌, arith}
use Rattle.site_base.specs.Table.{IsPlace}
use Rattle.fuelling_point.specs.KeptPoints.{Facts}
use Rattle.written_site.proofs.SoundTables.{same}
use Rattle.site_core.proofs.PointPlaces.{alone_place}
use Rattle.site_core.proofs.points.Points.place.Goals as goal
use Rattle.site_core.proofs.points.Points.place.Goals.{Then-eq}

-- the row that the hint tells is the point's
hinted : (c : Then-eq) → IsPlace (λ n. n) c.args.p c.self.inside.rows.items
    (get_or c.self.inside.hints c.cell.result 0)
hinted c =
    let items : List (ℕ × Facts) = c.self.inside.rows.items in
    let at : (get_or items (get_or c.self.inside.hints c.cell.result 0) c.index.result.now).0
    ≡ c.args.p =
    ap (λ (x : ℕ × Facts). x.0) (sym c.index.ensures)
    ∙ same c.index.result.now.0 c.args.p (sym c.if-eq.ensures) in
    alone_place c.args.p items (get_or c.self.inside.hints c.cell.result 0)
    c.index.result.now c.self.invariant (omega arith) at

pub returns-then-eq-clause-found : goal.returns-then-eq-clause-found
returns-then-eq-clause-found c =
    rw (← c.self.view_is) (hinted (goal.at.returns-then-eq-clause-found c).Then-eq)

pub returns-then-eq-clause-there : goal.returns-then-eq-clause-there
returns-then-eq-clause-there c =
    rw (← c.self.view_is) (sym (ap is_some
    ((hinted (goal.at.returns-then-eq-clause-there c).Then-eq).row c.index.result.now)))
