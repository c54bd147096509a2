use Rattle.std.proofs.Common.{◌≡◌, ◌&&◌, ◌==◌, not, None, Some, ap, sym, ◌∙◌, get_or, arith}
use Rattle.std.proofs.Math.ListN.{set}
use Rattle.std.proofs.lemmas.List.{get_or_default, set-get_or}
use Rattle.site_base.specs.PointSets.{has_point, IsWithout}
use Rattle.site_base.proofs.Cells.{cell_emptied, map_in}
use Rattle.fuelling_point.proofs.Index.{freed, none_there}
use Rattle.fuelling_point.proofs.claims.Claims.free.Goals as goal

pub returns-in_default : goal.returns-in_default
returns-in_default c =
    let cells = c.self.inside.holders in
    let none : get_or cells c.cell-cell.result None ≡ None =
    none_there (get_or cells c.cell-cell.result None) (λ x is. c.in_default.not-Some x
    (get_or_default cells c.cell-cell.result _ _ (omega arith) ∙ is)) in
    rw (← c.self.view_is)
    (ap map_in (sym (set-get_or cells c.cell-cell.result None)
    ∙ ap (set cells c.cell-cell.result) none)
    ∙ cell_emptied cells c.cell-cell.result c.args.p c.cell-cell.ensures.place (omega arith))

pub returns : goal.returns
returns c =
    rw (← c.self.view_is) (cell_emptied c.self.inside.holders c.cell-cell.result c.args.p
    c.cell-cell.ensures.place (omega arith))

pub invariant_of-self : goal.invariant_of-self
invariant_of-self c =
    let held = c.self.inside.held in
    let k = c.cell-place.result in
    let read : get_or held k c.index-self-place.result ≡ get_or held k 0 =
    get_or_default held k _ _ (omega arith) in
    let without : IsWithout c.args.p (get_or held k 0) c.remove.new.self =
    λ q low high. c.remove.ensures.others q low high
    ∙ ap (λ x. not (q == c.args.p) && has_point q x) read in
    let his : get_or c.self.inside.holders c.cell-cell.result None ≡ Some c.in-Some.t =
    get_or_default c.self.inside.holders c.cell-cell.result _ _ (omega arith) ∙ c.in-Some.is in
    freed c.self.inside.holders held c.cell-cell.result k c.args.p c.in-Some.t c.remove.new.self
    c.self.invariant c.cell-cell.ensures.place c.cell-place.ensures.place (omega arith)
    (omega arith)
    his without
