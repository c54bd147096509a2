use Rattle.std.proofs.Common.{◌≡◌, ◌||◌, ◌==◌, true, None, ap, sym, ◌∙◌, get_or, arith}
use Rattle.std.proofs.lemmas.List.{get_or_default}
use Rattle.site_base.specs.PointSets.{has_point, IsWith}
use Rattle.site_base.proofs.Cells.{cell_filled, cell_read}
use Rattle.fuelling_point.specs.Holds.{is_free_for}
use Rattle.fuelling_point.proofs.Index.{taken}
use Rattle.fuelling_point.proofs.claims.Claims.take.Goals as goal

pub returns : goal.returns
returns c =
    rw (← c.self.view_is) (cell_filled c.self.inside.holders c.cell.result c.args.p c.args.t
    c.cell.ensures.place (omega arith))

pub invariant_of-self : goal.invariant_of-self
invariant_of-self c =
    let held = c.self.inside.held in
    let k = c.cell-place.result in
    let read : get_or held k c.index-self-place.result ≡ get_or held k 0 =
    get_or_default held k _ _ (omega arith) in
    let with : IsWith c.args.p (get_or held k 0) c.insert.new.self =
    λ q low high. c.insert.ensures q low high ∙ ap (λ x. q == c.args.p || has_point q x) read in
    let free = rw (← c.self.view_is) at c.requires in
    let is : is_free_for c.args.t (get_or c.self.inside.holders c.cell.result None) ≡ true =
    ap (is_free_for c.args.t) (sym (cell_read c.self.inside.holders c.cell.result c.args.p
    c.cell.ensures.place (omega arith))) ∙ free in
    taken c.self.inside.holders held c.cell.result k c.args.p c.args.t c.insert.new.self
    c.self.invariant c.cell.ensures.place c.cell-place.ensures.place (omega arith) (omega arith)
    is with
