use Rattle.std.proofs.Common.{◌≡◌, ◌+◌, ◌<◌, ℕ, ◌++◌, ◌∷◌, [], length, sym, ap, ◌∙◌, get_or, None}
use Rattle.std.proofs.Common.{append-nil, append_assoc, arith}
use Rattle.std.proofs.lemmas.List.{get_or_default}
use Rattle.site_base.specs.Cells.{entries_from}
use Rattle.site_base.proofs.Cells.{entries_of_cells}
use Rattle.site_base.specs.PointSets.{has_point}
use Rattle.fuelling_point.specs.Holds.{is_held_by, points_of}
use Rattle.fuelling_point.proofs.Members.{members, no_members, first_of_members, all_held}
use Rattle.fuelling_point.proofs.claims.Claims.held_by.Goals as goal

pub loop-p-preserved : goal.loop-p-preserved
loop-p-preserved c =
    let first : members c.loop-p.left ≡ c.in-Some.p ∷ members c.remove.new.self =
    first_of_members c.in-Some.p c.loop-p.left c.remove.new.self c.in-Some.ensures.range.0
    c.in-Some.ensures.range.1 c.in-Some.ensures.member c.in-Some.ensures.lowest
    c.remove.ensures.others in
    ap (λ xs. xs ++ members c.remove.new.self) c.in_ok-push.ensures.items
    ∙ append_assoc c.loop-p.points.items (c.in-Some.p ∷ []) (members c.remove.new.self)
    ∙ ap (λ xs. c.loop-p.points.items ++ xs) (sym first) ∙ c.loop-p.invariant

pub returns : goal.returns
returns c =
    let cells = c.self.inside.holders in
    let set = get_or c.self.inside.held c.cell.result c.index-self-cell.result in
    let read : set ≡ get_or c.self.inside.held c.cell.result 0 =
    get_or_default c.self.inside.held c.cell.result _ _ (omega arith) in
    let his : (i : ℕ) → i < length cells
    → has_point (i + 1) set ≡ is_held_by c.args.t (get_or cells i None) =
    λ i within. ap (has_point (i + 1)) read
    ∙ c.self.invariant.same i c.cell.result (omega (arith, c.self.invariant.cells)) (omega arith)
    ∙ ap (λ t. is_held_by t (get_or cells i None)) c.cell.ensures.place in
    let held : members set ≡ points_of c.args.t (entries_from 1 cells) =
    all_held c.args.t set cells c.self.invariant.cells his in
    rw (← c.self.view_is) (sym (append-nil c.loop-p.points.items)
    ∙ ap (λ xs. c.loop-p.points.items ++ xs)
    (sym (no_members c.loop-p.left c.in_default.ensures.empty))
    ∙ c.loop-p.invariant ∙ held ∙ ap (points_of c.args.t) (sym (entries_of_cells cells)))
