use Rattle.std.proofs.Common.{◌≡◌, ℕ, List, Some, None, get_or, ap, sym, subst, ◌∙◌}
use Rattle.fuelling_point.specs.KeptPoints.{Facts, FitsGrowth}
use Rattle.fuelling_point.specs.PointChecks.{refusal_of}
use Rattle.written_site.specs.SiteState.{facts_in}
use Rattle.written_site.proofs.SoundTables.{facts_there, numbers_kept}
use Rattle.std.proofs.Math.ListN.{set}
use Rattle.std.specs.Prelude.{nat_eq}
use Rattle.site_base.specs.Configured.{none_alike}
use Rattle.site_base.specs.Table.{with_row}
use Rattle.written_site.specs.Sound.{numbers_of}
use Rattle.site_core.proofs.points.Points.perform.Goals as goal
use Rattle.site_core.proofs.points.Points.perform.Goals.{After-index_mut}

-- what performs is what the point keeps
kept : (c : After-index_mut)
    → facts_in c.args.self.now c.args.point.now.number ≡ c.index_mut.result.now.1
kept c =
    let d = c.index_mut.result.now in
    facts_there c.args.self.now c.args.point.now.number d.1 (c.requires.found.row d
    ∙ ap (λ (ys : List (ℕ × Facts)). Some (get_or ys c.args.point.now.place d).1)
    (sym c.self.view_is)
    ∙ ap (λ (x : ℕ × Facts). Some x.1) (sym c.index_mut.ensures.value))

pub perform-requires-clause-accepted : goal.perform-requires-clause-accepted
perform-requires-clause-accepted c =
    let same = kept (goal.at.perform-requires-clause-accepted c).After-index_mut in
    subst (λ (f : Facts). refusal_of c.args.event f ≡ None) same c.requires.accepted

pub perform-requires-clause-fits : goal.perform-requires-clause-fits
perform-requires-clause-fits c =
    let same = kept (goal.at.perform-requires-clause-fits c).After-index_mut in
    subst (λ (f : Facts). FitsGrowth c.args.event f) same c.requires.fits

pub returns-clause-step : goal.returns-clause-step
returns-clause-step c =
    let same = kept (goal.at.returns-clause-step c).After-index_mut in
    rw same c.perform.ensures.step

-- no number moves
pub invariant_of-self : goal.invariant_of-self
invariant_of-self c =
    let items : List (ℕ × Facts) = c.self.inside.rows.items in
    let found = rw (← c.self.view_is) at c.requires.found in
    let written : with_row c.args.point.now.number c.perform.new.self items
    ≡ set items c.args.point.now.place (c.index_mut.result.now.0, c.perform.new.self) =
    found.write c.perform.new.self c.index_mut.result.now
    ∙ ap (λ (x : ℕ × Facts). set items c.args.point.now.place (x.0, c.perform.new.self))
    (sym c.index_mut.ensures.value) in
    ap (λ (ys : List (ℕ × Facts)). none_alike nat_eq (numbers_of ys)) (sym written)
    ∙ ap (none_alike nat_eq) (numbers_kept c.args.point.now.number c.perform.new.self items)
    ∙ c.self.invariant
