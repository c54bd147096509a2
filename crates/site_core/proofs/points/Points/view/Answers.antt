use Rattle.std.proofs.Common.{◌≡◌, ℕ, List, Some, None, get_or, ap, sym, ◌∙◌}
use Rattle.fuelling_point.specs.KeptPoints.{Facts, point_view}
use Rattle.written_site.specs.SiteState.{facts_in}
use Rattle.written_site.proofs.SoundTables.{facts_there}
use Rattle.site_core.proofs.points.Points.view.Goals as goal

pub returns : goal.returns
returns c =
    let d = c.index.result.now in
    let same : facts_in c.args.self.now c.args.point.now.number ≡ d.1 =
    facts_there c.args.self.now c.args.point.now.number d.1 (c.requires.row d
    ∙ ap (λ (ys : List (ℕ × Facts)). Some (get_or ys c.args.point.now.place d).1)
    (sym c.self.view_is)
    ∙ ap (λ (x : ℕ × Facts). Some x.1) (sym c.index.ensures)) in
    c.view.ensures.view ∙ ap (λ (f : Facts). point_view f None) (sym same)
