use Rattle.std.proofs.Common.{◌≡◌, ℕ, List, Some, get_or, ap, sym, ◌∙◌}
use Rattle.fuelling_point.specs.KeptPoints.{Facts}
use Rattle.written_site.specs.SiteState.{facts_in}
use Rattle.written_site.proofs.SoundTables.{facts_there}
use Rattle.site_core.proofs.points.Points.judge.Goals as goal
use Rattle.site_core.proofs.points.Points.judge.Goals.{After-judge}

-- what is judged is what the point keeps
judged : (c : After-judge)
    → facts_in c.args.self.now c.args.point.now.number ≡ c.index.result.now.1
judged c =
    let d = c.index.result.now in
    facts_there c.args.self.now c.args.point.now.number d.1 (c.requires.row d
    ∙ ap (λ (ys : List (ℕ × Facts)). Some (get_or ys c.args.point.now.place d).1)
    (sym c.self.view_is)
    ∙ ap (λ (x : ℕ × Facts). Some x.1) (sym c.index.ensures))

pub returns-clause-accepted : goal.returns-clause-accepted
returns-clause-accepted c =
    let same = judged (goal.at.returns-clause-accepted c).After-judge in
    rw same c.judge.ensures.accepted

pub returns-clause-refused : goal.returns-clause-refused
returns-clause-refused c =
    let same = judged (goal.at.returns-clause-refused c).After-judge in
    rw same c.judge.ensures.refused
