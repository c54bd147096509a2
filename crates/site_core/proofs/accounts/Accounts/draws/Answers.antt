use Rattle.std.proofs.Common.{option_map, sym, ap, ◌∙◌}
use Rattle.site_base.specs.Members.{member}
use Rattle.site_core.proofs.ShownFigures.{draws_shown}
use Rattle.site_core.proofs.accounts.Accounts.draws.Goals as goal

pub returns-in-Some : goal.returns-in-Some
returns-in-Some c =
    ap (option_map (λ row. row.adjusted)) (sym c.in-Some.is ∙ c.shift.ensures)
    ∙ draws_shown c.args.n c.args.self.now.sales (member c.args.n c.args.self.now.drawn)

pub returns-in-None : goal.returns-in-None
returns-in-None c =
    ap (option_map (λ row. row.adjusted)) (sym c.in-None.is ∙ c.shift.ensures)
    ∙ draws_shown c.args.n c.args.self.now.sales (member c.args.n c.args.self.now.drawn)
