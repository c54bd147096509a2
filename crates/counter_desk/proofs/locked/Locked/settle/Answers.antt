use Rattle.std.proofs.Common.{OnOk, subst, List}
use Rattle.site_base.specs.declared.row.Row.{Row}
use Rattle.counter_desk.specs.Roots.{RootFacts}
use Rattle.counter_desk.specs.Settlement.{IsNoneStrange}
use Rattle.counter_desk.proofs.locked.Locked.settle.Goals as goal

pub returns-clause-none : goal.returns-clause-none
returns-clause-none g c =
    subst (λ (rows : List Row). OnOk c.add_up.result (IsNoneStrange rows c.args.root.now.lists))
    c.audit.ensures.rows
    (
    subst (λ (r : RootFacts). OnOk c.add_up.result (IsNoneStrange c.audit.new.self r.lists))
    c.audit.ensures.root
    c.add_up.ensures.none
    )
