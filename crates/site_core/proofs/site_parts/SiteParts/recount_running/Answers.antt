use Rattle.std.proofs.Common.{rules}
use Rattle.site_core.specs.SiteParts.{site_of}
use Rattle.site_core.proofs.CountedFigures.{sound_row, turn_fits}
use Rattle.site_core.proofs.site_parts.SiteParts.recount_running.Goals as goal

pub running_at-sum-requires : goal.running_at-sum-requires
running_at-sum-requires c =
    sound_row (site_of c.args.self.now) c.rows-p-items.result.now c.loop-p.p-index
    c.loop-p-item.result c.requires c.rows-p-items.ensures c.loop-p-test.true c.loop-p-item.is

pub overflow_add-sum : goal.overflow_add-sum
overflow_add-sum c =
    let most =
    turn_fits (site_of c.args.self.now) c.args.q c.rows-p-items.result.now c.loop-p.p-index
    c.loop-p-item.result c.loop-p.sum c.running_at-sum.result c.requires c.loop-p-test.true
    c.loop-p-item.is c.loop-p.invariant c.running_at-sum.ensures in
    search (rules, most)
