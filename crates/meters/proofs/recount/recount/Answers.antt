use Rattle.std.proofs.Common.{rules}
use Rattle.meters.proofs.Bounds.{total_bound}
use Rattle.meters.proofs.recount.recount.Goals as goal

pub overflow_add-sum : goal.overflow_add-sum
overflow_add-sum c = let most = total_bound c.args.q c.args.meters.now c.requires in search rules
