use Rattle.std.proofs.Common.{rules}
use Rattle.peer_connections.proofs.Dues.{marked_more_keys}
use Rattle.peer_connections.proofs.due_list.DueList.add.Goals as goal

pub invariant_of-self : goal.invariant_of-self
invariant_of-self c =
    marked_more_keys _ _ _ _ c.self.invariant (search rules) (search rules)
