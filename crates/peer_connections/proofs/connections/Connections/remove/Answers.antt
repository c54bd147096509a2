use Rattle.peer_connections.proofs.Pairing.{paired_gone}
use Rattle.peer_connections.proofs.Seeing.{seen_left}
use Rattle.peer_connections.proofs.connections.Connections.remove.Goals as goal

pub invariant_of-self-clause-seen : goal.invariant_of-self-clause-seen
invariant_of-self-clause-seen g c =
    seen_left _ c.args.key c.args.self.now.stored _ c.leave.ensures c.args.self.now.seen

pub invariant_of-self-clause-fed : goal.invariant_of-self-clause-fed
invariant_of-self-clause-fed g c =
    seen_left _ c.args.key c.args.self.now.stored _ c.leave.ensures c.args.self.now.fed

pub invariant_of-self-clause-paired : goal.invariant_of-self-clause-paired
invariant_of-self-clause-paired g c =
    paired_gone c.args.key c.args.self.now.links.items c.args.self.now.stored _ c.leave.ensures
    c.args.self.now.paired
