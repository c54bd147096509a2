use Rattle.peer_connections.proofs.Pairing.{paired_lost}
use Rattle.peer_connections.proofs.Reaching.{reaches_lost}
use Rattle.peer_connections.proofs.Seeing.{seen_lost}
use Rattle.peer_connections.proofs.connections.Connections.lose_dispenser.Goals as goal

pub returns-clause-moves : goal.returns-clause-moves
returns-clause-moves g c =
    let lost = c.lose_dispenser.ensures.station in
    reaches_lost lost.0 c.args.p _ _ lost.1 c.lose_dispenser.ensures.journal

pub invariant_of-self-clause-paired : goal.invariant_of-self-clause-paired
invariant_of-self-clause-paired g c =
    let lost = c.lose_dispenser.ensures.station in
    paired_lost lost.0 c.args.p _ c.args.self.now.stored.station _ lost.1
    c.args.self.now.paired

pub invariant_of-self-clause-seen : goal.invariant_of-self-clause-seen
invariant_of-self-clause-seen g c =
    let lost = c.lose_dispenser.ensures.station in
    seen_lost _ lost.0 c.args.p c.args.self.now.stored.station _ lost.1 c.args.self.now.seen

pub invariant_of-self-clause-fed : goal.invariant_of-self-clause-fed
invariant_of-self-clause-fed g c =
    let lost = c.lose_dispenser.ensures.station in
    seen_lost _ lost.0 c.args.p c.args.self.now.stored.station _ lost.1 c.args.self.now.fed
