use Rattle.peer_connections.proofs.Pairing.{paired_released}
use Rattle.peer_connections.proofs.Reaching.{reaches_released}
use Rattle.peer_connections.proofs.Seeing.{seen_released}
use Rattle.peer_connections.proofs.connections.Connections.end_release.Goals as goal

pub returns-clause-moves : goal.returns-clause-moves
returns-clause-moves g c =
    let ended = c.end_release.ensures.station in
    reaches_released ended.0 ended.1 c.args.p _ _ ended.2 c.end_release.ensures.journal

pub invariant_of-self-clause-paired : goal.invariant_of-self-clause-paired
invariant_of-self-clause-paired g c =
    let ended = c.end_release.ensures.station in
    paired_released ended.0 ended.1 c.args.p _ c.args.self.now.stored.station _ ended.2
    c.args.self.now.paired

pub invariant_of-self-clause-seen : goal.invariant_of-self-clause-seen
invariant_of-self-clause-seen g c =
    let ended = c.end_release.ensures.station in
    seen_released _ ended.0 ended.1 c.args.p c.args.self.now.stored.station _ ended.2
    c.args.self.now.seen

pub invariant_of-self-clause-fed : goal.invariant_of-self-clause-fed
invariant_of-self-clause-fed g c =
    let ended = c.end_release.ensures.station in
    seen_released _ ended.0 ended.1 c.args.p c.args.self.now.stored.station _ ended.2
    c.args.self.now.fed
