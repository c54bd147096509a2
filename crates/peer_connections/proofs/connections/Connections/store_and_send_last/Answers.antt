use Rattle.std.proofs.Common.{ap}
use Rattle.peer_connections.proofs.Others.{continue_from}
use Rattle.peer_connections.proofs.Reaching.{reaches_kept, reaches_then}
use Rattle.peer_connections.proofs.connections.Connections.store_and_send_last.Goals as goal

pub returns-clause-moves : goal.returns-clause-moves
returns-clause-moves g c =
    reaches_then _ _ _ _
    (reaches_kept _ _ _ c.store.ensures.station c.store.ensures.journal)
    c.send_last_to_all.ensures.moves

pub returns-clause-streams : goal.returns-clause-streams
returns-clause-streams g c =
    continue_from _ c.args.self.now.stored c.store.new.self.stored
    c.send_last_to_all.new.self.stored _ _ _ c.store.ensures.station c.in_ok-store.ensures.stored
    (ap (λ x. x.items) c.store.ensures.links) c.send_last_to_all.ensures.streams
