use Rattle.peer_connections.proofs.Reaching.{goes_then}
use Rattle.peer_connections.proofs.connections.Connections.store_and_end.Goals as goal

pub returns-clause-journal : goal.returns-clause-journal
returns-clause-journal g c =
    goes_then _ _ _ c.store.ensures.journal c.end_chapter.ensures.journal
