use Rattle.peer_connections.proofs.Reaching.{reaches_kept, reaches_over, reaches_same, reaches_taken}
use Rattle.peer_connections.proofs.Reaching.{reaches_then}
use Rattle.peer_connections.proofs.connections.Connections.end_all.Goals as goal

pub returns-in_err-stored-clause-moves : goal.returns-in_err-stored-clause-moves
returns-in_err-stored-clause-moves g c =
    reaches_then _ _ _ _ (reaches_over _ _ c.finish_all.ensures.moves)
    (reaches_then _ _ _ _ (reaches_taken _ _ c.store_and_send_last-stored.ensures.moves)
    (reaches_then _ _ _ _ (reaches_same _ _ _ c.shut_all.ensures) c.remove_all.ensures.moves))

-- each row was stored
pub returns-in_err-store_and_end-clause-moves : goal.returns-in_err-store_and_end-clause-moves
returns-in_err-store_and_end-clause-moves g c =
    reaches_then _ _ _ _ (reaches_over _ _ c.finish_all.ensures.moves)
    (reaches_then _ _ _ _ (reaches_taken _ _ c.store_and_send_last-stored.ensures.moves)
    (reaches_then _ _ _ _ (reaches_same _ _ _ c.shut_all.ensures)
    (reaches_then _ _ _ _ c.remove_all.ensures.moves
    (reaches_kept _ _ _ c.store_and_end.ensures.station c.store_and_end.ensures.journal))))

-- .. and the last one sealed
pub returns-clause-moves : goal.returns-clause-moves
returns-clause-moves g c =
    reaches_then _ _ _ _ (reaches_over _ _ c.finish_all.ensures.moves)
    (reaches_then _ _ _ _ (reaches_taken _ _ c.store_and_send_last-stored.ensures.moves)
    (reaches_then _ _ _ _ (reaches_same _ _ _ c.shut_all.ensures)
    (reaches_then _ _ _ _ c.remove_all.ensures.moves
    (reaches_then _ _ _ _
    (reaches_kept _ _ _ c.store_and_end.ensures.station c.store_and_end.ensures.journal)
    (reaches_kept _ c.store_and_end.new.self.stored c.seal.new.self c.seal.ensures.station
    c.seal.ensures.journal)))))
