use Rattle.peer_connections.proofs.Reaching.{reaches_any, reaches_kept, reaches_then}
use Rattle.station_server.proofs.server.StationServer.sweep_if_due.Goals as goal

pub returns-in_err-store_rows-clause-moves : goal.returns-in_err-store_rows-clause-moves
returns-in_err-store_rows-clause-moves g c =
    reaches_then _ _ _ _ c.accept_again.ensures
    (reaches_then _ _ _ _ (reaches_any _ _ _ c.sweep.ensures.moves)
    (reaches_kept _ _ _ c.store_rows.ensures.station c.store_rows.ensures.journal))

-- its rows are stored, and whoever is told of them is sent them
pub returns-clause-moves : goal.returns-clause-moves
returns-clause-moves g c =
    reaches_then _ _ _ _ c.accept_again.ensures
    (reaches_then _ _ _ _ (reaches_any _ _ _ c.sweep.ensures.moves)
    (reaches_then _ _ _ _
    (reaches_kept _ _ _ c.store_rows.ensures.station c.store_rows.ensures.journal)
    (reaches_any _ _ _ c.send_noted.ensures.moves)))
