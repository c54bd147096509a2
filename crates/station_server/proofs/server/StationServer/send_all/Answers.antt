use Rattle.peer_connections.proofs.Reaching.{reaches_any, reaches_kept, reaches_same, reaches_then}
use Rattle.station_server.proofs.server.StationServer.send_all.Goals as goal

pub returns-in_err-send_noted-clause-moves : goal.returns-in_err-send_noted-clause-moves
returns-in_err-send_noted-clause-moves g c =
    reaches_then _ _ _ _
    (reaches_kept _ _ _ c.store_rows.ensures.station c.store_rows.ensures.journal)
    (reaches_any _ _ _ c.send_noted.ensures.moves)

pub returns-in_err-sweep_if_due-clause-moves : goal.returns-in_err-sweep_if_due-clause-moves
returns-in_err-sweep_if_due-clause-moves g c =
    reaches_then _ _ _ _
    (reaches_kept _ _ _ c.store_rows.ensures.station c.store_rows.ensures.journal)
    (reaches_then _ _ _ _ (reaches_any _ _ _ c.send_noted.ensures.moves)
    c.sweep_if_due.ensures.moves)

-- it was swept, and a session that was held back is read on
pub returns-clause-moves : goal.returns-clause-moves
returns-clause-moves g c =
    reaches_then _ _ _ _
    (reaches_kept _ _ _ c.store_rows.ensures.station c.store_rows.ensures.journal)
    (reaches_then _ _ _ _ (reaches_any _ _ _ c.send_noted.ensures.moves)
    (reaches_then _ _ _ _ c.sweep_if_due.ensures.moves
    (reaches_same _ _ _ c.read_on.ensures.stored)))
