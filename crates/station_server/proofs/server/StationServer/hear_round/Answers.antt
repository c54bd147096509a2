use Rattle.peer_connections.proofs.Dues.{stay_same, stay_then}
use Rattle.peer_connections.proofs.Reaching.{reaches_kept, reaches_then}
use Rattle.peer_connections.proofs.Seeing.{keeps_same, keeps_then, reached_on}
use Rattle.station_server.proofs.server.StationServer.hear_round.Goals as goal

pub returns-in-Ok-clause-moves : goal.returns-in-Ok-clause-moves
returns-in-Ok-clause-moves g c =
    reaches_then _ _ _ _
    (reaches_kept _ _ _ c.begin_round-in-Ok.ensures.station c.begin_round-in-Ok.ensures.journal)
    c.take_turns.ensures.moves

pub returns-in-Ok-clause-due : goal.returns-in-Ok-clause-due
returns-in-Ok-clause-due g c =
    stay_then _ _ _ (stay_same _ _ c.begin_round-in-Ok.ensures.due) c.take_turns.ensures.due

pub returns-in-Ok-clause-noted : goal.returns-in-Ok-clause-noted
returns-in-Ok-clause-noted g c =
    keeps_then c.args.connections.now.changes c.begin_round-in-Ok.new.self.changes
    c.take_turns.new.connections.changes c.begin_round-in-Ok.new.self.stored.station.book _
    (reached_on _ _ _ c.take_turns.ensures.moves)
    (keeps_same _ _ _ c.begin_round-in-Ok.ensures.changes) c.take_turns.ensures.noted
