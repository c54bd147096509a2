use Rattle.peer_connections.proofs.Dues.{stay_then}
use Rattle.peer_connections.proofs.Reaching.{reaches_heard, reaches_then}
use Rattle.peer_connections.proofs.Seeing.{keeps_then, reached_on}
use Rattle.station_server.proofs.server.StationServer.take_turns.Goals as goal

pub returns-in_err-take_turn-in_default-clause-moves : goal.returns-in_err-take_turn-in_default-clause-moves
returns-in_err-take_turn-in_default-clause-moves g c =
    reaches_then _ _ _ _ c.loop-event.invariant.reached
    (reaches_heard _ _ _ c.take_turn.ensures.moves)

pub returns-in_err-take_turn-in_default-clause-noted : goal.returns-in_err-take_turn-in_default-clause-noted
returns-in_err-take_turn-in_default-clause-noted g c =
    keeps_then c.args.connections.now.changes c.loop-event.connections.changes
    c.take_turn.new.connections.changes _ _ (reached_on _ _ _ c.take_turn.ensures.moves)
    c.loop-event.invariant.noted c.take_turn.ensures.noted

pub loop-event-preserved-then-key-lt-PEERS : goal.loop-event-preserved-then-key-lt-PEERS
loop-event-preserved-then-key-lt-PEERS g c = record {
  next = tt;
  few = tt;
  reached = reaches_then _ _ _ _ c.loop-event.invariant.reached
      (reaches_heard _ _ _ c.take_turn.ensures.moves);
  due = stay_then _ _ _ c.loop-event.invariant.due c.take_turn.ensures.due;
  noted = keeps_then c.args.connections.now.changes c.loop-event.connections.changes
      c.take_turn.new.connections.changes _ _ (reached_on _ _ _ c.take_turn.ensures.moves)
      c.loop-event.invariant.noted c.take_turn.ensures.noted;
}
