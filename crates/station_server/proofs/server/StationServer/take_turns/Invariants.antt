use Rattle.peer_connections.specs.Due.{StayDue}
use Rattle.peer_connections.specs.Allowed.{IsHeard}
use Rattle.peer_connections.specs.Reaches.{ReachesBy}
use Rattle.peer_connections.specs.Sending.{KeepsChanges}
use Rattle.station_server.proofs.server.StationServer.take_turns.Given as goal

abbrev pub invariant-loop-event : goal.invariant-loop-event
invariant-loop-event g l = record {
  next : (goal.iterator-loop-event g).can_next l.event-iterator;
  few : (goal.iterator-loop-event g).is_finite l.event-iterator;
  reached : ReachesBy IsHeard l.fn.connections.stored l.connections.stored;
  due : StayDue l.fn.connections.due l.connections.due;
  noted : KeepsChanges l.fn.connections.changes l.connections.changes
      l.connections.stored.station.book;
}
