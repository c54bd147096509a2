use Rattle.peer_connections.specs.Reaches.{Reaches}
use Rattle.station_server.proofs.server.StationServer.accept_at_doors.Given as goal

abbrev pub invariant-loop-place : goal.invariant-loop-place
invariant-loop-place g l = Reaches l.fn.connections.stored l.connections.stored
