use Rattle.peer_connections.specs.Reaches.{Reaches}
use Rattle.station_server.proofs.server.StationServer.serve_rounds.Given as goal

abbrev pub invariant-loop : goal.invariant-loop
invariant-loop g l = Reaches l.fn.connections.stored l.connections.stored
