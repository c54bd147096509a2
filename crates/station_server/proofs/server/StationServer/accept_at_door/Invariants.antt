use Rattle.std.proofs.Common.{Some}
use Rattle.peer_connections.specs.Allowed.{IsWelcome}
use Rattle.peer_connections.specs.Reaches.{ReachesBy}
use Rattle.station_server.proofs.server.StationServer.accept_at_door.Given as goal

abbrev pub invariant-loop : goal.invariant-loop
invariant-loop g l =
    ReachesBy (IsWelcome (Some l.fn.place)) l.fn.connections.stored l.connections.stored
