use Rattle.std.proofs.Common.{ap}
use Rattle.peer_connections.proofs.Reaching.{reaches_any, reaches_same, reaches_then}
use Rattle.station_server.proofs.server.StationServer.accept_at_doors.Goals as goal
use Rattle.station_server.proofs.server.StationServer.accept_at_doors.Goals.{then-has_callers}
use Rattle.station_server.proofs.server.StationServer.accept_at_doors.Goals.{else-has_callers}

pub loop-place-preserved : goal.loop-place-preserved
loop-place-preserved g c =
    elim c.if-has_callers.branch [
      | then-has_callers w ↦ reaches_then _ _ _ _ c.loop-place.invariant
          (reaches_then _ _ _ _ (reaches_any _ _ _ w.accept_at_door.ensures)
          (reaches_same _ _ _ (ap (λ x. x.stored) w.connections-is)))
      | else-has_callers w ↦ reaches_then _ _ _ _ c.loop-place.invariant
          (reaches_same _ _ _ (ap (λ x. x.stored) w.connections-is))
    ]
