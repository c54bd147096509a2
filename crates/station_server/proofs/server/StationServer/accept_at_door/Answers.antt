use Rattle.std.proofs.Common.{ap}
use Rattle.peer_connections.proofs.Reaching.{reaches_same, reaches_then}
use Rattle.station_server.proofs.server.StationServer.accept_at_door.Goals as goal
use Rattle.station_server.proofs.server.StationServer.accept_at_door.Goals.{else-loop-test}
use Rattle.station_server.proofs.server.StationServer.accept_at_door.Goals.{then-loop-test+in-Later}

pub returns-in-IsOver : goal.returns-in-IsOver
returns-in-IsOver g c = reaches_then _ _ _ _ c.loop.invariant c.welcome_next_at.ensures

pub loop-preserved : goal.loop-preserved
loop-preserved g c = reaches_then _ _ _ _ c.loop.invariant c.welcome_next_at.ensures

pub returns : goal.returns
returns g c =
    elim c.loop-test.branch [
      | else-loop-test w ↦ reaches_then _ _ _ _ c.loop.invariant
          (reaches_same _ _ _ (ap (λ x. x.stored) w.connections-is))
      | then-loop-test+in-Later w ↦ reaches_then _ _ _ _ c.loop.invariant
          (reaches_then _ _ _ _ w.welcome_next_at.ensures
          (reaches_same _ _ _ (ap (λ x. x.stored) w.connections-is)))
    ]
