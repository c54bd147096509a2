use Rattle.std.proofs.Common.{ap, ◌∙◌}
use Rattle.peer_connections.specs.Allowed.{IsHearing}
use Rattle.peer_connections.specs.Reaches.{ReachesBy}
use Rattle.peer_connections.proofs.Reaching.{reaches_same, reaches_then}
use Rattle.station_server.proofs.server.take_turn.Goals as goal
use Rattle.station_server.proofs.server.take_turn.Goals.{else-is_writable, then-is_writable}
use Rattle.station_server.proofs.server.take_turn.Goals.{then-is_readable+in_ok-hear}
use Rattle.station_server.proofs.server.take_turn.Goals.{else-is_readable+else-is_error+else-to_wait+else-is_unread}

pub returns-clause-moves : goal.returns-clause-moves
returns-clause-moves g c =
    let unblocked : ReachesBy (IsHearing c.args.key) c.args.connections.now.stored
    c.if-is_writable.connections.stored =
    elim c.if-is_writable.branch [
      | then-is_writable w ↦ reaches_same _ _ _
          (ap (λ x. x.stored) w.connections-is ∙ w.unblock.ensures.stored)
      | else-is_writable w ↦ reaches_same _ _ _ (ap (λ x. x.stored) w.connections-is)
    ] in
    let heard : ReachesBy (IsHearing c.args.key) c.if-is_writable.connections.stored
    c.if-is_readable.connections.stored =
    elim c.if-is_readable.branch [
      | then-is_readable+in_ok-hear w ↦ reaches_then _ _ _ _ w.hear.ensures.moves
          (reaches_same _ _ _ (ap (λ x. x.stored) w.connections-is))
      | else-is_readable+else-is_error+else-to_wait+else-is_unread w ↦ reaches_same _ _ _
          (ap (λ x. x.stored) w.connections-is)
    ] in
    reaches_then _ _ _ _ unblocked
    (reaches_then _ _ _ _ heard (reaches_same _ _ _ c.make_due.ensures.stored))
