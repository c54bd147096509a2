use Rattle.std.proofs.Common.{sym, ◌∙◌}
use Rattle.peer_connections.proofs.Reaching.{reaches_late}
use Rattle.peer_connections.proofs.connections.Connections.leave_late.Goals as goal

-- it isn't served
pub returns-then-is_some-clause-moves : goal.returns-then-is_some-clause-moves
returns-then-is_some-clause-moves g c =
    reaches_late c.args.key _ _
    (c.look_for_message.ensures (sym c.is_some.ensures ∙ c.if-is_some.true)) c.remove.ensures.left
