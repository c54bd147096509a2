use Rattle.std.proofs.Common.{◌∙◌}
use Rattle.peer_connections.specs.Allowed.{IsOwn}
use Rattle.peer_connections.proofs.Reaching.{reaches_then}
use Rattle.peer_connections.proofs.Seeing.{keeps_same, keeps_then, reached_on}
use Rattle.peer_connections.proofs.connections.Connections.keep_up.Goals as goal

pub loop-number-preserved : goal.loop-number-preserved
loop-number-preserved g c = record {
  moves = reaches_then _ _ _ _ c.loop-number.invariant.moves c.look_at_point.ensures.moves;
  links = c.look_at_point.ensures.links ∙ c.loop-number.invariant.links;
  due = c.look_at_point.ensures.due ∙ c.loop-number.invariant.due;
  noted = keeps_then c.args.self.now.changes c.loop-number.self.changes c.look_at_point.new.self.changes _ _
      (reached_on IsOwn _ _ c.look_at_point.ensures.moves) c.loop-number.invariant.noted
      (keeps_same c.loop-number.self.changes c.look_at_point.new.self.changes _ c.look_at_point.ensures.changes);
}
