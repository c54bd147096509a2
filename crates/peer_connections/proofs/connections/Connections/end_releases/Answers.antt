use Rattle.std.proofs.Common.{◌∙◌}
use Rattle.peer_connections.specs.Allowed.{IsOwn}
use Rattle.peer_connections.proofs.Reaching.{reaches_then}
use Rattle.peer_connections.proofs.Seeing.{keeps_same, keeps_then, reached_on}
use Rattle.peer_connections.proofs.connections.Connections.end_releases.Goals as goal

pub loop-number-preserved : goal.loop-number-preserved
loop-number-preserved g c = record {
  moves = reaches_then _ _ _ _ c.loop-number.invariant.moves c.end_release_of.ensures.moves;
  links = c.end_release_of.ensures.links ∙ c.loop-number.invariant.links;
  due = c.end_release_of.ensures.due ∙ c.loop-number.invariant.due;
  noted = keeps_then c.args.self.now.changes c.loop-number.self.changes c.end_release_of.new.self.changes _ _
      (reached_on IsOwn _ _ c.end_release_of.ensures.moves) c.loop-number.invariant.noted
      (keeps_same c.loop-number.self.changes c.end_release_of.new.self.changes _ c.end_release_of.ensures.changes);
}
