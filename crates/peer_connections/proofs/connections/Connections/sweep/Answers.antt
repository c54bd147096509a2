use Rattle.std.proofs.Common.{ap, ◌∙◌}
use Rattle.peer_connections.specs.Allowed.{IsOwn}
use Rattle.peer_connections.proofs.Dues.{stay_same, stay_then}
use Rattle.peer_connections.proofs.Getting.{all_known_by, all_known_same, all_known_then}
use Rattle.peer_connections.proofs.Reaching.{reaches_passing_late, reaches_passing_own}
use Rattle.peer_connections.proofs.Reaching.{reaches_then}
use Rattle.peer_connections.proofs.Seeing.{keeps_same, keeps_then, reached_on}
use Rattle.peer_connections.proofs.connections.Connections.sweep.Goals as goal

pub loop-key-preserved : goal.loop-key-preserved
loop-key-preserved g c = record {
  moves = reaches_then _ _ _ _ c.loop-key.invariant.moves
      (reaches_passing_late c.loop-key.key _ _ c.end_if_late.ensures.moves);
  left = all_known_then _ _ _ _ c.loop-key.invariant.left
      (all_known_by _ c.loop-key.key _ _ c.end_if_late.ensures.others c.end_if_late.ensures.unread);
  got = all_known_then _ _ _ _ c.loop-key.invariant.got
      (all_known_by _ c.loop-key.key _ _ c.end_if_late.ensures.others c.end_if_late.ensures.got);
  changes = c.end_if_late.ensures.changes ∙ c.loop-key.invariant.changes;
  due = stay_then _ _ _ c.loop-key.invariant.due c.end_if_late.ensures.due;
}

pub returns-clause-moves : goal.returns-clause-moves
returns-clause-moves g c =
    reaches_then _ _ _ _ c.loop-key.invariant.moves
    (reaches_passing_own _ _ c.keep_up.ensures.moves)

pub returns-clause-unread : goal.returns-clause-unread
returns-clause-unread g c =
    all_known_then _ _ _ _ c.loop-key.invariant.left
    (all_known_same _ _ _ (ap (λ x. x.items) c.keep_up.ensures.links))

pub returns-clause-got : goal.returns-clause-got
returns-clause-got g c =
    all_known_then _ _ _ _ c.loop-key.invariant.got
    (all_known_same _ _ _ (ap (λ x. x.items) c.keep_up.ensures.links))

-- what was noted is so still, and what the station did by itself is to be looked at
pub returns-clause-noted : goal.returns-clause-noted
returns-clause-noted g c =
    keeps_then c.args.self.now.changes c.loop-key.self.changes c.keep_up.new.self.changes _ _
    (reached_on IsOwn _ _ c.keep_up.ensures.moves)
    (keeps_same c.args.self.now.changes c.loop-key.self.changes _ c.loop-key.invariant.changes)
    c.keep_up.ensures.noted

pub returns-clause-due : goal.returns-clause-due
returns-clause-due g c =
    stay_then _ _ _ c.loop-key.invariant.due (stay_same _ _ c.keep_up.ensures.due)
