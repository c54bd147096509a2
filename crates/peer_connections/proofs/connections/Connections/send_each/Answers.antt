use Rattle.std.proofs.Common.{arith, take, List, ◌∙◌, subst, ℕ}
use Rattle.peer_connections.specs.Sending.{AreSentTo}
use Rattle.peer_connections.proofs.Getting.{more_then}
use Rattle.peer_connections.proofs.Others.{all_sent}
use Rattle.peer_connections.proofs.Reaching.{reaches_then}
use Rattle.peer_connections.proofs.connections.Connections.send_each.Goals as goal

pub loop-at-preserved : goal.loop-at-preserved
loop-at-preserved g c = record {
  moves = reaches_then _ _ _ _ c.loop-at.invariant.moves c.send_at.ensures.moves;
  journal = c.send_at.ensures.journal ∙ c.loop-at.invariant.journal;
  rows = omega (arith, c.loop-at.invariant.rows, c.send_at.ensures.rows);
  due = c.send_at.ensures.due ∙ c.loop-at.invariant.due;
  changes = c.send_at.ensures.changes ∙ c.loop-at.invariant.changes;
  got = more_then _ _ _ _ _ _ _ c.loop-at.invariant.got c.send_at.ensures.got;
  sent = λ few.
      c.send_at.ensures.sent
      (omega (arith, few, c.loop-at.invariant.rows, c.send_at.ensures.rows))
      (c.loop-at.invariant.sent
      (omega (arith, few, c.loop-at.invariant.rows, c.send_at.ensures.rows)));
  streams = λ few.
      c.send_at.ensures.streams
      (omega (arith, few, c.loop-at.invariant.rows, c.send_at.ensures.rows)) _ _
      (c.loop-at.invariant.streams
      (omega (arith, few, c.loop-at.invariant.rows, c.send_at.ensures.rows)));
}

pub returns-clause-sent : goal.returns-clause-sent
returns-clause-sent g c = λ few.
    all_sent c.args.self.now.due c.loop-at.at c.loop-at.self.stored _
    (omega (arith, c.loop-at-test.false, c.len-at-end.ensures))
    (subst (λ (due : List ℕ). AreSentTo (take c.loop-at.at due) c.loop-at.self.stored
    c.loop-at.self.links.items) c.loop-at.invariant.due (c.loop-at.invariant.sent few))
