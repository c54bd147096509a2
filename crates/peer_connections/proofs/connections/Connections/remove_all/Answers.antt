use Rattle.std.proofs.Common.{ap, arith}
use Rattle.journal.specs.Stored.{StoredState}
use Rattle.peer_connections.proofs.Leaving.{left_up_to, nobody_left}
use Rattle.peer_connections.proofs.Reaching.{reaches_left, reaches_then}
use Rattle.peer_connections.proofs.connections.Connections.remove_all.Goals as goal

pub loop-key-preserved : goal.loop-key-preserved
loop-key-preserved g c = record {
  moves = reaches_then _ _ _ _ c.loop-key.invariant.moves
      (reaches_left c.loop-key.key _ _ c.remove.ensures.left);
  gone = left_up_to c.loop-key.key _ _
      (ap (λ (s : StoredState). s.station) c.remove.ensures.left) c.loop-key.invariant.gone;
}

pub returns-clause-left : goal.returns-clause-left
returns-clause-left g c =
    nobody_left _
    (λ k less. c.loop-key.invariant.gone k (omega (arith, less, c.loop-key-test.false)))
    c.book.ensures.keys
