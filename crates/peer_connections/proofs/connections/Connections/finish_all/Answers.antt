use Rattle.peer_connections.proofs.Reaching.{reaches_ended, reaches_then}
use Rattle.peer_connections.proofs.Pairing.{paired_ended}
use Rattle.peer_connections.proofs.Seeing.{seen_ended}
use Rattle.peer_connections.proofs.connections.Connections.finish_all.Goals as goal

pub loop-key-preserved : goal.loop-key-preserved
loop-key-preserved g c = record {
  moves = reaches_then _ _ _ _ c.loop-key.invariant.moves (reaches_ended _ _ _ c.finish.ensures);
  links = c.loop-key.invariant.links;
}

pub invariant_of-self-clause-seen : goal.invariant_of-self-clause-seen
invariant_of-self-clause-seen g c =
    seen_ended _ c.loop-key.key c.loop-key.self.stored _ c.finish.ensures c.loop-key.self.seen

pub invariant_of-self-clause-fed : goal.invariant_of-self-clause-fed
invariant_of-self-clause-fed g c =
    seen_ended _ c.loop-key.key c.loop-key.self.stored _ c.finish.ensures c.loop-key.self.fed

pub invariant_of-self-clause-paired : goal.invariant_of-self-clause-paired
invariant_of-self-clause-paired g c =
    paired_ended c.loop-key.key c.loop-key.self.links.items c.loop-key.self.stored _
    c.finish.ensures c.loop-key.self.paired
