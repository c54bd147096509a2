use Rattle.std.proofs.Common.{◌∙◌}
use Rattle.peer_connections.proofs.Others.{continue_sent, sent_one_more}
use Rattle.peer_connections.proofs.Reaching.{reaches_taking, reaches_then}
use Rattle.peer_connections.proofs.connections.Connections.send_last_to_all.Goals as goal

pub loop-key-preserved : goal.loop-key-preserved
loop-key-preserved g c = record {
  moves = reaches_then _ _ _ _ c.loop-key.invariant.moves
      (reaches_taking c.loop-key.key _ _ c.send_link.ensures.moves);
  streams = continue_sent _ c.loop-key.key _ _ _ _ c.loop-key.self.stored
      c.send_link.new.self.stored c.loop-key.self.paired c.send_link.new.self.paired
      c.send_link.ensures.stream c.send_link.ensures.journal c.send_link.ensures.others
      c.loop-key.invariant.streams;
  journal = c.send_link.ensures.journal ∙ c.loop-key.invariant.journal;
  sent = sent_one_more c.loop-key.key _ _ _ _ c.send_link.ensures.moves
      c.send_link.ensures.journal c.send_link.ensures.others c.send_link.ensures.sent
      c.loop-key.invariant.sent;
}
