use Rattle.std.proofs.Common.{ap, ◌∙◌}
use Rattle.peer_connections.proofs.Sent.{written_journal}
use Rattle.peer_connections.proofs.Streaming.{sent_as, sent_then, sent_written}
use Rattle.peer_connections.proofs.link.Link.send.Goals as goal
use Rattle.peer_connections.proofs.link.Link.send.Goals.{in-Interrupted, in-Passed}

-- nothing more may be told
pub returns-then-is_empty-clause-stream : goal.returns-then-is_empty-clause-stream
returns-then-is_empty-clause-stream g c = c.loop.invariant.stream

-- the connection takes no more for now
pub returns-in-Waits-clause-stream : goal.returns-in-Waits-clause-stream
returns-in-Waits-clause-stream g c =
    sent_then _ _ _ _ _ _ _ c.loop.invariant.stream
    (sent_written _ _ _ _ _ _ c.write_once.ensures)

-- .. or for good
pub returns-in-Ended-clause-stream : goal.returns-in-Ended-clause-stream
returns-in-Ended-clause-stream g c =
    sent_then _ _ _ _ _ _ _ c.loop.invariant.stream
    (sent_written _ _ _ _ _ _ c.write_once.ensures)

-- its turn is over
pub returns-clause-stream : goal.returns-clause-stream
returns-clause-stream g c = c.loop.invariant.stream

pub loop-preserved : goal.loop-preserved
loop-preserved g c = record {
  stream = elim c.match-write_once.branch [
    | in-Passed w ↦ sent_as _ _ _ _ _ _
        (ap (λ x. g.S.Write.contents x.stream) w.self-is
        ∙ ap (λ x. g.S.Write.contents x) w.note_taken.ensures)
        (sent_then _ _ _ _ _ _ _ c.loop.invariant.stream
        (sent_written _ _ _ _ _ _ c.write_once.ensures))
    | in-Interrupted w ↦ sent_as _ _ _ _ _ _
        (ap (λ x. g.S.Write.contents x.stream) w.self-is)
        (sent_then _ _ _ _ _ _ _ c.loop.invariant.stream
        (sent_written _ _ _ _ _ _ c.write_once.ensures))
  ];
  journal = written_journal _ _ _ _ _ _ c.write_once.ensures ∙ c.loop.invariant.journal;
}
