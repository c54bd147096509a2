use Rattle.std.proofs.Common.{ap, inl, rules}
use Rattle.peer_connections.proofs.Streaming.{heard_as, heard_ready, heard_then, heard_with_room}
use Rattle.peer_connections.proofs.Seeing.{keeps_then, with_room_on}
use Rattle.peer_connections.proofs.link.Link.hear.Goals as goal
use Rattle.peer_connections.proofs.link.Link.hear.Goals.{in-Interrupted, in-Passed+else-n-size}

-- no room could be made
pub returns-in_err-n-clause-stream : goal.returns-in_err-n-clause-stream
returns-in_err-n-clause-stream g c =
    heard_then _ _ _ _ _ _ _ c.loop.invariant.heard
    (heard_ready _ _ _ _ _ (ap (λ x. g.S.Read.remaining x) c.in_err-n.ensures.unread)
    (inl c.in_err-n.ensures.err) c.in_err-n.ensures.journal)

-- it was read once
pub returns-then-not-to_wait-clause-stream : goal.returns-then-not-to_wait-clause-stream
returns-then-not-to_wait-clause-stream g c =
    heard_then _ _ _ _ _ _ _ c.loop.invariant.heard
    (heard_with_room _ _ _ _ _ _ c.in_ok-n.ensures.hears c.in_ok-n.ensures.journal)

pub returns-in-Waits-clause-stream : goal.returns-in-Waits-clause-stream
returns-in-Waits-clause-stream g c =
    heard_then _ _ _ _ _ _ _ c.loop.invariant.heard
    (heard_with_room _ _ _ _ _ _ c.in_ok-n.ensures.hears c.in_ok-n.ensures.journal)

pub returns-in-Ended-clause-stream : goal.returns-in-Ended-clause-stream
returns-in-Ended-clause-stream g c =
    heard_then _ _ _ _ _ _ _ c.loop.invariant.heard
    (heard_with_room _ _ _ _ _ _ c.in_ok-n.ensures.hears c.in_ok-n.ensures.journal)

pub returns-in-Failed-clause-stream : goal.returns-in-Failed-clause-stream
returns-in-Failed-clause-stream g c =
    heard_then _ _ _ _ _ _ _ c.loop.invariant.heard
    (heard_with_room _ _ _ _ _ _ c.in_ok-n.ensures.hears c.in_ok-n.ensures.journal)

pub returns-then-not-to_wait-clause-noted : goal.returns-then-not-to_wait-clause-noted
returns-then-not-to_wait-clause-noted g c =
    keeps_then c.args.changes.now c.loop.changes c.read_with_room.new.changes _ _
    (with_room_on _ _ _ _ _ _ c.in_ok-n.ensures.hears) c.loop.invariant.noted
    c.in_ok-n.ensures.noted

pub returns-in-Waits-clause-noted : goal.returns-in-Waits-clause-noted
returns-in-Waits-clause-noted g c =
    keeps_then c.args.changes.now c.loop.changes c.read_with_room.new.changes _ _
    (with_room_on _ _ _ _ _ _ c.in_ok-n.ensures.hears) c.loop.invariant.noted
    c.in_ok-n.ensures.noted

pub returns-in-Ended-clause-noted : goal.returns-in-Ended-clause-noted
returns-in-Ended-clause-noted g c =
    keeps_then c.args.changes.now c.loop.changes c.read_with_room.new.changes _ _
    (with_room_on _ _ _ _ _ _ c.in_ok-n.ensures.hears) c.loop.invariant.noted
    c.in_ok-n.ensures.noted

pub returns-in-Failed-clause-noted : goal.returns-in-Failed-clause-noted
returns-in-Failed-clause-noted g c =
    keeps_then c.args.changes.now c.loop.changes c.read_with_room.new.changes _ _
    (with_room_on _ _ _ _ _ _ c.in_ok-n.ensures.hears) c.loop.invariant.noted
    c.in_ok-n.ensures.noted

pub loop-preserved : goal.loop-preserved
loop-preserved g c = record {
  heard = elim c.match-branch-2.branch [
    | in-Passed+else-n-size w ↦ heard_as _ _ _ _ _ _
        (ap (λ x. g.S.Read.remaining x.stream) w.self-is)
        (heard_then _ _ _ _ _ _ _ c.loop.invariant.heard
        (heard_with_room _ _ _ _ _ _ c.in_ok-n.ensures.hears c.in_ok-n.ensures.journal))
    | in-Interrupted w ↦ heard_as _ _ _ _ _ _
        (ap (λ x. g.S.Read.remaining x.stream) w.self-is)
        (heard_then _ _ _ _ _ _ _ c.loop.invariant.heard
        (heard_with_room _ _ _ _ _ _ c.in_ok-n.ensures.hears c.in_ok-n.ensures.journal))
  ];
  size = search rules;
  seen = search rules;
  fed = search rules;
  noted = keeps_then c.args.changes.now c.loop.changes c.read_with_room.new.changes _ _
      (with_room_on _ _ _ _ _ _ c.in_ok-n.ensures.hears) c.loop.invariant.noted
      c.in_ok-n.ensures.noted;
}
