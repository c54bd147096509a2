use Rattle.std.proofs.Common.{◌∙◌, ◌<◌, ap, arith, length, sym}
use Rattle.std.specs.Prelude.{option_map}
use Rattle.station.specs.PeerViews.{session_of, sessions_of}
use Rattle.station.proofs.Marks.{taken}
use Rattle.station.proofs.SlotSessions.{nobody_there, session_found, sessions_size, taken_out}
use Rattle.station.proofs.slots.Slots.take.Goals as goal

pub invariant_of-self : goal.invariant_of-self
invariant_of-self c =
    let peers = c.self.inside.peers.items in
    let within : c.args.key < length peers = omega (arith, c.if-key-len.true, c.len.ensures) in
    let size = sessions_size peers in
    let out =
    taken_out c.args.key peers c.take.result c.index_mut-then-key-len-2.result.now within
    (c.take.ensures.value ∙ c.index_mut-then-key-len-2.ensures.value) in
    let there =
    ap (option_map session_of) (c.take.ensures.value ∙ c.index_mut-then-key-len-2.ensures.value)
    ∙ sym (session_found c.args.key peers c.index_mut-then-key-len-2.result.now within) in
    rw (c.take.ensures.after, out)
    (taken c.args.key c.take.result c.self.inside.node_marks.items c.self.inside.owed_marks.items
    (sessions_of peers) (omega (arith, within, size)) there c.self.invariant)

pub returns-then-key-len-clause-peer : goal.returns-then-key-len-clause-peer
returns-then-key-len-clause-peer c =
    let peers = c.self.inside.peers.items in
    let within : c.args.key < length peers = omega (arith, c.if-key-len.true, c.len.ensures) in
    rw (← c.self.view_is)
    (ap (option_map session_of) (c.take.ensures.value ∙ c.index_mut-then-key-len-2.ensures.value)
    ∙ sym (session_found c.args.key peers c.index_mut-then-key-len-2.result.now within))

pub returns-then-key-len-clause-slots : goal.returns-then-key-len-clause-slots
returns-then-key-len-clause-slots c =
    let peers = c.self.inside.peers.items in
    let within : c.args.key < length peers = omega (arith, c.if-key-len.true, c.len.ensures) in
    rw (← c.self.view_is, c.take.ensures.after)
    (taken_out c.args.key peers c.take.result c.index_mut-then-key-len-2.result.now within
    (c.take.ensures.value ∙ c.index_mut-then-key-len-2.ensures.value))

pub returns-else-key-len-clause-peer : goal.returns-else-key-len-clause-peer
returns-else-key-len-clause-peer c =
    rw (← c.self.view_is)
    (sym (nobody_there c.args.key c.self.inside.peers.items
    (omega (arith, c.if-key-len.false, c.len.ensures))))
