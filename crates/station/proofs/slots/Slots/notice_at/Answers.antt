use Rattle.std.proofs.Common.{◌∙◌, ◌<◌, ap, arith, length, sym}
use Rattle.std.specs.Prelude.{option_map}
use Rattle.station.specs.Peers.{with_peer}
use Rattle.station.specs.PeerViews.{session_of, sessions_of, slot_noticed}
use Rattle.station.proofs.Marks.{noticed}
use Rattle.station.proofs.SlotSessions.{session_found, sessions_set, sessions_size}
use Rattle.station.proofs.slots.Slots.notice_at.Goals as goal

pub invariant_of-self : goal.invariant_of-self
invariant_of-self c =
    let peers = c.self.inside.peers.items in
    let there : c.args.key < length (sessions_of peers) =
    rw (← c.self.view_is) at c.requires.there in
    let size = sessions_size peers in
    let within : c.args.key < length peers = omega (arith, there, size) in
    let told = slot_noticed c.args.node c.args.notice.now in
    let slot =
    c.notice_slot.ensures ∙ ap (λ s. told (option_map session_of s)) c.index_mut.ensures.value
    ∙ ap told (sym (session_found c.args.key peers c.index_mut.result.now within)) in
    rw (sessions_set c.args.key peers c.notice_slot.new.slot within, slot)
    (noticed c.args.key c.args.node c.args.notice.now c.self.inside.node_marks.items
    c.self.inside.owed_marks.items (sessions_of peers) there c.self.invariant)

pub returns : goal.returns
returns c =
    let peers = c.self.inside.peers.items in
    let there : c.args.key < length (sessions_of peers) =
    rw (← c.self.view_is) at c.requires.there in
    let size = sessions_size peers in
    let within : c.args.key < length peers = omega (arith, there, size) in
    let told = slot_noticed c.args.node c.args.notice.now in
    let slot =
    c.notice_slot.ensures ∙ ap (λ s. told (option_map session_of s)) c.index_mut.ensures.value
    ∙ ap told (sym (session_found c.args.key peers c.index_mut.result.now within)) in
    rw (← c.self.view_is)
    (sessions_set c.args.key peers c.notice_slot.new.slot within
    ∙ ap (λ s. with_peer c.args.key s (sessions_of peers)) slot)
