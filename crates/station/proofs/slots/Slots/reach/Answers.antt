use Rattle.std.proofs.Common.{◌∙◌, ◌+◌, ap, arith}
use Rattle.std.specs.Prelude.{slice_index}
use Rattle.station.specs.PeerViews.{sessions_of}
use Rattle.station.proofs.Marks.{front_at, grown, remarked}
use Rattle.station.proofs.SlotSessions.{sessions_size}
use Rattle.station.proofs.slots.Slots.reach.Goals as goal

pub invariant_of-self-in_err-resize-2 : goal.invariant_of-self-in_err-resize-2
invariant_of-self-in_err-resize-2 c =
    let peers = c.self.inside.peers.items in
    let nodes = c.self.inside.node_marks.items in
    let owed = c.self.inside.owed_marks.items in
    let marked = c.self.invariant in
    let size = sessions_size peers in
    remarked nodes owed c.resize.new.self.items c.resize-2.new.self.items (sessions_of peers)
    marked
    (omega (arith, size, c.if-key-len.false, c.len.ensures, c.in_ok-resize.ensures.len))
    (omega (arith, marked.owed_size, c.in_err-resize-2.ensures.len))
    (omega (arith, c.requires, c.in_ok-resize.ensures.len))
    (omega (arith, marked.owed_most, c.in_err-resize-2.ensures.len))
    (λ k within. ap (λ xs. slice_index xs k) c.in_ok-resize.ensures.items
    ∙ front_at (c.args.key + 1) k nodes _ (omega (arith, within, marked.nodes_size))
    (omega (arith, within, size, c.if-key-len.false, c.len.ensures)))
    (λ k within. ap (λ xs. slice_index xs k) c.in_err-resize-2.ensures.items)

pub invariant_of-self-2 : goal.invariant_of-self-2
invariant_of-self-2 c =
    let peers = c.self.inside.peers.items in
    let nodes = c.self.inside.node_marks.items in
    let owed = c.self.inside.owed_marks.items in
    let marked = c.self.invariant in
    let size = sessions_size peers in
    let more = sessions_size c.reach_key.new.slots.items in
    grown c.resize.new.self.items c.resize-2.new.self.items (sessions_of peers)
    (sessions_of c.reach_key.new.slots.items)
    (remarked nodes owed c.resize.new.self.items c.resize-2.new.self.items (sessions_of peers)
    marked
    (omega (arith, size, c.if-key-len.false, c.len.ensures, c.in_ok-resize.ensures.len))
    (omega (arith, size, c.if-key-len.false, c.len.ensures, c.in_ok-resize-2.ensures.len))
    (omega (arith, c.requires, c.in_ok-resize.ensures.len))
    (omega (arith, c.requires, c.in_ok-resize-2.ensures.len))
    (λ k within. ap (λ xs. slice_index xs k) c.in_ok-resize.ensures.items
    ∙ front_at (c.args.key + 1) k nodes _ (omega (arith, within, marked.nodes_size))
    (omega (arith, within, size, c.if-key-len.false, c.len.ensures)))
    (λ k within. ap (λ xs. slice_index xs k) c.in_ok-resize-2.ensures.items
    ∙ front_at (c.args.key + 1) k owed _ (omega (arith, within, marked.owed_size))
    (omega (arith, within, size, c.if-key-len.false, c.len.ensures))))
    c.reach_key.ensures.same
    (omega (arith, more, c.reach_key.ensures.most, c.in_ok-resize.ensures.len))
    (omega (arith, more, c.reach_key.ensures.most, c.in_ok-resize-2.ensures.len))
