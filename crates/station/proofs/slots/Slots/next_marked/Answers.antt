use Rattle.std.proofs.Common.{arith}
use Rattle.station.specs.PeerViews.{sessions_of}
use Rattle.station.proofs.Marks.{owed_absent, owed_found}
use Rattle.station.proofs.SlotSessions.{sessions_size}
use Rattle.station.proofs.slots.Slots.next_marked.Goals as goal

pub returns-clause-between : goal.returns-clause-between
returns-clause-between c =
    let ensures = rw c.deref.ensures.value at c.next_place.ensures in
    rw (← c.self.view_is)
    (owed_found c.args.from c.len.result c.next_place.result
    c.self.inside.node_marks.items
    c.self.inside.owed_marks.items (sessions_of c.self.inside.peers.items) c.self.invariant
    ensures.within ensures.between)

pub returns-clause-none : goal.returns-clause-none
returns-clause-none c =
    let ensures = rw c.deref.ensures.value at c.next_place.ensures in
    let size = sessions_size c.self.inside.peers.items in
    rw (← c.self.view_is)
    (owed_absent c.args.from c.len.result c.next_place.result
    c.self.inside.node_marks.items
    c.self.inside.owed_marks.items (sessions_of c.self.inside.peers.items) c.self.invariant
    (omega (arith, size, c.len.ensures)) ensures.none)
