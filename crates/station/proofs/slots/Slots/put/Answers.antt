use Rattle.std.proofs.Common.{◌<◌, Some, arith, length}
use Rattle.station.specs.PeerViews.{session_of, sessions_of}
use Rattle.station.proofs.Marks.{put}
use Rattle.station.proofs.SlotSessions.{sessions_set, sessions_size}
use Rattle.station.proofs.slots.Slots.put.Goals as goal

pub invariant_of-self : goal.invariant_of-self
invariant_of-self c =
    let peers = c.self.inside.peers.items in
    let there : c.args.key < length (sessions_of peers) = rw (← c.self.view_is) at c.requires in
    let size = sessions_size peers in
    rw (sessions_set c.args.key peers (Some c.args.peer) (omega (arith, there, size)))
    (put c.args.key c.node_mark.result c.owed_mark.result (Some (session_of c.args.peer))
    c.self.inside.node_marks.items c.self.inside.owed_marks.items (sessions_of peers) there
    c.self.invariant c.node_mark.ensures.mark c.owed_mark.ensures.mark)

pub returns : goal.returns
returns c =
    let peers = c.self.inside.peers.items in
    let there : c.args.key < length (sessions_of peers) = rw (← c.self.view_is) at c.requires in
    let size = sessions_size peers in
    rw (← c.self.view_is)
    (sessions_set c.args.key peers (Some c.args.peer) (omega (arith, there, size)))
