use Rattle.std.proofs.Common.{◌≡◌, arith, length, subst, sym}
use Rattle.std.proofs.lemmas.List.{with_items_is}
use Rattle.station.specs.Marks.{AreMarked}
use Rattle.station.specs.PeerViews.{sessions_of}
use Rattle.station.proofs.Marks.{forgotten}
use Rattle.station.proofs.slots.Slots.forget_till.Goals as goal

pub invariant_of-self : goal.invariant_of-self
invariant_of-self c =
    let peers = c.self.inside.peers in
    let nodes = c.self.inside.node_marks.items in
    let owed = c.self.inside.owed_marks.items in
    let size : length c.forget_till.new.slots ≡ peers.len =
    omega (arith, c.deref_mut.ensures.len, c.forget_till.auto.slots) in
    subst (λ items. AreMarked nodes owed (sessions_of items))
    (sym (with_items_is peers c.forget_till.new.slots size))
    (rw (c.forget_till.ensures, c.deref_mut.ensures.value)
    (forgotten c.args.till nodes owed (sessions_of peers.items) c.self.invariant))
