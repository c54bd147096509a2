use Rattle.std.proofs.Common.{ap, refl, rules}
use Rattle.peer_connections.proofs.Coming.{welcomes_arrived, welcomes_as, welcomes_nobody}
use Rattle.peer_connections.proofs.Pairing.{paired_none}
use Rattle.peer_connections.proofs.Seeing.{seen_book, seen_linked}
use Rattle.peer_connections.proofs.connections.Connections.arrive.Goals as goal
use Rattle.peer_connections.proofs.connections.Connections.arrive.Goals.{else-set_link, then-set_link}

-- it gets no place
pub invariant_of-self-clause-paired : goal.invariant_of-self-clause-paired
invariant_of-self-clause-paired g c =
    paired_none _ _ _ _ c.in-Ok-None.field-0-is c.args.self.now.paired c.in-Ok-None.ensures.came

-- nor where memory is wanting
pub returns-in-Err-clause-comes : goal.returns-in-Err-clause-comes
returns-in-Err-clause-comes g c = welcomes_nobody _ _ _ _ _ _ _ _ c.arrive_in.ensures.moves refl

-- it has a connection, or leaves
pub returns-after-set_link-clause-comes : goal.returns-after-set_link-clause-comes
returns-after-set_link-clause-comes g c =
    let comes = welcomes_arrived _ _ c.args.door c.args.stream c.in-Ok-Some.key _ _ _ _ _
    c.arrive_in.ensures.moves (search rules) (search rules) c.set_link.ensures.left
    (search rules) c.set_link.ensures.others (search rules) in
    elim c.if-set_link.branch [
      | then-set_link w ↦ welcomes_as _ _ _ _ _ _ _ _ _ _ (ap (λ x. x.links.items) w.self-is)
          (ap (λ x. x.stored) w.self-is) comes
      | else-set_link w ↦ welcomes_as _ _ _ _ _ _ _ _ _ _ (ap (λ x. x.links.items) w.self-is)
          (ap (λ x. x.stored) w.self-is) comes
    ]

pub invariant_of-self-then-set_link : goal.invariant_of-self-then-set_link
invariant_of-self-then-set_link g c = record {
  size = c.args.self.now.size;
  paired = c.set_link.ensures.paired;
  seen = seen_linked _ c.in-Ok-Some.key _ _ c.set_link.ensures.left
      (seen_book _ _ _ c.arrive_in.ensures.book c.args.self.now.seen);
  fed = seen_linked _ c.in-Ok-Some.key _ _ c.set_link.ensures.left
      (seen_book _ _ _ c.arrive_in.ensures.book c.args.self.now.fed);
}

pub invariant_of-self-else-set_link : goal.invariant_of-self-else-set_link
invariant_of-self-else-set_link g c = record {
  size = c.args.self.now.size;
  paired = c.set_link.ensures.paired;
  seen = seen_linked _ c.in-Ok-Some.key _ _ c.set_link.ensures.left
      (seen_book _ _ _ c.arrive_in.ensures.book c.args.self.now.seen);
  fed = seen_linked _ c.in-Ok-Some.key _ _ c.set_link.ensures.left
      (seen_book _ _ _ c.arrive_in.ensures.book c.args.self.now.fed);
}
