use Rattle.std.proofs.Common.{None, arith, subst}
use Rattle.std.proofs.lemmas.List.Elements.{All-push}
use Rattle.till_session.specs.SessionEnds.{IsDrawnEnd, IsSlotOf}
use Rattle.till_session.proofs.server.Plan.put_in_order.Goals as goal
use Rattle.till_session.proofs.server.Plan.put_in_order.Goals.{in-Some, in_default}

pub loop-slot-preserved : goal.loop-slot-preserved
loop-slot-preserved c =
    elim c.match-slot.branch [
      | in-Some w ↦
          let push = w.push_reserved.ensures in
          record {
            few = rw w.ends-is (omega (arith, push.len, c.loop-slot.invariant.few));
            room = rw w.ends-is (omega (arith, push.capacity, c.loop-slot.invariant.room));
            drawn =
                rw (w.ends-is, push.items)
                (All-push (IsDrawnEnd c.args.self.turns) c.loop-slot.ends.items _
                c.loop-slot.invariant.drawn
                (subst (IsSlotOf c.args.self) w.in-Some.is
                (c.requires.slots c.loop-slot.slot-index None (omega arith))));
          }
      | in_default w ↦ record {
        few = rw w.ends-is (omega (arith, c.loop-slot.invariant.few));
        room = rw w.ends-is c.loop-slot.invariant.room;
        drawn = rw w.ends-is c.loop-slot.invariant.drawn;
      }
    ]
