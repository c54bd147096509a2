use Rattle.std.proofs.Common.{arith}
use Rattle.std.proofs.lemmas.List.Elements.{All-push}
use Rattle.till_session.specs.SessionEnds.{IsEndOf}
use Rattle.till_session.proofs.server.serve_drawn.Goals as goal

pub loop-preserved : goal.loop-preserved
loop-preserved g c =
    let push = c.push_reserved.ensures in
    record {
      room = omega (arith, push.len, push.capacity, c.loop.invariant.room);
      ends =
          rw push.items
          (All-push (IsEndOf c.args.plan) c.loop.ends.items _ c.loop.invariant.ends
          record { number = c.in-Some.ensures; drawn = c.serve_one-end.ensures });
    }
