use Rattle.std.proofs.Common.{◌∙◌, ap, arith, length}
use Rattle.std.proofs.lemmas.List.Elements.{All-push, All-rest}
use Rattle.till_session.specs.SessionEnds.{IsStartOf}
use Rattle.till_session.proofs.server.run_all.Goals as goal
use Rattle.till_session.proofs.server.run_all.Goals.{in-Ok, in-Err}

pub loop-preserved : goal.loop-preserved
loop-preserved g c =
    elim c.match-spawn_with.branch [
      | in-Ok w ↦ record {
        room =
            rw w.started-is
            (omega (
              arith,
              w.push_reserved.ensures.len,
              w.push_reserved.ensures.capacity,
              c.loop.invariant.room,
            ));
        plan =
            rw (w.started-is, w.push_reserved.ensures.items)
            (All-push (IsStartOf c.args.plan) c.loop.started.items _ c.loop.invariant.plan
            (ap (λ p. p.0) w.in-Ok.ensures.ok));
      }
      | in-Err w ↦ record {
        room =
            rw w.started-is
            (omega (
              arith,
              w.push_reserved-in-Err.ensures.len,
              w.push_reserved-in-Err.ensures.capacity,
              c.loop.invariant.room,
            ));
        plan =
            rw (w.started-is, w.push_reserved-in-Err.ensures.items)
            (All-push (IsStartOf c.args.plan) c.loop.started.items _ c.loop.invariant.plan tt);
      }
    ]

pub loop-handle-preserved-in-Some-handle : goal.loop-handle-preserved-in-Some-handle
loop-handle-preserved-in-Some-handle g c =
    let step = c.in-Some.ensures.steps in
    let fewer = ap length step.0 in
    record {
      size = c.keep.ensures.size ∙ c.loop-handle.invariant.size;
      slots = c.keep.ensures.slots;
      rest = omega (arith, step.1, fewer, c.loop-handle.invariant.rest);
      plan = All-rest (IsStartOf c.args.plan) _ _ _ step.0 c.loop-handle.invariant.plan;
    }

pub loop-handle-preserved : goal.loop-handle-preserved
loop-handle-preserved g c =
    let step = c.in-Some.ensures.steps in
    let fewer = ap length step.0 in
    record {
      size = c.loop-handle.invariant.size;
      slots = c.loop-handle.invariant.slots;
      rest = omega (arith, step.1, fewer, c.loop-handle.invariant.rest);
      plan = All-rest (IsStartOf c.args.plan) _ _ _ step.0 c.loop-handle.invariant.plan;
    }
