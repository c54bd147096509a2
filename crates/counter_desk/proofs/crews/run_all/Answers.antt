use Rattle.std.proofs.Common.{Some, None, length, map, take, vec_items, ap, subst, ◌∙◌, arith}
use Rattle.std.specs.Vec.Iter.{into_iter_items}
use Rattle.counter_desk.specs.Crews.{AreJoining}
use Rattle.counter_desk.proofs.Lists.{map_more, nothing}
use Rattle.counter_desk.proofs.Threads.{joining_end, joining_more, started_push}
use Rattle.counter_desk.proofs.crews.run_all.Goals as goal
use Rattle.counter_desk.proofs.crews.run_all.Goals.{in-Ok, in-Err}

pub loop-list-preserved : goal.loop-list-preserved
loop-list-preserved g c =
    let i = c.loop-list.list-index in
    let list = c.list-item.result in
    let more = map_more vec_items c.args.lists.now i list (omega arith) c.list-item.is in
    elim c.match-spawn_with.branch [
      | in-Ok w ↦ record {
        len = rw w.started-is (omega (
          arith,
          w.push_reserved.ensures.len,
          c.loop-list.invariant.len,
        ));
        room = rw w.started-is (omega (
          arith,
          w.push_reserved.ensures.capacity,
          c.loop-list.invariant.room,
        ));
        all =
            rw (w.started-is, w.push_reserved.ensures.items, more)
            (started_push (map vec_items (take i c.args.lists.now)) c.loop-list.started.items
            list.items (Some w.in-Ok.handle) c.loop-list.invariant.all
            (ap (λ p. p.0.now) w.in-Ok.ensures.ok ∙ c.as_slice-calls.ensures.value));
      }
      | in-Err w ↦ record {
        len = rw w.started-is (omega (
          arith,
          w.push_reserved-in-Err.ensures.len,
          c.loop-list.invariant.len,
        ));
        room = rw w.started-is (omega (
          arith,
          w.push_reserved-in-Err.ensures.capacity,
          c.loop-list.invariant.room,
        ));
        all =
            rw (w.started-is, w.push_reserved-in-Err.ensures.items, more)
            (started_push (map vec_items (take i c.args.lists.now)) c.loop-list.started.items
            list.items None c.loop-list.invariant.all tt);
      }
    ]

pub loop-handle-preserved : goal.loop-handle-preserved
loop-handle-preserved g c =
    let lists = map vec_items c.args.lists.now in
    let step = c.in-Some.ensures.steps in
    let fewer = ap length step.0 in
    record {
      len = omega (
        arith,
        step.1,
        c.push_reserved-in-loop-handle.ensures.len,
        c.loop-handle.invariant.len,
      );
      rest = omega (arith, step.1, fewer, c.loop-handle.invariant.rest);
      room = omega (
        arith,
        c.push_reserved-in-loop-handle.ensures.capacity,
        c.loop-handle.invariant.room,
      );
      all =
          rw c.push_reserved-in-loop-handle.ensures.items
          (joining_more lists c.in-Some.handle (into_iter_items c.next.new.self)
          c.loop-handle.ends.items c.join_one.result
          (subst (λ started. AreJoining lists started c.loop-handle.ends.items) step.0
          c.loop-handle.invariant.all) c.join_one.ensures);
    }

pub returns : goal.returns
returns g c =
    let none = c.in-None.ensures.steps.0 in
    let empty = nothing (into_iter_items c.loop-handle.handle-iterator)
    (omega (arith, none, c.loop-handle.invariant.rest)) in
    joining_end (map vec_items c.args.lists.now) c.loop-handle.ends.items
    (subst (λ started. AreJoining (map vec_items c.args.lists.now) started c.loop-handle.ends.items)
    empty c.loop-handle.invariant.all)
