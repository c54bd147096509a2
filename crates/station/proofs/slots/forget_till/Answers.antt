use Rattle.std.proofs.Common.{◌<◌, ◌∙◌, ap, arith, get_or, length}
use Rattle.std.specs.Prelude.{option_map}
use Rattle.std.proofs.lemmas.List.Edits.{map_over_more}
use Rattle.std.proofs.Math.ListN.{length-set, set}
use Rattle.station.specs.PeerViews.{session_of, sessions_of, slot_forgotten}
use Rattle.station.proofs.SlotSessions.{found_again, sessions_at, sessions_size}
use Rattle.station.proofs.slots.forget_till.Goals as goal

pub loop-i-preserved : goal.loop-i-preserved
loop-i-preserved c =
    let i = c.loop-i.i in
    let slots = c.loop-i.slots in
    let f = slot_forgotten c.args.till in
    let x = option_map session_of (get_or slots i c.index-slots-i.result) in
    let within : i < length slots = omega arith in
    let old_size = sessions_size c.args.slots.now in
    record {
      forgotten =
          sessions_at i slots c.forget_at.new.slot
          ∙ ap (λ y. set (sessions_of slots) i y) c.forget_at.ensures
          ∙ map_over_more f (sessions_of c.args.slots.now) (sessions_of slots) i x
          (omega (arith, old_size, c.loop-i.invariant.size)) c.loop-i.invariant.forgotten
          (found_again i slots c.index-slots-i.result x within);
      size = simp length-set c.loop-i.invariant.size;
    }
