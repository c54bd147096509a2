use Rattle.std.proofs.Common.{◌≡◌, ◌≤◌, arith, length, refl, subst}
use Rattle.station.specs.Marks.{HasOtherMark}
use Rattle.station.specs.Peers.{peer_at}
use Rattle.station.specs.PeerViews.{sessions_of, slot_noticed}
use Rattle.station.proofs.Marks.{all_told, none_left, told_more, slot_untold}
use Rattle.station.proofs.SlotSessions.{sessions_size}
use Rattle.station.proofs.slots.Slots.notice_all.Goals as goal

pub returns-in_default : goal.returns-in_default
returns-in_default c =
    let slots = c.loop-at.self in
    all_told (slot_noticed c.args.node c.args.notice.now) c.loop-at.from c.args.self.now slots refl
    c.loop-at.invariant.told
    (λ k low. slot_untold c.args.node c.args.notice.now (peer_at slots k)
    (subst (λ m. HasOtherMark m (peer_at slots k)) c.mark_of-mark.ensures
    (c.in_default.ensures.none k low)))

pub loop-at-preserved : goal.loop-at-preserved
loop-at-preserved c =
    let slots = c.loop-at.self in
    let within = c.in-Some.ensures.within in
    record {
      told =
          told_more (slot_noticed c.args.node c.args.notice.now) c.loop-at.from c.in-Some.key
          c.args.self.now slots c.notice_at.new.self c.loop-at.invariant.told within.0 within.1
          (λ k low high. slot_untold c.args.node c.args.notice.now (peer_at slots k)
          (subst (λ m. HasOtherMark m (peer_at slots k)) c.mark_of-mark.ensures
          (c.in-Some.ensures.between k low high)))
          c.notice_at.ensures;
      far = omega (arith, c.loop-at.invariant.far, within.0);
    }

pub returns : goal.returns
returns c =
    let slots = c.loop-at.self in
    let told = c.loop-at.invariant.told in
    let f = slot_noticed c.args.node c.args.notice.now in
    let size = sessions_size c.self.inside.peers.items in
    let view : length c.args.self.now ≡ length (sessions_of c.self.inside.peers.items) =
    rw (← c.self.view_is) refl in
    let all : length slots ≤ c.loop-at.from =
    omega (
      arith,
      told.size,
      view,
      size,
      c.len-at-end.ensures,
      c.loop-at-test.false,
      c.loop-at.invariant.far,
    ) in
    all_told f c.loop-at.from c.args.self.now slots refl told
    (λ k low. none_left f c.loop-at.from k slots refl all low)
