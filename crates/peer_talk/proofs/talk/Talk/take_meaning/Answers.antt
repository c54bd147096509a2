use Rattle.std.proofs.Common.{◌≡◌, ◌∙◌, ap, false, subst, sym}
use Rattle.peer_talk.specs.Talks.{IsSpokenBy, TalkState}
use Rattle.peer_talk.specs.Text.{is_another, peer_after}
use Rattle.peer_talk.proofs.Speakers.{spoken_by}
use Rattle.peer_talk.proofs.talk.Talk.take_meaning.Goals as goal

pub returns-in-Ok-clause-spoken : goal.returns-in-Ok-clause-spoken
returns-in-Ok-clause-spoken c =
    let st = c.args.self.now in
    let m = c.args.message.now in
    let same : is_another st.peer m.from ≡ false =
    ap (is_another st.peer) (sym c.from.ensures) ∙ sym c.if-is_another.ensures.another in
    let peer : c.bind_peer.new.self.peer ≡ peer_after st.peer m.from =
    ap (λ (s : TalkState). s.peer) c.bind_peer.ensures
    ∙ ap (peer_after st.peer) c.from-2.ensures in
    subst (IsSpokenBy c.in-Ok.actor) (sym peer)
    (spoken_by st.peer m c.in-Ok.actor c.in-Ok.event same c.in-Ok.ensures)
