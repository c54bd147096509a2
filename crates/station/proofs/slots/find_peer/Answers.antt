use Rattle.std.proofs.Common.{◌≡◌, ◌∙◌, Some, None, ap, get_or, sym}
use Rattle.std.specs.Prelude.{option_map}
use Rattle.station.specs.PeerViews.{session_of}
use Rattle.station.proofs.SlotSessions.{nobody_there, session_found}
use Rattle.station.proofs.slots.find_peer.Goals as goal

pub returns-in-Some : goal.returns-in-Some
returns-in-Some c =
    let slots = c.args.slots.now in
    let d = c.index-slots-key.result in
    let got : get_or slots c.args.key d ≡ Some c.in-Some.peer = cc in
    sym (session_found c.args.key slots d c.if-key-slots.true ∙ ap (option_map session_of) got)

pub returns-in-None : goal.returns-in-None
returns-in-None c =
    let slots = c.args.slots.now in
    let d = c.index-slots-key.result in
    let got : get_or slots c.args.key d ≡ None = cc in
    sym (session_found c.args.key slots d c.if-key-slots.true ∙ ap (option_map session_of) got)

pub returns-else-key-slots : goal.returns-else-key-slots
returns-else-key-slots c = sym (nobody_there c.args.key c.args.slots.now c.if-key-slots.false)
