use Rattle.std.proofs.Common.{◌≡◌, ◌<◌, ◌∙◌, Some, ap, arith, length, refl, sym, true}
use Rattle.station.specs.PeerViews.{session_of}
use Rattle.station.specs.Reads.{is_read_of}
use Rattle.station.specs.Sessions.{is_read}
use Rattle.station.proofs.Answering.{unheard}
use Rattle.station.specs.Moves.{rows_since}
use Rattle.station.proofs.Peers.{slots_size}
use Rattle.station.proofs.SlotSessions.{heard_seen, heard_there, told_size}
use Rattle.station.proofs.station.Station.hear.Goals as goal

pub returns-then-not-is_read : goal.returns-then-not-is_read
returns-then-not-is_read c =
    unheard c.args.key c.args.octets.now c.args.self.now
    (sym c.is_read.ensures ∙ c.if-not-is_read.true)

pub put-requires : goal.put-requires
put-requires c =
    let slots = c.self.inside.slots in
    let within : c.args.key < length slots = c.in-Some.ensures.key refl in
    let size =
    told_size c.args.key c.in-Some.peer (rows_since c.self.inside.book c.hear.new.book) slots
    c.take.new.self c.hear.new.others within
    c.in-Some.ensures.slots c.hear.ensures.told in
    omega (arith, size, within)

pub invariant_of-self : goal.invariant_of-self
invariant_of-self c =
    let slots = c.self.inside.slots in
    let within : c.args.key < length slots = c.in-Some.ensures.key refl in
    let size =
    told_size c.args.key c.in-Some.peer (rows_since c.self.inside.book c.hear.new.book) slots
    c.take.new.self c.hear.new.others within
    c.in-Some.ensures.slots c.hear.ensures.told in
    let there : c.args.key < length c.hear.new.others = omega (arith, size, within) in
    let back =
    ap length c.put.ensures ∙ slots_size c.args.key (Some _) c.hear.new.others there in
    omega (arith, size, back, c.self.invariant)

pub returns-in-Some : goal.returns-in-Some
returns-in-Some c =
    let known = rw (← c.self.view_is) at (sym c.is_read.ensures ∙ c.if-not-is_read.false) in
    let read : is_read (session_of c.in-Some.peer) ≡ true =
    ap is_read_of c.in-Some.ensures.peer ∙ known in
    heard_seen c.args.key c.args.octets.now _ _ _ _ refl c.self.view_is
    (heard_there c.args.key c.self.inside.gates c.args.octets.now c.self.inside.book
    c.hear.new.book c.self.inside.slots c.take.new.self c.hear.new.others c.put.new.self
    c.in-Some.peer c.hear.new.peer c.in-Some.ensures.peer c.in-Some.ensures.slots read
    c.hear.ensures c.put.ensures)
