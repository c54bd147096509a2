use Rattle.std.proofs.Common.{refl, rules}
use Rattle.peer_connections.proofs.Known.{heard_nothing, heard_there}
use Rattle.peer_connections.proofs.Pairing.{paired_heard, paired_set}
use Rattle.peer_connections.proofs.connections.Connections.hear_link.Goals as goal

pub invariant_of-self-in-Some-slot-clause-paired : goal.invariant_of-self-in-Some-slot-clause-paired
invariant_of-self-in-Some-slot-clause-paired g c =
    paired_heard _ _ _ _ c.args.self.now.stored _ c.hear.ensures.stream
    (paired_set c.args.key c.args.self.now.links.items c.in-Some-slot.link _
    c.args.self.now.stored.station.peers (search rules) c.args.self.now.paired)

-- it is held back
pub returns-then-is_some-2-clause-stream : goal.returns-then-is_some-2-clause-stream
returns-then-is_some-2-clause-stream g c = λ lasts.
    heard_nothing g.S.Read.remaining c.args.key c.args.self.now.links.items c.in-Some-slot.link
    c.in-Some-slot.link c.args.self.now.stored c.args.self.now.stored (search rules) refl refl

-- it was read
pub returns-in_err-hear-clause-stream : goal.returns-in_err-hear-clause-stream
returns-in_err-hear-clause-stream g c = λ lasts.
    heard_there g.S.Read.remaining c.args.key c.args.self.now.links.items c.in-Some-slot.link
    c.hear.new.self c.args.self.now.stored c.hear.new.stored (search rules) c.hear.ensures.stream

pub returns-in-Some-slot-clause-stream : goal.returns-in-Some-slot-clause-stream
returns-in-Some-slot-clause-stream g c = λ lasts.
    heard_there g.S.Read.remaining c.args.key c.args.self.now.links.items c.in-Some-slot.link
    c.hear.new.self c.args.self.now.stored c.hear.new.stored (search rules) c.hear.ensures.stream
