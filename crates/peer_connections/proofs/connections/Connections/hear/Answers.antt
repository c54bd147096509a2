use Rattle.std.proofs.Common.{ap}
use Rattle.peer_connections.proofs.Known.{heard_kept}
use Rattle.peer_connections.proofs.connections.Connections.hear.Goals as goal

pub returns-then-branch-clause-stream : goal.returns-then-branch-clause-stream
returns-then-branch-clause-stream g c = λ lasts.
    heard_kept g.S.Read.remaining c.args.key c.args.self.now.links.items
    c.hear_link.new.self.links.items c.note_heard.new.self.links.items c.args.self.now.stored
    c.hear_link.new.self.stored c.note_heard.new.self.stored
    (ap (λ x. x.items) c.note_heard.ensures.links) c.note_heard.ensures.stored
    (c.hear_link.ensures.stream lasts)
