use Rattle.std.proofs.Common.{ap, ◌∙◌}
use Rattle.journal.specs.Stored.{StoredState}
use Rattle.peer_connections.specs.Allowed.{lasts_at}
use Rattle.peer_connections.proofs.Known.{gone_there}
use Rattle.peer_connections.proofs.Reaching.{reaches_gone, reaches_same, reaches_then}
use Rattle.peer_connections.proofs.connections.Connections.end_connection.Goals as goal

pub returns-then-eq-clause-moves : goal.returns-then-eq-clause-moves
returns-then-eq-clause-moves g c = reaches_gone _ _ _ c.requires.ended c.remove.ensures.left

pub returns-then-shut-clause-moves : goal.returns-then-shut-clause-moves
returns-then-shut-clause-moves g c =
    reaches_then _ _ _ _ (reaches_same _ _ _ c.shut.ensures.stored)
    (reaches_gone c.args.key _ _
    (ap (λ (s : StoredState). lasts_at s.station c.args.key) c.shut.ensures.stored ∙ c.requires.ended)
    c.remove-then-shut.ensures.left)

-- whoever has left isn't there
pub returns-then-eq-clause-stays : goal.returns-then-eq-clause-stays
returns-then-eq-clause-stays g c = λ there.
    absurd (gone_there c.args.key c.args.self.now.stored.station c.remove.new.self.stored.station _
    c.remove.new.self.paired (ap (λ (s : StoredState). s.station) c.remove.ensures.left) there)

pub returns-then-shut-clause-stays : goal.returns-then-shut-clause-stays
returns-then-shut-clause-stays g c = λ there.
    absurd (gone_there c.args.key c.shut.new.self.stored.station
    c.remove-then-shut.new.self.stored.station _ c.remove-then-shut.new.self.paired
    (ap (λ (s : StoredState). s.station) c.remove-then-shut.ensures.left) there)
