use Rattle.std.proofs.Common.{◌∙◌}
use Rattle.peer_connections.proofs.Reaching.{over_at, reaches_late_end, reaches_same, reaches_then}
use Rattle.peer_connections.proofs.Pairing.{paired_ended}
use Rattle.peer_connections.proofs.Seeing.{seen_ended}
use Rattle.peer_connections.proofs.connections.Connections.end_late.Goals as goal

-- its session has ended
pub note_closing-requires : goal.note_closing-requires
note_closing-requires g c = over_at c.args.key c.args.self.now.stored _ c.finish.ensures

pub returns-clause-moves : goal.returns-clause-moves
returns-clause-moves g c =
    reaches_then _ _ _ _ (reaches_late_end c.args.key _ _ c.finish.ensures)
    (reaches_same _ _ _ (c.make_due.ensures.stored ∙ c.note_closing.ensures.stored))

pub invariant_of-self-clause-seen : goal.invariant_of-self-clause-seen
invariant_of-self-clause-seen g c =
    seen_ended _ c.args.key c.args.self.now.stored _ c.finish.ensures c.args.self.now.seen

pub invariant_of-self-clause-fed : goal.invariant_of-self-clause-fed
invariant_of-self-clause-fed g c =
    seen_ended _ c.args.key c.args.self.now.stored _ c.finish.ensures c.args.self.now.fed

pub invariant_of-self-clause-paired : goal.invariant_of-self-clause-paired
invariant_of-self-clause-paired g c =
    paired_ended c.args.key c.args.self.now.links.items c.args.self.now.stored _ c.finish.ensures
    c.args.self.now.paired
