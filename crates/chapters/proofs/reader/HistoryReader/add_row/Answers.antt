use Rattle.chapters.proofs.Reading.{unpaid_applied}
use Rattle.chapters.proofs.reader.HistoryReader.add_row.Goals as goal

pub invariant_of-self : goal.invariant_of-self
invariant_of-self c =
    unpaid_applied c.apply.result c.self.inside.unpaid c.self.inside.book c.apply.new.self
    c.args.actor.now c.args.event.now c.self.invariant c.apply.ensures.row c.apply.ensures.err
