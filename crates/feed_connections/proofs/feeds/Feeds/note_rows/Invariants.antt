use Rattle.feed_connections.specs.Served.{AreServed}
use Rattle.feed_connections.proofs.feeds.Feeds.note_rows.Given as goal

abbrev pub invariant-loop-number : goal.invariant-loop-number
invariant-loop-number l = AreServed l.fn.rows l.fn.self.places.items l.self.places.items
