use Rattle.feed_connections.specs.Served.{HaveCome}
use Rattle.feed_connections.proofs.feeds.Feeds.accept_waiting.Given as goal

abbrev pub invariant-loop-entrance : goal.invariant-loop-entrance
invariant-loop-entrance l = HaveCome l.fn.self.places.items l.self.places.items
