use Rattle.feed_connections.specs.Served.{HaveCome}
use Rattle.feed_connections.proofs.feeds.Feeds.accept_at.Given as goal

abbrev pub invariant-loop : goal.invariant-loop
invariant-loop l = HaveCome l.fn.self.places.items l.self.places.items
