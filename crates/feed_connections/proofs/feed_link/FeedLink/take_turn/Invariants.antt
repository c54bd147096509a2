use Rattle.feed_connections.specs.Turns.{Turns}
use Rattle.feed_connections.proofs.feed_link.FeedLink.take_turn.Given as goal

abbrev pub invariant-loop : goal.invariant-loop
invariant-loop g l = Turns l.fn.rows l.fn.self l.self
