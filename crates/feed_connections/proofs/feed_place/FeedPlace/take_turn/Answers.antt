use Rattle.std.proofs.Common.{refl}
use Rattle.feed_connections.proofs.Turning.{no_turn}
use Rattle.feed_connections.proofs.feed_place.FeedPlace.take_turn.Goals as goal

pub returns-then-not-self : goal.returns-then-not-self
returns-then-not-self c stays = no_turn _ _ _ refl
