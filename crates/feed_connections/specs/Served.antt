-- The links of the feed's peers, by their places.
use Rattle.std.specs.Prelude.{◌≡◌, ℕ, List, Option, Some, None, get_or, ◌⊎◌, ⊤}
use Rattle.row_json.specs.LastRows.{Last}
use Rattle.row_feed.specs.Feeds.{FeedState, new_feed}
use Rattle.feed_connections.specs.declared.feed_place.FeedPlace.{FeedPlace}
use Rattle.feed_connections.specs.Turns.{Turns}

-- the feed of the peer at a place, if there is one
abbrev pub feed_of : Option FeedPlace → Option FeedState
feed_of None = None
feed_of (Some place) = Some place.link

-- A place: whoever is there was there, and has had turns with these last rows, or has come
-- meanwhile, and has had such turns since. Nobody may be left.
abbrev pub IsServed : Last → Option FeedState → Option FeedState → Type 0
IsServed rows old None = ⊤
IsServed rows None (Some new) = Turns rows new_feed new
IsServed rows (Some old) (Some new) = Turns rows old new ⊎ Turns rows new_feed new

-- .. each place
pub record AreServed (rows : Last) (old new : List (Option FeedPlace)) : Type 0 where
  pub each : (k : ℕ) → IsServed rows (feed_of (get_or old k None)) (feed_of (get_or new k None))

-- a place is as it was, or a peer has just come there
abbrev pub HasCome : Option FeedState → Option FeedState → Type 0
HasCome old new = (new ≡ old) ⊎ (new ≡ Some new_feed)

-- .. each place
pub record HaveCome (old new : List (Option FeedPlace)) : Type 0 where
  pub each : (k : ℕ) → HasCome (feed_of (get_or old k None)) (feed_of (get_or new k None))
