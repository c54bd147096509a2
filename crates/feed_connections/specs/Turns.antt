-- A turn of the connection of a feed's peer.
use Rattle.std.specs.Prelude.{ℕ, List, ◌++◌}
use Rattle.row_json.specs.LastRows.{Last}
use Rattle.row_feed.specs.Feeds.{FeedState}
use Rattle.row_feed.specs.FeedLaws.{AreAfter, Move, Served}

-- a peer of a history whose last rows are these, which has said and taken so much
abbrev pub served_at : List (List ℕ) → Last → FeedState → List ℕ → List ℕ → Served
served_at stored rows feed said taken =
    record { stored = stored; fed = rows; feed = feed; said = said; taken = taken }

-- moves of a peer, while no row is stored: it was heard, and has taken, so much more
pub record Turns (rows : Last) (old new : FeedState) : Type 0 where
  pub moves : List Move
  pub heard : List ℕ
  pub sent : List ℕ
  pub goes : (stored : List (List ℕ)) (said taken : List ℕ)
      → AreAfter moves (served_at stored rows old said taken)
      (served_at stored rows new (said ++ heard) (taken ++ sent))
