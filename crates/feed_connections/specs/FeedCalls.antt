-- What a call at the connection of a feed's peer does: to what the peer sent, to what it got, and
-- to its feed.
use Rattle.std.specs.Prelude.{◌≡◌, ℕ, List, [], length, take, Option}
use Rattle.std.specs.Io.KnownBytes.{Appends, Consumes, IsAtEnd, Keeps}
use Rattle.connection_calls.specs.declared.call.Call.{Call}
use Rattle.connection_calls.specs.declared.call.Call.TheVariants.{Ended, Passed}
use Rattle.row_feed.specs.Feeds.{FeedState, Hears, with_taken}

-- so many octets that the peer sent were heard, while this row is next
pub record HearsOctets (n next : ℕ) (left left' : Option (List ℕ)) (s s' : FeedState) : Type 0 where
  pub octets : List ℕ
  pub size : length octets ≡ n
  pub read : Consumes left left' octets
  pub heard : Hears next octets s s'

-- a read: octets were heard; or no more come, or nothing was read
abbrev pub HearsFeed : Call → ℕ → Option (List ℕ) → Option (List ℕ) → FeedState → FeedState
    → Type 0
HearsFeed (Passed n) next left left' s s' = HearsOctets n next left left' s s'
HearsFeed Ended next left left' s s' = IsAtEnd left' × (s' ≡ s)
HearsFeed call next left left' s s' = Keeps left left' × (s' ≡ s)

-- a write: the peer got the front of what is pending, and the rest is pending still; or it got
-- nothing
abbrev pub SendsFeed : Call → Option (List ℕ) → Option (List ℕ) → FeedState → FeedState → Type 0
SendsFeed (Passed n) got got' s s' =
    Appends got got' (take n s.pending) × (s' ≡ with_taken n s)
SendsFeed Ended got got' s s' = ⊥
SendsFeed call got got' s s' = Appends got got' [] × (s' ≡ s)
