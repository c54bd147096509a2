-- Who is to be sent what it is owed.
use Rattle.std.specs.Prelude.{◌≡◌, ◌≢◌, ◌<◌, ◌≤◌, ◌⊎◌, ℕ, Bool, true, false, List, [], Option, Some}
use Rattle.std.specs.Prelude.{◌++◌, None, get_or, length, slice_get}
use Rattle.site_base.specs.declared.row.Row.{Row}
use Rattle.site_book.specs.Book.{Book}
use Rattle.site_book.specs.Changes.{is_changing}
use Rattle.station.specs.Moves.{StationState}
use Rattle.station.specs.declared.peer_end.PeerEnd.TheVariants.{Behind}
use Rattle.station.specs.Reads.{end_at, owed_at}
use Rattle.journal.specs.Stored.{StoredState, told_at}
use Rattle.peer_connections.specs.declared.change_watch.ChangeWatch.{ChangeWatch}
use Rattle.peer_connections.specs.declared.link.Channel.TheVariants.{Failed}
use Rattle.peer_connections.specs.declared.link.Link.{Link}
use Rattle.peer_connections.specs.Due.{is_due}
use Rattle.peer_connections.specs.Links.{has_link}

-- so many rows were looked at: each one that is forgotten, and none that isn't there
pub record HasSeen (seen : ℕ) (b : Book) : Type 0 where
  pub each : b.forgotten ≤ seen
  pub those : seen ≤ length b.rows

-- a row at this place, or behind it, that a dispenser is told of
pub record HasChangeFrom (place : ℕ) (b : Book) : Type 0 where
  pub at : ℕ
  pub row : Row
  pub since : place ≤ at
  pub there : slice_get b.rows at ≡ Some row
  pub changing : is_changing row ≡ true

-- .. was noted, or wasn't looked at yet
abbrev pub HasChange : ChangeWatch → Book → Type 0
HasChange watch b = (watch.has_changes ≡ true) ⊎ HasChangeFrom watch.rows_seen b

-- the rows of a book, and perhaps more
pub record GoesOn (b later : Book) : Type 0 where
  pub more : List Row
  pub rows : later.rows ≡ b.rows ++ more

-- Whatever rows come behind those of a book: a row that a dispenser is told of, and that was noted
-- or wasn't looked at yet, is so still.
abbrev pub KeepsChanges : ChangeWatch → ChangeWatch → Book → Type 0
KeepsChanges watch watch' b =
    (later : Book) → GoesOn b later → HasChange watch later → HasChange watch' later

abbrev pub is_full : {S : Type 0} → Option (Link S) → Bool
is_full None = false
is_full (Some link) = link.is_full

-- the connection of a key takes no octets for now
abbrev pub is_full_at : {S : Type 0} → List (Option (Link S)) → ℕ → Bool
is_full_at links k = is_full (get_or links k None)

-- each peer that is owed octets is due, but for those whose connections take none for now
abbrev pub OwedAreDue : {S : Type 0} → StationState → List (Option (Link S)) → List ℕ → Type 0
OwedAreDue s links due =
    (k : ℕ) → owed_at s k ≢ [] → (is_due due k ≡ true) ⊎ (is_full_at links k ≡ true)

-- .. so are those whose connections took none
abbrev pub FullAreDue : {S : Type 0} → List (Option (Link S)) → List ℕ → Type 0
FullAreDue links due = (k : ℕ) → is_full_at links k ≡ true → is_due due k ≡ true

-- ---- who was sent to

-- a connection takes no octets for now, its turn was over before all was sent, or it has failed
abbrev pub HasStopped : {S : Type 0} → Link S → Type 0
HasStopped link =
    (link.is_full ≡ true) ⊎ (link.is_unsent ≡ true) ⊎ (link.channel ≡ Failed)

abbrev pub StopsAt : {S : Type 0} → Option (Link S) → Type 0
StopsAt None = ⊥
StopsAt (Some link) = HasStopped link

-- a connection that has failed
abbrev pub FailsAt : {S : Type 0} → Option (Link S) → Type 0
FailsAt None = ⊥
FailsAt (Some link) = link.channel ≡ Failed

-- one that hasn't, or none
abbrev pub WorksAt : {S : Type 0} → Option (Link S) → Type 0
WorksAt l = FailsAt l → ⊥

-- A key's peer, if it was there and is no more, was let go: its session ended since it doesn't take
-- what it is owed, or it is owed nothing.
abbrev pub IsLetGo : {L : Type 0} → ℕ → StationState → List (Option L) → List (Option L) → Type 0
IsLetGo key s links links' =
    has_link links key ≡ true → has_link links' key ≡ false
    → (end_at s key ≡ Some Behind) ⊎ (owed_at s key ≡ [])

-- the peer of a key may be told nothing more, or its connection has stopped
abbrev pub IsSentTo : {S : Type 0} → ℕ → StoredState → List (Option (Link S)) → Type 0
IsSentTo key s links = (told_at s key ≡ []) ⊎ StopsAt (get_or links key None)

-- .. each peer of these keys
abbrev pub AreSentTo : {S : Type 0} → List ℕ → StoredState → List (Option (Link S)) → Type 0
AreSentTo due s links = (k : ℕ) → is_due due k ≡ true → IsSentTo k s links

-- .. each below this key
abbrev pub AllAreSentTo : {S : Type 0} → ℕ → StoredState → List (Option (Link S)) → Type 0
AllAreSentTo last s links = (k : ℕ) → k < last → IsSentTo k s links

-- Each peer that was owed octets may be told nothing more, or its connection has stopped, or took
-- none for then.
abbrev pub OwedAreSentTo : {S : Type 0} → StationState → List (Option (Link S)) → StoredState
    → List (Option (Link S)) → Type 0
OwedAreSentTo s links later links' =
    (k : ℕ) → owed_at s k ≢ [] → (IsSentTo k later links') ⊎ (is_full_at links k ≡ true)
