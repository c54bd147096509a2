-- The connection of a peer that comes, and those of peers that leave for it.
use Rattle.std.specs.Prelude.{◌≡◌, ◌≢◌, ◌⊎◌, ◌==◌, ◌||◌, ℕ, Bool, true, false, List, [], ◌∷◌}
use Rattle.std.specs.Prelude.{Option}
use Rattle.std.specs.Prelude.{None, get_or, ⊤}
use Rattle.station.specs.Runs.{Leaves, Move}
use Rattle.journal.specs.Stored.{StoredState}
use Rattle.peer_connections.specs.declared.link.Link.{Link}
use Rattle.peer_connections.specs.declared.places.Arrival.{Arrival}
use Rattle.peer_connections.specs.declared.places.Arrival.TheVariants.{Done, NoMemory, NoPlace}
use Rattle.peer_connections.specs.Allowed.{IsDismissal, IsWelcome}
use Rattle.peer_connections.specs.Links.{StayOrGo, StaysOrGoes, has_link}
use Rattle.peer_connections.specs.Reaches.{ReachesBy}
use Rattle.peer_connections.specs.Streams.{known_at}

-- the connection of this key is the one over this stream, as far as anything is known of it
abbrev pub IsOver : {S : Type 0} → (S → Option (List ℕ)) → (S → Option (List ℕ)) → S
    → List (Option (Link S)) → ℕ → Type 0
IsOver left got stream links k =
    (known_at left links k ≡ left stream) × (known_at got links k ≡ got stream)

-- Of all connections each stays as it is, or is there no more; but at one key there may be the one
-- over this stream, which has just come.
pub record OneComes {S : Type 0} (left got : S → Option (List ℕ)) (stream : S)
    (links links' : List (Option (Link S))) : Type 0 where
  pub key : ℕ
  pub others : (k : ℕ) → k ≢ key → StaysOrGoes links links' k
  pub came : (StaysOrGoes links links' key) ⊎ (IsOver left got stream links' key)

-- whoever gets no place has its stream back, and each connection is what it was
abbrev pub IsTurnedAway : {S : Type 0} → S → Arrival S → List (Option (Link S))
    → List (Option (Link S)) → Type 0
IsTurnedAway stream Done links links' = ⊤
IsTurnedAway stream (NoPlace back) links links' = (back ≡ stream) × (links' ≡ links)
IsTurnedAway stream (NoMemory back) links links' = (back ≡ stream) × (links' ≡ links)

-- ---- who leaves

-- the peer of this key leaves with a move
abbrev pub is_leave : ℕ → Move → Bool
is_leave k (Leaves j) = j == k
is_leave k m = false

-- .. with one of these
abbrev pub leaves_in : ℕ → List Move → Bool
leaves_in k [] = false
leaves_in k (m ∷ ms) = is_leave k m || leaves_in k ms

-- Peers that aren't served leave, of this door or over TCP, and their connections with them; no
-- other connection goes.
pub record Dismisses {L : Type 0} (door : Option ℕ) (links links' : List (Option L))
    (earlier later : StoredState) : Type 0 where
  pub moves : ReachesBy (IsDismissal door) earlier later
  pub stay : StayOrGo links links'
  pub gone : (k : ℕ) → leaves_in k moves.moves ≡ true → get_or links' k None ≡ None
  pub went : (k : ℕ) → has_link links k ≡ true → has_link links' k ≡ false
      → leaves_in k moves.moves ≡ true

-- A peer comes over this stream, at a door or over TCP. Those who leave for it take their
-- connections with them, and no other goes: at such a key there is none then, or the one over this
-- stream. That stands at a key that was free, or whose peer has left.
pub record Welcomes {S : Type 0} (left got : S → Option (List ℕ)) (door : Option ℕ) (stream : S)
    (links links' : List (Option (Link S))) (earlier later : StoredState) : Type 0 where
  pub moves : ReachesBy (IsWelcome door) earlier later
  pub comes : OneComes left got stream links links'
  pub gone : (k : ℕ) → leaves_in k moves.moves ≡ true
      → (get_or links' k None ≡ None) ⊎ (IsOver left got stream links' k)
  pub went : (k : ℕ) → has_link links k ≡ true → has_link links' k ≡ false
      → leaves_in k moves.moves ≡ true
  pub fresh : (k : ℕ) → (StaysOrGoes links links' k) ⊎ (has_link links k ≡ false)
      ⊎ (leaves_in k moves.moves ≡ true)
