-- What a peer says is what is read of its connection, and what is sent there is what it may be
-- told.
use Rattle.std.specs.Prelude.{◌≡◌, ◌⊎◌, ℕ, List, [], ◌∷◌, ◌++◌, Option, Some, None, false}
use Rattle.std.specs.Prelude.{get_or, true}
use Rattle.std.specs.Io.KnownBytes.{Appends, Consumes}
use Rattle.station.specs.Moves.{StationState}
use Rattle.station.specs.Reads.{owed_at}
use Rattle.station.specs.Runs.{Move, Says}
use Rattle.journal.specs.Stored.{StoredState, told_at}
use Rattle.peer_connections.specs.declared.link.Link.{Link}
use Rattle.peer_connections.specs.Allowed.{IsClosing, IsHearing, IsSending}
use Rattle.peer_connections.specs.Links.{OthersStay, has_link}
use Rattle.peer_connections.specs.Reaches.{ReachesBy}
use Rattle.peer_connections.specs.Sending.{WorksAt}

-- the octets that come with a move
abbrev pub said_with : Move → List ℕ
said_with (Says memory k octets) = octets
said_with m = []

-- .. and with moves, one after another
abbrev pub said_in : List Move → List ℕ
said_in [] = []
said_in (m ∷ ms) = said_with m ++ said_in ms

-- The peer of this key is heard: what it says is what was read of its connection.
pub record HearsStream (key : ℕ) (left left' : Option (List ℕ)) (earlier later : StoredState)
    : Type 0 where
  pub moves : ReachesBy (IsHearing key) earlier later
  pub read : Consumes left left' (said_in moves.moves)

-- The peer of this key is sent to: its connection got the front of what it is owed, and may be
-- told, and it is owed the rest still, and may be told it.
pub record SendsStream (key : ℕ) (got got' : Option (List ℕ)) (earlier later : StoredState)
    : Type 0 where
  pub moves : ReachesBy (IsSending key) earlier later
  pub sent : List ℕ
  pub written : Appends got got' sent
  pub rest : told_at earlier key ≡ sent ++ told_at later key
  pub owed : owed_at earlier.station key ≡ sent ++ owed_at later.station key

-- ---- by a key's own connection

-- what is known of a connection: what it still brings, say, or what it got
abbrev pub known_of : {S : Type 0} → (S → Option (List ℕ)) → Option (Link S) → Option (List ℕ)
known_of known None = None
known_of known (Some link) = known link.stream

-- .. of that of a key
abbrev pub known_at : {S : Type 0} → (S → Option (List ℕ)) → List (Option (Link S)) → ℕ
    → Option (List ℕ)
known_at known links k = known_of known (get_or links k None)

-- .. of each connection it is what it was
abbrev pub StayKnown : {S : Type 0} → (S → Option (List ℕ)) → List (Option (Link S))
    → List (Option (Link S)) → Type 0
StayKnown known links links' = (k : ℕ) → known_at known links' k ≡ known_at known links k

-- A key's connection, if it is still there, is the one that was, and what is known of it stays:
-- nothing is read of it, say, or it got no more.
abbrev pub StaysKnownAt : {S : Type 0} → (S → Option (List ℕ)) → ℕ → List (Option (Link S))
    → List (Option (Link S)) → Type 0
StaysKnownAt known key links links' =
    has_link links' key ≡ true
    → (has_link links key ≡ true) × (known_at known links' key ≡ known_at known links key)

-- .. that of each key
abbrev pub AllStayKnown : {S : Type 0} → (S → Option (List ℕ)) → List (Option (Link S))
    → List (Option (Link S)) → Type 0
AllStayKnown known links links' = (k : ℕ) → StaysKnownAt known k links links'

-- The peer of this key is sent to, by its own connection. Then that follows its session, and gets
-- no more. If the peer stays, its connection hasn't failed, and nothing else is done.
pub record SendsAndFollows {S : Type 0} (got : S → Option (List ℕ)) (key : ℕ)
    (links links' : List (Option (Link S))) (earlier later : StoredState) : Type 0 where
  pub sent_to : StoredState
  pub between : List (Option (Link S))
  pub others : OthersStay key links between
  pub sends : SendsStream key (known_at got links key) (known_at got between key) earlier sent_to
  pub follows : ReachesBy (IsClosing key) sent_to later
  pub no_more : StaysKnownAt got key between links'
  pub there : has_link links' key ≡ true → has_link links key ≡ true
  pub stays : has_link links' key ≡ true → later ≡ sent_to
  pub works : WorksAt (get_or links' key None)

-- ---- of all connections

-- The connection of a key is the one that was, and what it got stays. What it got more is the front
-- of what its peer was owed, and of what rows that were added since tell it; the rest is owed
-- still.
pub record GetsMore {S : Type 0} (got : S → Option (List ℕ)) (key : ℕ)
    (links links' : List (Option (Link S))) (earlier later : StationState) : Type 0 where
  pub was : has_link links key ≡ true
  pub sent : List ℕ
  pub written : Appends (known_at got links key) (known_at got links' key) sent
  pub added : List ℕ
  pub owed : owed_at earlier key ++ added ≡ sent ++ owed_at later key

-- .. that of each key, if it is still there
abbrev pub AllGetMore : {S : Type 0} → (S → Option (List ℕ)) → List (Option (Link S))
    → List (Option (Link S)) → StationState → StationState → Type 0
AllGetMore got links links' earlier later =
    (k : ℕ) → has_link links' k ≡ true → GetsMore got k links links' earlier later

-- What the connection of a key got is the front of what its peer might be told, and it may still be
-- told the rest.
pub record Continues {S : Type 0} (got : S → Option (List ℕ)) (key : ℕ)
    (links links' : List (Option (Link S))) (might may : List ℕ) : Type 0 where
  pub sent : List ℕ
  pub written : Appends (known_at got links key) (known_at got links' key) sent
  pub rest : might ≡ sent ++ may

-- .. of each that is still there
abbrev pub AllContinue : {S : Type 0} → (S → Option (List ℕ)) → List (Option (Link S))
    → List (Option (Link S)) → (ℕ → List ℕ) → StoredState → Type 0
AllContinue got links links' might later =
    (k : ℕ) → has_link links' k ≡ true → Continues got k links links' (might k) (told_at later k)
