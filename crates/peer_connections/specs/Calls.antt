-- What a call at a peer's connection does: to what the peer sent, to what it got, and to the
-- station.
use Rattle.std.specs.Prelude.{◌≡◌, ◌≤◌, ℕ, List, [], length, take, true, Option}
use Rattle.std.specs.Io.KnownBytes.{Appends, Consumes, IsAtEnd, Keeps}
use Rattle.station.specs.declared.sizes.TheConstants.{HEARD_OCTETS}
use Rattle.station.specs.Moves.{StationState, with_end, with_octets, with_taken}
use Rattle.station.specs.Reads.{is_read_at}
use Rattle.journal.specs.Memory.{HasRoomToHear, IsSameOrForgets}
use Rattle.journal.specs.Stored.{StoredState, is_all_stored, told_at, with_station}
use Rattle.station.specs.Sessions.{Grants}
use Rattle.connection_calls.specs.declared.call.Call.{Call}
use Rattle.connection_calls.specs.declared.call.Call.TheVariants.{Ended, Failed, Passed}

-- so many octets that the peer sent were heard, no more than in one read
pub record HearsOctets (n key : ℕ) (left left' : Option (List ℕ)) (s s' : StationState)
    : Type 0 where
  pub octets : List ℕ
  pub memory : Grants
  pub size : length octets ≡ n
  pub few : n ≤ HEARD_OCTETS
  pub read : Consumes left left' octets
  pub heard : s' ≡ with_octets memory key octets s

-- a read: octets were heard, or that no more come, or can come; else nothing was read, and nothing
-- is changed
abbrev pub HearsCall : Call → ℕ → Option (List ℕ) → Option (List ℕ) → StationState → StationState
    → Type 0
HearsCall (Passed n) key left left' s s' = HearsOctets n key left left' s s'
HearsCall Ended key left left' s s' =
    Consumes left left' [] × (s' ≡ with_end key s) × IsAtEnd left'
HearsCall Failed key left left' s s' = Keeps left left' × (s' ≡ with_end key s)
HearsCall call key left left' s s' = Keeps left left' × (s' ≡ s)

-- room is made for the rows of a read, where there may be none, and then it is read, of a peer that
-- is read from
pub record HearsWithRoom (call : Call) (key : ℕ) (left left' : Option (List ℕ))
    (s s' : StationState) : Type 0 where
  pub ready : StationState
  pub makes : IsSameOrForgets s ready
  pub room : HasRoomToHear ready.book
  pub of_read : is_read_at ready key ≡ true
  pub hears : HearsCall call key left left' ready s'

-- a write, while each row is stored: the peer got the front of what it may be told, and is owed the
-- rest; else it got nothing, and nothing is changed
abbrev pub SendsCall : Call → ℕ → Option (List ℕ) → Option (List ℕ) → StoredState → StoredState
    → Type 0
SendsCall (Passed n) key got got' s s' =
    Appends got got' (take n (told_at s key))
    × (s' ≡ with_station (with_taken key n s.station) s) × (is_all_stored s ≡ true)
SendsCall Ended key got got' s s' = ⊥
SendsCall call key got got' s s' = Appends got got' [] × (s' ≡ s)
