-- What is done with a station and its journal: moves, and nothing else. Each read finds room, and
-- the journal goes on.
use Rattle.std.specs.Prelude.{◌≡◌, ◌≤◌, List, [], ◌∷◌, length, ⊤}
use Rattle.station.specs.declared.sizes.TheConstants.{HEARD_OCTETS}
use Rattle.station.specs.Moves.{StationState}
use Rattle.station.specs.Runs.{Move, Says, after, after_move}
use Rattle.journal.specs.Memory.{HasRoomToHear}
use Rattle.journal.specs.Stored.{JournalGoesOn, StoredState}

-- if octets are heard with this move, they are those of one read, and the book has room for their
-- rows
abbrev pub FindsRoom : Move → StationState → Type 0
FindsRoom (Says memory k octets) s = (length octets ≤ HEARD_OCTETS) × HasRoomToHear s.book
FindsRoom m s = ⊤

-- .. of each of these moves
abbrev pub FindRoom : List Move → StationState → Type 0
FindRoom [] s = ⊤
FindRoom (m ∷ ms) s = FindsRoom m s × FindRoom ms (after_move m s)

-- each of these moves is one of those that are allowed where it comes
abbrev pub AreAllowed : (Move → StationState → Type 0) → List Move → StationState → Type 0
AreAllowed allowed [] s = ⊤
AreAllowed allowed (m ∷ ms) s = allowed m s × AreAllowed allowed ms (after_move m s)

-- Moves that are allowed lead from a station to a later one, each read among them finds room, and
-- its journal goes on.
pub record ReachesBy (allowed : Move → StationState → Type 0) (earlier later : StoredState)
    : Type 0 where
  pub moves : List Move
  pub lead : later.station ≡ after moves earlier.station
  pub room : FindRoom moves earlier.station
  pub only : AreAllowed allowed moves earlier.station
  pub journal : JournalGoesOn earlier.journal later.journal

abbrev pub IsAny : Move → StationState → Type 0
IsAny m s = ⊤

-- .. any moves
abbrev pub Reaches : StoredState → StoredState → Type 0
Reaches earlier later = ReachesBy IsAny earlier later
