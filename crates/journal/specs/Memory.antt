-- How many rows of a station's book stay in memory.
use Rattle.std.specs.Prelude.{◌≡◌, ◌≤◌, ◌⊎◌, ◌+◌, ◌-◌, ◌^◌, ℕ, Bool, length, nat_le, nat_lt}
use Rattle.std.specs.Prelude.{if◌then◌else◌}
use Rattle.site_book.specs.Book.{Book}
use Rattle.station.specs.declared.sizes.TheConstants.{PIECE_ROWS}
use Rattle.station.specs.Room.{HasRoomFor}
use Rattle.station.specs.Moves.{StationState, without_old_rows}
use Rattle.chapters.specs.declared.reader.TheConstants.{ROWS_IN_MEMORY}

-- of a configuration that allows so many rows: with so many in memory, or more, they are forgotten
-- before a peer is read from
abbrev pub most_in_memory : ℕ → ℕ
most_in_memory rows =
    if nat_lt ((rows - PIECE_ROWS) + 1) ROWS_IN_MEMORY
    then (rows - PIECE_ROWS) + 1
    else ROWS_IN_MEMORY

-- so many rows of a book are in memory, or more
abbrev pub is_crowded : Book → Bool
is_crowded b = nat_le (most_in_memory b.config.rows) (length b.rows - b.forgotten)

-- nothing was done, or the rows in memory were forgotten
abbrev pub IsSameOrForgets : StationState → StationState → Type 0
IsSameOrForgets old new = (new ≡ old) ⊎ (new ≡ without_old_rows old)

-- the book has room for the rows of one read, while there are no more rows than can be forgotten
abbrev pub HasRoomToHear : Book → Type 0
HasRoomToHear b = length b.rows ≤ 2 ^ 62 → HasRoomFor PIECE_ROWS b
