-- Room in the book for the rows of a read.
use Rattle.std.specs.Prelude.{◌+◌, ◌≤◌, ℕ, List, length, take}
use Rattle.app_message.specs.Stream.{fed_by, held_part}
use Rattle.site_book.specs.Book.{Book}
use Rattle.station.specs.Sessions.{Grants, Turn, answer_all}

-- the book has room for so many rows more
abbrev pub HasRoomFor : ℕ → Book → Type 0
HasRoomFor n b = length b.rows + n ≤ b.forgotten + b.config.rows

-- a session hears octets, and so many of the messages that they bring are answered
abbrev pub with_answers : ℕ → Grants → List ℕ → Turn → Turn
with_answers n memory octets t =
    let fed = fed_by t.session.held octets in
    answer_all memory.messages (take n fed.messages)
    (record t { session = record t.session { held = held_part fed } })
