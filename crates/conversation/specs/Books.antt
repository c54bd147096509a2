-- A request at a book: what it is answered, and the book then.
use Rattle.std.specs.Prelude.{◌≡◌, Bool, true, false, ◌++◌, Ok, Err, if◌then◌else◌}
use Rattle.site_base.specs.declared.actor.Actor.{Actor}
use Rattle.site_base.specs.declared.event.Event.{Event}
use Rattle.site_base.specs.declared.refusal.NoRow.TheVariants as norow
use Rattle.site_book.specs.Book.{Book, book_reply, is_full}
use Rattle.peer_talk.specs.Exchanges.{Outcome, row_made}

-- what a request is answered: there is no row where memory is wanting, or the book is full
abbrev pub outcome_at : Bool → Book → Actor → Event → Outcome
outcome_at false b actor event = Err norow.NoMemory
outcome_at true b actor event =
    if is_full b then Err norow.BookFull else Ok (book_reply b actor event)

-- the book with the row of a request that is answered so
abbrev pub with_outcome : Actor → Event → Outcome → Book → Book
with_outcome actor event outcome b = record b { rows = b.rows ++ row_made actor event outcome }

-- it was asked at this book, with memory or without
abbrev pub IsAskedOf : Book → Actor → Event → Outcome → Book → Type 0
IsAskedOf old actor event outcome new =
    ((memory : Bool) × (outcome ≡ outcome_at memory old actor event))
    × (new ≡ with_outcome actor event outcome old)
