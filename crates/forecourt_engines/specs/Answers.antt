-- What a message is answered with, the change that it makes, and the book that it leads to.
use Rattle.std.specs.Prelude.{ℕ, Bool, true, false, List, [], ◌∷◌, ◌++◌, Option, Some, None}
use Rattle.std.specs.Prelude.{Result, Ok, Err, if◌then◌else◌}
use Rattle.site_base.specs.declared.actor.Actor.{Actor}
use Rattle.site_base.specs.declared.event.Event.{Event}
use Rattle.site_base.specs.declared.refusal.NoRow.TheVariants.{BookFull}
use Rattle.site_base.specs.Refusals.{no_row_number}
use Rattle.app_message.specs.Telegram.{Telegram}
use Rattle.hex_lines.specs.Lines.{line_of}
use Rattle.device_map.specs.declared.fault.MapFault.{MapFault}
use Rattle.device_map.specs.Changes.{change_of}
use Rattle.device_map.specs.Faults.{map_number}
use Rattle.device_map.specs.Requests.{request_at}
use Rattle.device_map.specs.Replies.{reply_message, number_message}
use Rattle.site_book.specs.Book.{Book, is_full, book_reply, next_row, with_row_of}

-- the answer to a request that means this: the mapping's fault, a full book, or the reply
abbrev pub answer_meaning : Book → Telegram → Result (Actor × Event) MapFault → Telegram
answer_meaning b m (Err f) = number_message m (map_number f)
answer_meaning b m (Ok x) = if is_full b then number_message m (no_row_number BookFull) else
    reply_message m (book_reply b x.0 x.1)

abbrev pub book_meaning : Book → Result (Actor × Event) MapFault → Book
book_meaning b (Err f) = b
book_meaning b (Ok x) = if is_full b then b else with_row_of b x.0 x.1

-- the message that answers a message
abbrev pub answer_to : Book → Telegram → Telegram
answer_to b m = answer_meaning b m (request_at m)

-- the book after a message: one more row where it means an event and the book isn't full
abbrev pub book_after : Book → Telegram → Book
book_after b m = book_meaning b (request_at m)

-- a change as a line, if there is one
abbrev pub change_line : Option Telegram → List ℕ
change_line None = []
change_line (Some m) = line_of m

-- the change of the row that a message makes, if it makes one
abbrev pub change_meaning : Book → Result (Actor × Event) MapFault → Option Telegram
change_meaning b (Err f) = None
change_meaning b (Ok x) = if is_full b then None else change_of (next_row b x.0 x.1)

abbrev pub change_to : Book → Telegram → Option Telegram
change_to b m = change_meaning b (request_at m)

-- what answers messages: a book, and whether the changes of its rows are told too
pub record Answerer : Type 0 where
  pub book : Book
  pub changes : Bool

-- the line of the change that a message makes, where changes are told
abbrev pub told_change : Bool → Option Telegram → List ℕ
told_change true change = change_line change
told_change false change = []

-- the lines for a message: its answer, and then the change
abbrev pub lines_for : Answerer → Telegram → List ℕ
lines_for a m = line_of (answer_to a.book m) ++ told_change a.changes (change_to a.book m)

abbrev pub after_message : Answerer → Telegram → Answerer
after_message a m = record a { book = book_after a.book m }

-- the lines for messages, in order
abbrev pub answers_to : Answerer → List Telegram → List ℕ
answers_to a [] = []
answers_to a (m ∷ ms) = lines_for a m ++ answers_to (after_message a m) ms

-- .. and what answers those that follow
abbrev pub after_messages : Answerer → List Telegram → Answerer
after_messages a [] = a
after_messages a (m ∷ ms) = after_messages (after_message a m) ms
