-- Notices: what the peer at a node is told of changes. A change is told to the node that its
-- message goes to, which is the dispenser of its point.
use Rattle.std.specs.Prelude.{ℕ, List, [], ◌∷◌, ◌++◌, slice_index, Option, Some, None}
use Rattle.std.specs.Prelude.{if◌then◌else◌}
use Rattle.site_base.specs.declared.event.Event.{Event}
use Rattle.site_base.specs.declared.row.Row.{Row}
use Rattle.app_message.specs.Spelling.{spelling}
use Rattle.app_message.specs.Telegram.{Telegram}
use Rattle.device_map.specs.Changes.{change_by, change_of}
use Rattle.site_book.specs.Book.{Book, site_of_book}
use Rattle.peer_talk.specs.Text.{is_same_node}
use Rattle.station.specs.Standing.{standing_at}

-- a change as the peer at this node is told it, if it goes there
abbrev pub notice_at : Option Telegram → Option (List ℕ) → Option (List ℕ)
notice_at None _ = None
notice_at (Some m) None = None
notice_at (Some m) (Some node) = if is_same_node node m.to then Some (spelling m) else None

-- its octets, if there are any
abbrev pub octets_of : Option (List ℕ) → List ℕ
octets_of None = []
octets_of (Some octets) = octets

-- the notice of a row
abbrev pub row_notice : Option (List ℕ) → Row → Option (List ℕ)
row_notice node r = notice_at (change_of r) node

-- the notices of rows, in order
abbrev pub notices_of : Option (List ℕ) → List Row → List ℕ
notices_of _ [] = []
notices_of node (r ∷ rows) = octets_of (row_notice node r) ++ notices_of node rows

-- the notices of events, as if they were accepted now
abbrev pub events_text : List ℕ → List Event → List ℕ
events_text node [] = []
events_text node (e ∷ es) = octets_of (notice_at (change_by e) (Some node)) ++ events_text node es

-- the standing notices of the peer at a node: what stands at the point whose dispenser it is
abbrev pub standing_text : Book → List ℕ → List ℕ
standing_text b node = events_text node (standing_at (site_of_book b) (slice_index node 1))
