-- What a peer is owed at most.
use Rattle.std.specs.Prelude.{◌≡◌, ◌≤◌, ◌+◌, ◌*◌, ℕ, ◌==◌, Bool, false, List, length}
use Rattle.std.specs.Prelude.{Option, Some, None, slice_index}
use Rattle.device_map.specs.declared.ids.TheConstants.{DISPENSER_SUBNET}
use Rattle.site_book.specs.Book.{Book}
use Rattle.station.specs.declared.sizes.TheConstants.{HEARD_OCTETS, NOTICE_LIMIT, NOTICE_OCTETS}
use Rattle.station.specs.declared.sizes.TheConstants.{PIECE_ROWS, READ_LIMIT}
use Rattle.station.specs.Gates.{GateState}
use Rattle.station.specs.Peers.{peer_at}
use Rattle.station.specs.Runs.{AllSay, Move, after, opening_station}
use Rattle.station.specs.Sessions.{Session}

-- what is said to one message has so many octets at most, and so has the refusal of a stream
abbrev pub REPLY_OCTETS : ℕ
REPLY_OCTETS = 96

-- .. and what stands at a point, as its dispenser is told it
abbrev pub STANDING_OCTETS : ℕ
STANDING_OCTETS = 64

-- Who is owed less than the limit is read from once more. Then come what is said to the messages of
-- a piece, what stands, and the refusal of a stream.
abbrev pub REPLIES_OWED : ℕ
REPLIES_OWED = READ_LIMIT + PIECE_ROWS * REPLY_OCTETS + STANDING_OCTETS + REPLY_OCTETS

-- .. and with notices, of which one more comes while the limit isn't passed
abbrev pub MOST_OWED : ℕ
MOST_OWED = NOTICE_LIMIT + NOTICE_OCTETS

-- notices go to the node of a dispenser
abbrev pub is_noticed : Option (List ℕ) → Bool
is_noticed None = false
is_noticed (Some node) = slice_index node 0 == DISPENSER_SUBNET

-- with each of these moves no more is heard than with one read
abbrev pub AreReads : List Move → Type 0
AreReads ms = AllSay (λ octets. length octets ≤ HEARD_OCTETS) ms

pub record IsBounded (x : Session) : Type 0 where
  pub replies : is_noticed x.talk.peer ≡ false → length x.owed ≤ REPLIES_OWED
  pub all : length x.owed ≤ MOST_OWED

-- A peer that takes nothing is owed no more than that, whatever it sends, and whatever others do.
abbrev pub OwedIsBounded : Type 0
OwedIsBounded = (g : GateState) (b : Book) (ms : List Move) (k : ℕ) (x : Session) → AreReads ms
    → peer_at (after ms (opening_station g b)).peers k ≡ Some x → IsBounded x
