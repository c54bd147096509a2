-- Which rows a move adds to the book.
use Rattle.std.specs.Prelude.{◌≡◌, ◌⊎◌, ℕ, Bool, true, false, List, [], ◌∷◌, ◌++◌, map, Option}
use Rattle.std.specs.Prelude.{Some, None, is_none, if◌then◌else◌}
use Rattle.site_base.specs.declared.actor.Actor.{Actor}
use Rattle.site_base.specs.declared.event.Event.{Event}
use Rattle.site_base.specs.declared.row.Row.{Row}
use Rattle.app_message.specs.Telegram.{Telegram}
use Rattle.site_book.specs.Book.{Book}
use Rattle.peer_talk.specs.Exchanges.{Asked, request_asked, rows_made, sign_off_row}
use Rattle.peer_talk.specs.Exchanges.{signed_on_after}
use Rattle.peer_talk.specs.Text.{requests_in}
use Rattle.station.specs.Moves.{StationState}
use Rattle.station.specs.Peers.{peer_at}
use Rattle.station.specs.Runs.{EndsRelease, Finishes, Leaves, Loses, Move, Says}
use Rattle.station.specs.Sessions.{Session}

-- no row, or the sign-off of this till, if there is one
abbrev pub IsLeaving : Option ℕ → List Row → Type 0
IsLeaving None left = left ≡ []
IsLeaving (Some t) left = (left ≡ []) ⊎ (left ≡ sign_off_row t ∷ [])

-- a session that serves this peer, and is signed on as this till, heard these messages: the first
-- of their requests were asked, in order, and their rows were added, in that order; behind them at
-- most the sign-off of the till that the session is signed on as then
pub record AddsRequests (peer : Option (List ℕ)) (on : Option ℕ) (ms : List Telegram)
    (old new : Book) : Type 0 where
  pub asked : List Asked
  pub left : List Row
  pub leaving : IsLeaving (signed_on_after on asked) left
  pub unasked : List (Actor × Event)
  pub rows : new.rows ≡ (old.rows ++ rows_made asked) ++ left
  pub requests : requests_in peer ms ≡ map request_asked asked ++ unasked

-- no octets are heard with a move, and the station itself asks nothing
abbrev pub is_silent : Move → Bool
is_silent (Says memory k octets) = false
is_silent (EndsRelease on off p) = false
is_silent (Loses memory p) = false
is_silent m = true

-- the till that a session that lasts signed on and didn't sign off
abbrev pub till_of : Option Session → Option ℕ
till_of None = None
till_of (Some x) = if is_none x.end then x.talk.on else None

-- the till that is left with a move: where a peer's octets end, or it leaves
abbrev pub till_left : Move → StationState → Option ℕ
till_left (Finishes k) s = till_of (peer_at s.peers k)
till_left (Leaves k) s = till_of (peer_at s.peers k)
till_left m s = None

-- no row was added, but at most the sign-off of this till
pub record AddsSignOff (on : Option ℕ) (old new : Book) : Type 0 where
  pub left : List Row
  pub leaving : IsLeaving on left
  pub rows : new.rows ≡ old.rows ++ left
