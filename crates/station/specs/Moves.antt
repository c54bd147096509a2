-- The station: who may speak where, a book, and its peers. What each move does.
use Rattle.std.specs.Prelude.{◌≡◌, ℕ, ◌==◌, Bool, true, false, is_none, List, [], ◌∷◌, length, drop}
use Rattle.std.specs.Prelude.{Option, Some, None, if◌then◌else◌}
use Rattle.site_base.specs.declared.actor.Actor.{Actor}
use Rattle.site_base.specs.declared.actor.Actor.TheVariants.{Dispenser, Till}
use Rattle.site_base.specs.declared.event.Event.{Event}
use Rattle.site_base.specs.declared.event.Event.TheVariants.{Offline, SignOn, Terminate}
use Rattle.site_base.specs.declared.row.Row.{Row}
use Rattle.site_base.specs.declared.state.PointState.{PointState}
use Rattle.site_base.specs.declared.state.PointState.TheVariants.{Authorised}
use Rattle.site_base.specs.declared.view.PointView.{PointView}
use Rattle.site_book.specs.Book.{Book, site_of_book, with_rows_forgotten}
use Rattle.conversation.specs.Books.{outcome_at, with_outcome}
use Rattle.device_map.specs.declared.ids.TheConstants.{DISPENSER_SUBNET}
use Rattle.written_site.specs.SiteState.{view_point}
use Rattle.station.specs.declared.gates.Admission.{Admission}
use Rattle.station.specs.Gates.{GateState, admission, count_at}
use Rattle.station.specs.Sessions.{Grants, Session, Turn, finish, hear, is_read}
use Rattle.station.specs.Sessions.{opening_session, without_till}
use Rattle.station.specs.Peers.{peer_at, with_notices, with_peer}

pub record StationState : Type 0 where
  pub gates : GateState
  pub book : Book
  pub peers : List (Option Session)

-- the rows of a later book that an earlier one doesn't have
abbrev pub rows_since : Book → Book → List Row
rows_since earlier later = drop (length earlier.rows) later.rows

-- the session of a key has come so far, and all others are told of its rows
abbrev pub with_turn : ℕ → Turn → StationState → StationState
with_turn k t s = record s {
  book = t.book;
  peers = with_peer k (Some t.session) (with_notices (rows_since s.book t.book) s.peers);
}

-- ---- moves

-- a peer comes, at this door or at none, and gets this key
abbrev pub with_arrival : ℕ → Option (List ℕ) → StationState → StationState
with_arrival k door s = record s { peers = with_peer k (Some (opening_session door)) s.peers }

-- whether an originator may open the session of a key that came at this door, or at none, beside
-- the others
abbrev pub admits_at : ℕ → Option (List ℕ) → StationState → List ℕ → Admission
admits_at k door s = admission s.gates (with_peer k None s.peers) door

abbrev pub hear_from : Grants → ℕ → List ℕ → Option Session → StationState → StationState
hear_from g k piece None s = s
hear_from g k piece (Some x) s =
    if is_read x
    then with_turn k (hear (admits_at k x.door s) g piece (record { book = s.book; session = x })) s
    else s

-- the octets of a key's peer are heard, where there is one that is read from
abbrev pub with_octets : Grants → ℕ → List ℕ → StationState → StationState
with_octets g k piece s = hear_from g k piece (peer_at s.peers k) s

abbrev pub finish_at : ℕ → Option Session → StationState → StationState
finish_at k None s = s
finish_at k (Some x) s =
    if is_none x.end then with_turn k (finish (record { book = s.book; session = x })) s else s

-- the octets of a key's peer have ended: its session ends, if it lasts
abbrev pub with_end : ℕ → StationState → StationState
with_end k s = finish_at k (peer_at s.peers k) s

abbrev pub free : ℕ → Option Session → StationState → StationState
free k None s = s
free k (Some x) s = record s { peers = with_peer k None s.peers }

-- a key's peer is gone: its session ends, if it lasts, and the key is free
abbrev pub without_peer : ℕ → StationState → StationState
without_peer k s = let after = with_end k s in free k (peer_at after.peers k) after

abbrev pub take_by : ℕ → ℕ → Option Session → StationState → StationState
take_by k n None s = s
take_by k n (Some x) s =
    record s { peers = with_peer k (Some (record x { owed = drop n x.owed })) s.peers }

-- ---- the station itself

-- the book has come so far, and everybody is told of its rows
abbrev pub with_book : Book → StationState → StationState
with_book b s = record s { book = b; peers = with_notices (rows_since s.book b) s.peers }

-- what the station itself asks, and for whom: a till signs on and terminates a point, a dispenser
-- is offline
abbrev pub IsOwnEvent : Actor → Event → Type 0
IsOwnEvent (Till t) SignOn = Unit {0}
IsOwnEvent (Till t) (Terminate p) = Unit {0}
IsOwnEvent (Dispenser p) (Offline q) = p ≡ q
IsOwnEvent actor event = ⊥

-- the station asks for the event of an actor: a row, if there was memory for it
abbrev pub with_own_row : Bool → Actor → Event → StationState → StationState
with_own_row memory actor event s =
    with_book (with_outcome actor event (outcome_at memory s.book actor event) s.book) s

-- released, and no nozzle is lifted
abbrev pub is_released : PointState → Bool
is_released Authorised = true
is_released state = false

abbrev pub is_released_in : Option PointView → Bool
is_released_in None = false
is_released_in (Some v) = is_released v.state

abbrev pub is_released_at : Book → ℕ → Bool
is_released_at b p = is_released_in (view_point (site_of_book b) p)

-- till t ends the release of point p
abbrev pub with_release_ended : Bool → Bool → ℕ → ℕ → StationState → StationState
with_release_ended on off t p s =
    let after = with_own_row off (Till t) (Terminate p) (with_own_row on (Till t) SignOn s) in
    with_book (without_till (Some t) after.book) after

abbrev pub end_release_by : Bool → Bool → ℕ → Option ℕ → StationState → StationState
end_release_by on off p None s = s
end_release_by on off p (Some t) s =
    if is_released_at s.book p then with_release_ended on off t p s else s

-- The house till ends the release of a point, if there is a house till and the point is released:
-- it signs on, terminates the point and signs off. A fuelling that has started stays.
abbrev pub end_release : Bool → Bool → ℕ → StationState → StationState
end_release on off p s = end_release_by on off p s.gates.house s

-- The dispenser of a point is gone: it has no session that lasts. The station says Offline for it.
abbrev pub lose : Bool → ℕ → StationState → StationState
lose memory p s =
    if count_at (DISPENSER_SUBNET ∷ p ∷ []) s.peers == 0
    then with_own_row memory (Dispenser p) (Offline p) s
    else s

-- the book's rows in memory are forgotten
abbrev pub without_old_rows : StationState → StationState
without_old_rows s = record s { book = with_rows_forgotten s.book }

-- a key's peer has taken so many of the octets that it is owed
abbrev pub with_taken : ℕ → ℕ → StationState → StationState
with_taken k n s = take_by k n (peer_at s.peers k) s
