-- The laws of the station, over every list of moves, or over every legal history.
use Rattle.std.specs.Prelude.{◌≡◌, ◌<◌, ◌≤◌, ℕ, true, false, List, ◌++◌, Some, None}
use Rattle.std.specs.Prelude.{Option, is_some, length}
use Rattle.std.specs.List.{AllByRecursion}
use Rattle.site_base.specs.declared.event.Event.{Event}
use Rattle.site_base.specs.declared.row.Row.{Row}
use Rattle.site_base.specs.declared.view.PointView.{PointView}
use Rattle.site_base.specs.Configured.{Configured}
use Rattle.site_base.specs.Events.{has_change, point_named}
use Rattle.app_message.specs.Stream.{fed_by}
use Rattle.written_site.specs.SiteRun.{IsLegal, site_of_rows}
use Rattle.written_site.specs.SiteState.{is_signed_on, opening, view_point}
use Rattle.site_book.specs.Book.{Book, is_full, site_of_book}
use Rattle.station.specs.declared.peer_end.PeerEnd.{PeerEnd}
use Rattle.station.specs.declared.sizes.TheConstants.{HEARD_OCTETS, PIECE_ROWS}
use Rattle.station.specs.Adding.{AddsRequests, AddsSignOff, is_silent, till_left}
use Rattle.station.specs.Knowledge.{learn_all, learn_rows, only_nozzle}
use Rattle.station.specs.Moves.{StationState, with_arrival, with_octets, without_peer}
use Rattle.station.specs.Peers.{peer_at}
use Rattle.station.specs.Gates.{GateState}
use Rattle.station.specs.Reads.{is_read_at}
use Rattle.station.specs.Room.{HasRoomFor, with_answers}
use Rattle.station.specs.Runs.{Move, Stays, after, after_move, heard_of, opening_station, text_to}
use Rattle.station.specs.Sessions.{Grants, Session, is_read}
use Rattle.station.specs.Standing.{standing_events}
use Rattle.station.specs.Stories.{IsTold}

-- A peer that arrives, at whatever station, is told its story, whatever moves come until it leaves:
-- its own, cut in any way, and those of any number of others.
abbrev pub EachPeerIsToldItsStory : Type 0
EachPeerIsToldItsStory = (s : StationState) (k : ℕ) (door : Option (List ℕ)) (ms : List Move)
    → peer_at s.peers k ≡ None → Stays k ms
    → let start = with_arrival k door s in
    (x : Session) × (peer_at (after ms start).peers k ≡ Some x)
    × IsTold s.book.config s.book.rows (after ms start).book.rows (heard_of k ms start)
    (text_to k ms start) x.talk.on x.end

-- octets that begin with these
pub record Begins (front octets : List ℕ) : Type 0 where
  pub rest : List ℕ
  pub parts : octets ≡ front ++ rest

-- What a peer was told stays: with more moves, while it stays, its text only gets more behind it.
-- So it is where its session has ended, too.
abbrev pub WhatWasToldStays : Type 0
WhatWasToldStays = (s : StationState) (k : ℕ) (ms more : List Move) → Stays k more
    → Begins (text_to k ms s) (text_to k (ms ++ more) s)

-- The book's rows are one history, whatever moves come at a station of a book whose rows are one:
-- moves only add rows, and each reply is the written step's at the site that the rows before it led
-- to.
pub record IsOneHistory (g : GateState) (b : Book) (ms more : List Move) : Type 0 where
  pub legal : IsLegal (opening b.config) (after ms (opening_station g b)).book.rows
  pub later : List Row
  pub grows : (after more (after ms (opening_station g b))).book.rows
      ≡ (after ms (opening_station g b)).book.rows ++ later

abbrev pub RowsAreOneHistory : Type 0
RowsAreOneHistory = (g : GateState) (b : Book) (ms more : List Move)
    → IsLegal (opening b.config) b.rows
    → IsOneHistory g b ms more

-- Right behind the move with which a session ends, the till that it signed on and didn't sign off
-- isn't signed on.
abbrev pub EndsLeaveTheirTill : Type 0
EndsLeaveTheirTill = (g : GateState) (b : Book) (ms : List Move) (m : Move) (k : ℕ) (x y : Session)
    (end : PeerEnd) (t : ℕ)
    → peer_at (after ms (opening_station g b)).peers k ≡ Some x → x.end ≡ None
    → peer_at (after_move m (after ms (opening_station g b))).peers k ≡ Some y → y.end ≡ Some end
    → y.talk.on ≡ Some t
    → is_signed_on (site_of_book (after_move m (after ms (opening_station g b))).book) t ≡ false

-- .. nor is it where a peer is gone whose session lasted.
abbrev pub PeersLeaveTheirTill : Type 0
PeersLeaveTheirTill = (s : StationState) (k : ℕ) (x : Session) (t : ℕ)
    → peer_at s.peers k ≡ Some x → x.end ≡ None → x.talk.on ≡ Some t
    → is_signed_on (site_of_book (without_peer k s).book) t ≡ false

-- a session that lasts has signed this till on, and not off
pub record HasSession (s : StationState) (t : ℕ) : Type 0 where
  pub key : ℕ
  pub session : Session
  pub there : peer_at s.peers key ≡ Some session
  pub lasts : session.end ≡ None
  pub on : session.talk.on ≡ Some t

-- Each till that is signed on has such a session, where none was signed on when the station opened.
-- So where nobody is left, no till is signed on.
abbrev pub TillsHaveSessions : Type 0
TillsHaveSessions = (g : GateState) (b : Book) (ms : List Move)
    → ((t : ℕ) → is_signed_on (site_of_book b) t ≡ false)
    → (t : ℕ) → is_signed_on (site_of_book (after ms (opening_station g b)).book) t ≡ true
    → HasSession (after ms (opening_station g b)) t

-- Requests are asked in the order in which they are heard: with the octets of a peer that is read
-- from, the book gets the rows of the first of the requests among the messages that they bring, in
-- their order, and behind them at most the sign-off of the session's till. Octets for a key whose
-- peer isn't read from, or that nobody has, change nothing. Where a peer's octets end, or it
-- leaves, the book gets at most the sign-off of its till, and with arrivals and with what is taken
-- no row.
pub record AreAskedInOrder (s : StationState) : Type 0 where
  pub heard : (memory : Grants) (k : ℕ) (octets : List ℕ) (x : Session)
      → peer_at s.peers k ≡ Some x → is_read x ≡ true
      → AddsRequests x.talk.peer x.talk.on (fed_by x.held octets).messages s.book
      (with_octets memory k octets s).book
  pub unheard : (memory : Grants) (k : ℕ) (octets : List ℕ) → is_read_at s k ≡ false
      → with_octets memory k octets s ≡ s
  pub silent : (m : Move) → is_silent m ≡ true
      → AddsSignOff (till_left m s) s.book (after_move m s).book

abbrev pub RequestsAreAskedInOrder : Type 0
RequestsAreAskedInOrder = (s : StationState) → AreAskedInOrder s

-- No request is answered that the book is full, whatever moves came before, where the book has room
-- for the rows of one read: each message that a read brings to a session that lasts finds room for
-- its row, whatever the octets are. For at most 1,031 octets are held of a message to come, and a
-- message takes eight at least.
abbrev pub StationsAreNeverFull : Type 0
StationsAreNeverFull = (g : GateState) (b : Book) (ms : List Move)
    (k : ℕ) (x : Session) (memory : Grants)
    (octets : List ℕ) (n : ℕ)
    → let s = after ms (opening_station g b) in
    let later = with_answers n memory octets (record { book = s.book; session = x }) in
    peer_at s.peers k ≡ Some x → length octets ≤ HEARD_OCTETS → HasRoomFor PIECE_ROWS s.book
    → n < length (fed_by x.held octets).messages → later.session.end ≡ None
    → is_full later.book ≡ false

-- a change of point p, that its dispenser is told of
abbrev pub IsChangeOf : ℕ → Event → Type 0
IsChangeOf p e = (has_change e ≡ true) × (point_named e ≡ Some p)

abbrev pub AreChangesOf : ℕ → List Event → Type 0
AreChangesOf p events = AllByRecursion (IsChangeOf p) events

-- Each standing notice is a change of the point that stands.
abbrev pub StandingNoticesAreChanges : Type 0
StandingNoticesAreChanges = (p : ℕ) (v : PointView) → AreChangesOf p (standing_events p v)

-- A dispenser that comes back, with its nozzle as it last reported it, and is told what stands at
-- its point knows what one knows that has listened since the day's beginning.
abbrev pub StandingNoticesTellWhatWasMissed : Type 0
StandingNoticesTellWhatWasMissed = (c : Configured) (rows : List Row) (p : ℕ) (v : PointView)
    → IsLegal (opening c) rows → view_point (site_of_rows (opening c) rows) p ≡ Some v
    → learn_all (standing_events p v) (only_nozzle (is_some v.out))
    ≡ learn_rows p rows (only_nozzle false)
