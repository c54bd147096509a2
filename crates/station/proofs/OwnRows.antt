-- What a station makes alone: sign-offs, the house till's rows, and those of lost dispensers.
use Rattle.std.proofs.Common.{◌≡◌, inl, inr, ℕ, ◌==◌, Bool, true, false, List, [], ◌∷◌, ◌++◌}
use Rattle.std.proofs.Common.{Option, Some, None, Ok, Err, refl, ap, sym, subst, ◌∙◌}
use Rattle.std.proofs.Common.{append_assoc, append-nil}
use Rattle.std.specs.Prelude.{if◌then◌else◌, map}
use Rattle.std.proofs.lemmas.Bool.{false≢true}
use Rattle.std.specs.List.{AllByRecursion}
use Rattle.site_base.specs.declared.actor.Actor.{Actor}
use Rattle.site_base.specs.declared.actor.Actor.TheVariants.{Dispenser, Till}
use Rattle.site_base.specs.declared.event.Event.{Event}
use Rattle.site_base.specs.declared.event.Event.TheVariants.{Offline, SignOn, Terminate}
use Rattle.site_base.specs.declared.row.Row.{Row}
use Rattle.device_map.specs.declared.ids.TheConstants.{DISPENSER_SUBNET}
use Rattle.device_map.proofs.Results.{equal}
use Rattle.site_book.specs.Book.{Book}
use Rattle.app_message.specs.Stream.{fed_by}
use Rattle.peer_talk.specs.Exchanges.{Asked, Outcome, request_asked, row_made}
use Rattle.peer_talk.specs.Text.{requests_in}
use Rattle.conversation.specs.Books.{outcome_at}
use Rattle.station.specs.Adding.{AddsSignOff, IsLeaving, till_left}
use Rattle.station.specs.Gates.{count_at}
use Rattle.station.specs.Moves.{StationState, end_release_by, is_released_at, lose}
use Rattle.station.specs.Moves.{with_own_row, with_release_ended}
use Rattle.station.specs.Neighbours.{ActsAlone, AreHeardOf, AreHeardWith, IsHouseRow}
use Rattle.station.specs.Neighbours.{IsMadeAlone, IsReleaseEnd, TheStationActsAloneSo}
use Rattle.station.specs.Peers.{peer_at}
use Rattle.station.specs.Reads.{is_read_at, is_read_of}
use Rattle.station.specs.Runs.{Arrives, EndsRelease, Finishes, Forgets, Leaves as Gone, Loses}
use Rattle.station.specs.Runs.{Move, Says, Takes, after_move}
use Rattle.station.specs.Sessions.{Grants, Session, is_read}
use Rattle.station.proofs.Adding.{leaves_till, octets_ask, octets_unheard, silent_moves}

-- ---- rows

abbrev AreMadeAlone : StationState → List Row → Type 0
AreMadeAlone s rows = AllByRecursion (IsMadeAlone s) rows

both_alone : (s : StationState) (a b : List Row) → AreMadeAlone s a → AreMadeAlone s b
    → AreMadeAlone s (a ++ b)
both_alone s [] b first last = last
both_alone s (r ∷ a) b first last = (first.0, both_alone s a b first.1 last)

left_alone : (s : StationState) (on : Option ℕ) (left : List Row) → IsLeaving on left
    → AreMadeAlone s left
left_alone s None left is = subst (AreMadeAlone s) (sym is) tt
left_alone s (Some t) left (inl none) = subst (AreMadeAlone s) (sym none) tt
left_alone s (Some t) left (inr one) =
    subst (AreMadeAlone s) (sym one) (inl (t, refl), tt)

-- the row of what the station asks, if there is one
made_alone : (s : StationState) (actor : Actor) (event : Event) (outcome : Outcome)
    → ((r : Row) → r.actor ≡ actor → r.event ≡ event → IsMadeAlone s r)
    → AreMadeAlone s (row_made actor event outcome)
made_alone s actor event (Ok reply) is = (is _ refl refl, tt)
made_alone s actor event (Err no_row) is = tt

-- ---- moves

-- rows that nobody asked for
alone : (m : Move) (s : StationState) (rows : List Row)
    → (after_move m s).book.rows ≡ s.book.rows ++ rows → AreMadeAlone s rows
    → ((asked : List Asked) → asked ≡ [] → AreHeardWith m s asked) → ActsAlone m s
alone m s rows is each unheard = record {
  asked = [];
  heard = unheard [] refl;
  alone = rows;
  rows = is ∙ ap (λ rs. rs ++ rows) (sym (append-nil s.book.rows));
  each = each;
}

-- at most a sign-off
signs_off_alone : (m : Move) (s : StationState)
    → ((asked : List Asked) → asked ≡ [] → AreHeardWith m s asked)
    → AddsSignOff (till_left m s) s.book (after_move m s).book → ActsAlone m s
signs_off_alone m s unheard adds =
    alone m s adds.left adds.rows (left_alone s (till_left m s) adds.left adds.leaving) unheard

-- octets are heard
said_alone : (memory : Grants) (k : ℕ) (octets : List ℕ) (s : StationState)
    → ActsAlone (Says memory k octets) s
said_alone memory k octets s = by_read (is_read_at s k) refl
  where
    nothing : is_read_at s k ≡ false → ActsAlone (Says memory k octets) s
    nothing unread =
        alone (Says memory k octets) s []
        (ap (λ (t : StationState). t.book.rows) (octets_unheard s memory k octets unread)
        ∙ sym (append-nil s.book.rows))
        tt (λ asked none. none_heard (peer_at s.peers k) asked none)
      where
        none_heard : (y : Option Session) (asked : List Asked) → asked ≡ []
            → AreHeardOf y octets asked
        none_heard None asked none = none
        none_heard (Some x) asked none = (
          requests_in x.talk.peer (fed_by x.held octets).messages,
          ap (λ a. map request_asked a
              ++ requests_in x.talk.peer (fed_by x.held octets).messages) (sym none),
        )

    heard : (x : Session) → peer_at s.peers k ≡ Some x → is_read x ≡ true
        → ActsAlone (Says memory k octets) s
    heard x there read =
        let adds = octets_ask s memory k octets x there read in
        record {
          asked = adds.asked;
          heard = subst (λ y. AreHeardOf y octets adds.asked) (sym there)
              (adds.unasked, adds.requests);
          alone = adds.left;
          rows = adds.rows;
          each = left_alone s _ adds.left adds.leaving;
        }

    by_slot : (y : Option Session) → peer_at s.peers k ≡ y → is_read_at s k ≡ true
        → ActsAlone (Says memory k octets) s
    by_slot None there read =
        absurd (false≢true (sym (ap is_read_of there) ∙ read))
    by_slot (Some x) there read = heard x there (sym (ap is_read_of there) ∙ read)

    by_read : (b : Bool) → is_read_at s k ≡ b → ActsAlone (Says memory k octets) s
    by_read true read = by_slot (peer_at s.peers k) refl read
    by_read false unread = nothing unread

-- ---- the station itself

-- the house till ends a release
house_alone : (on off : Bool) (t p : ℕ) (s : StationState) → s.gates.house ≡ Some t
    → is_released_at s.book p ≡ true
    → (rows : List Row) × ((with_release_ended on off t p s).book.rows ≡ s.book.rows ++ rows)
    × AreMadeAlone s rows
house_alone on off t p s house released =
    let first = with_own_row on (Till t) SignOn s in
    let second = with_own_row off (Till t) (Terminate p) first in
    let one = row_made (Till t) SignOn (outcome_at on s.book (Till t) SignOn) in
    let two = row_made (Till t) (Terminate p) (outcome_at off first.book (Till t) (Terminate p)) in
    let three = leaves_till (Some t) second.book in (
      (one ++ two) ++ three.left,
      three.rows ∙ ap (λ rs. rs ++ three.left) (append_assoc s.book.rows one two)
          ∙ append_assoc s.book.rows (one ++ two) three.left,
      both_alone s (one ++ two) three.left
          (both_alone s one two
          (made_alone s (Till t) SignOn _
          (λ r actor event. inr (inl (house_row r actor (inl event)))))
          (made_alone s (Till t) (Terminate p) _
          (λ r actor event. inr (inl (house_row r actor (inr event))))))
          (left_alone s (Some t) three.left three.leaving),
    )
  where
    house_row : (r : Row) → r.actor ≡ Till t → IsReleaseEnd p r.event → IsHouseRow s r
    house_row r actor event = record {
      till = t;
      point = p;
      house = house;
      released = released;
      actor = actor;
      event = event;
    }

abbrev AddsAlone : StationState → Book → Type 0
AddsAlone s b = (rows : List Row) × (b.rows ≡ s.book.rows ++ rows) × AreMadeAlone s rows

nothing_added : (s : StationState) → AddsAlone s s.book
nothing_added s = ([], sym (append-nil s.book.rows), tt)

released_alone : (on off : Bool) (p : ℕ) (s : StationState) (house : Option ℕ)
    → s.gates.house ≡ house → AddsAlone s (end_release_by on off p house s).book
released_alone on off p s None is = nothing_added s
released_alone on off p s (Some t) is = by_test (is_released_at s.book p) refl
  where
    by_test : (b : Bool) → is_released_at s.book p ≡ b
        → AddsAlone s (if b then with_release_ended on off t p s else s).book
    by_test true released = house_alone on off t p s is released
    by_test false other = nothing_added s

lost_alone : (memory : Bool) (p : ℕ) (s : StationState) → AddsAlone s (lose memory p s).book
lost_alone memory p s = by_test (count_at (DISPENSER_SUBNET ∷ p ∷ []) s.peers == 0) refl
  where
    gone_row : (count_at (DISPENSER_SUBNET ∷ p ∷ []) s.peers == 0) ≡ true → (r : Row)
        → r.actor ≡ Dispenser p → r.event ≡ Offline p → IsMadeAlone s r
    gone_row gone r actor event = inr (inr (record {
      point = p;
      gone = equal (count_at (DISPENSER_SUBNET ∷ p ∷ []) s.peers) 0 gone;
      actor = actor;
      event = event;
    }))

    by_test : (b : Bool) → (count_at (DISPENSER_SUBNET ∷ p ∷ []) s.peers == 0) ≡ b
        → AddsAlone s (if b then with_own_row memory (Dispenser p) (Offline p) s else s).book
    by_test true gone = (
      row_made (Dispenser p) (Offline p) (outcome_at memory s.book (Dispenser p) (Offline p)),
      refl,
      made_alone s (Dispenser p) (Offline p) _ (gone_row gone),
    )
    by_test false there = nothing_added s

pub acts_alone : TheStationActsAloneSo
acts_alone (Arrives k door) s =
    signs_off_alone (Arrives k door) s (λ asked none. none) (silent_moves (Arrives k door) s refl)
acts_alone (Says memory k octets) s = said_alone memory k octets s
acts_alone (Takes k n) s =
    signs_off_alone (Takes k n) s (λ asked none. none) (silent_moves (Takes k n) s refl)
acts_alone (Finishes k) s =
    signs_off_alone (Finishes k) s (λ asked none. none) (silent_moves (Finishes k) s refl)
acts_alone (Gone k) s =
    signs_off_alone (Gone k) s (λ asked none. none) (silent_moves (Gone k) s refl)
acts_alone (EndsRelease on off p) s =
    let adds = released_alone on off p s s.gates.house refl in
    alone (EndsRelease on off p) s adds.0 adds.1 adds.2 (λ asked none. none)
acts_alone (Loses memory p) s =
    let adds = lost_alone memory p s in
    alone (Loses memory p) s adds.0 adds.1 adds.2 (λ asked none. none)
acts_alone Forgets s =
    signs_off_alone Forgets s (λ asked none. none) (silent_moves Forgets s refl)
