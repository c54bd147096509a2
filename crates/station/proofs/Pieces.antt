-- What each session keeps through moves that hear only such pieces.
use Rattle.std.proofs.Common.{◌≡◌, ℕ, Bool, true, false, List, [], ◌∷◌, drop, Option, Some, None}
use Rattle.std.proofs.Common.{refl, sym, subst}
use Rattle.std.specs.Prelude.{if◌then◌else◌, is_none, nat_lt, option_map, slice_get}
use Rattle.site_base.specs.declared.row.Row.{Row}
use Rattle.conversation.specs.Books.{outcome_at, with_outcome}
use Rattle.peer_talk.specs.Text.{left_over}
use Rattle.site_book.specs.Book.{Book}
use Rattle.station.specs.declared.gates.Admission.{Admission}
use Rattle.station.specs.declared.peer_end.PeerEnd.{PeerEnd}
use Rattle.station.specs.declared.sizes.TheConstants.{FREE_PLACES}
use Rattle.station.specs.Moves.{StationState, admits_at, finish_at, free, hear_from, rows_since}
use Rattle.station.specs.Moves.{take_by, with_book, with_end, with_turn}
use Rattle.station.specs.Peers.{peer_at, tell_rows, with_notices, with_peer}
use Rattle.station.specs.Places.{is_place_at}
use Rattle.station.specs.Runs.{AllSay, Arrives, EndsRelease, Finishes, Forgets, Leaves, Loses, Move}
use Rattle.station.specs.Runs.{Says, Takes, after, after_move, arrive, give, give_at}
use Rattle.station.specs.Sessions.{Grants, Session, Turn, end_by, end_session, finish, hear, is_read}
use Rattle.station.specs.Sessions.{opening_session, without_till}
use Rattle.station.proofs.Keeping.{Acts, EachHolds, HoldsAt, lost, own_acts, release_ended, turn_at}
use Rattle.station.proofs.Peers.{at_slot, peer_at-map}

-- S holds of a session that has heard nothing, and of every later one, where each piece may be
-- heard.
pub record PiecesKeep (May : List ℕ → Type 0) (S : Session → Type 0) : Type 0 where
  pub opens : (door : Option (List ℕ)) → S (opening_session door)
  pub told : (rows : List Row) (x : Session) → S x → S (tell_rows rows x)
  pub hears : (admits : List ℕ → Admission) (g : Grants) (piece : List ℕ) (t : Turn) → May piece
      → is_read t.session ≡ true → S t.session → S (hear admits g piece t).session
  pub ends : (end : PeerEnd) (t : Turn) → S t.session → S (end_session end t).session
  pub takes : (n : ℕ) (x : Session) → S x → S (record x { owed = drop n x.owed })

module _ {May : List ℕ → Type 0} {S : Session → Type 0} (keeps : PiecesKeep May S) where
  slot_told : (rows : List Row) (y : Option Session) → HoldsAt S y
      → HoldsAt S (option_map (tell_rows rows) y)
  slot_told rows None kept = tt
  slot_told rows (Some x) kept = keeps.told rows x kept

  all_told : (rows : List Row) (s : StationState) → EachHolds S s → (j : ℕ)
      → HoldsAt S (peer_at (with_notices rows s.peers) j)
  all_told rows s each j =
      subst (HoldsAt S) (sym (peer_at-map (option_map (tell_rows rows)) j s.peers refl))
      (slot_told rows (peer_at s.peers j) (each j))

  turned : (k : ℕ) (t : Turn) (s : StationState) → S t.session → EachHolds S s
      → EachHolds S (with_turn k t s)
  turned k t s kept each j =
      let rows = rows_since s.book t.book in
      at_slot (HoldsAt S) k j (Some t.session) (with_notices rows s.peers) (λ same. kept)
      (λ other. all_told rows s each j)

  placed : (k : ℕ) (y : Option Session) (s : StationState) → HoldsAt S y → EachHolds S s
      → EachHolds S (record s { peers = with_peer k y s.peers })
  placed k y s kept each j =
      at_slot (HoldsAt S) k j y s.peers (λ same. kept) (λ other. each j)

  given : (is_place : Bool) (k : ℕ) (door : Option (List ℕ)) (y : Option Session)
      (s : StationState) → EachHolds S s → EachHolds S (give is_place k door y s)
  given true k door None s each =
      placed k (Some (opening_session door)) s (keeps.opens door) each
  given false k door None s each = each
  given true k door (Some x) s each = each
  given false k door (Some x) s each = each

  arrived : (k : ℕ) (door : Option ℕ) (s : StationState) → EachHolds S s
      → EachHolds S (arrive k door s)
  arrived k None s each = given (nat_lt k FREE_PLACES) k None (peer_at s.peers k) s each
  arrived k (Some door) s each = at_door (slice_get s.gates.doors door)
    where
      at_door : (node : Option (List ℕ)) → EachHolds S (give_at k door node s)
      at_door None = each
      at_door (Some node) =
          given (is_place_at door k) k (Some node) (peer_at s.peers k) s each

  said : (memory : Grants) (k : ℕ) (octets : List ℕ) (y : Option Session) (s : StationState)
      → peer_at s.peers k ≡ y → May octets → EachHolds S s
      → EachHolds S (hear_from memory k octets y s)
  said memory k octets None s there may each = each
  said memory k octets (Some x) s there may each = by_test (is_read x) refl
    where
      kept : S x
      kept = subst (HoldsAt S) there (each k)

      by_test : (b : Bool) → is_read x ≡ b
          → EachHolds S (if b
          then with_turn k (hear (admits_at k x.door s) memory octets (turn_at s x)) s
          else s)
      by_test true read =
          turned k (hear (admits_at k x.door s) memory octets (turn_at s x)) s
          (keeps.hears (admits_at k x.door s) memory octets (turn_at s x) may read kept) each
      by_test false read = each

  ended : (k : ℕ) (y : Option Session) (s : StationState) → peer_at s.peers k ≡ y
      → EachHolds S s → EachHolds S (finish_at k y s)
  ended k None s there each = each
  ended k (Some x) s there each = by_end (is_none x.end)
    where
      by_end : (lasts : Bool)
          → EachHolds S (if lasts then with_turn k (finish (turn_at s x)) s else s)
      by_end true =
          turned k (finish (turn_at s x)) s
          (keeps.ends (end_by (left_over x.held.rest)) (turn_at s x)
          (subst (HoldsAt S) there (each k))) each
      by_end false = each

  freed : (k : ℕ) (y : Option Session) (s : StationState) → EachHolds S s
      → EachHolds S (free k y s)
  freed k None s each = each
  freed k (Some x) s each = placed k None s tt each

  taken : (k n : ℕ) (y : Option Session) (s : StationState) → peer_at s.peers k ≡ y
      → EachHolds S s → EachHolds S (take_by k n y s)
  taken k n None s there each = each
  taken k n (Some x) s there each =
      placed k (Some (record x { owed = drop n x.owed })) s
      (keeps.takes n x (subst (HoldsAt S) there (each k))) each

  booked : (b : Book) (s : StationState) → EachHolds S s → EachHolds S (with_book b s)
  booked b s each j = all_told (rows_since s.book b) s each j

  acted : (s : StationState) → EachHolds S s → Acts (EachHolds S) s
  acted = own_acts (EachHolds S) (record {
    asks = λ memory actor event s own each.
        booked (with_outcome actor event (outcome_at memory s.book actor event) s.book) s each;
    leaves = λ t s each. booked (without_till (Some t) s.book) s each;
  })

  pub moves_kept : (ms : List Move) (s : StationState) → AllSay May ms → EachHolds S s
      → EachHolds S (after ms s)
  moves_kept [] s say each = each
  moves_kept (Arrives k door ∷ ms) s say each =
      moves_kept ms (arrive k door s) say (arrived k door s each)
  moves_kept (Says memory k octets ∷ ms) s say each =
      moves_kept ms (after_move (Says memory k octets) s) say.1
      (said memory k octets (peer_at s.peers k) s refl say.0 each)
  moves_kept (Takes k n ∷ ms) s say each =
      moves_kept ms (after_move (Takes k n) s) say (taken k n (peer_at s.peers k) s refl each)
  moves_kept (Finishes k ∷ ms) s say each =
      moves_kept ms (with_end k s) say (ended k (peer_at s.peers k) s refl each)
  moves_kept (Leaves k ∷ ms) s say each =
      moves_kept ms (after_move (Leaves k) s) say
      (freed k (peer_at (with_end k s).peers k) (with_end k s)
      (ended k (peer_at s.peers k) s refl each))
  moves_kept (EndsRelease on off p ∷ ms) s say each =
      moves_kept ms (after_move (EndsRelease on off p) s) say
      (release_ended s each (acted s each) on off p s.gates.house refl)
  moves_kept (Loses memory p ∷ ms) s say each =
      moves_kept ms (after_move (Loses memory p) s) say (lost s each (acted s each) memory p)
  moves_kept (Forgets ∷ ms) s say each = moves_kept ms (after_move Forgets s) say each
