-- The slots as sessions.
use Rattle.std.proofs.Common.{◌≡◌, ℕ, zero, suc, ◌<◌, ◌≤◌, Bool, true, false, List, [], ◌∷◌}
use Rattle.std.proofs.Common.{◌++◌, length, get_or, drop}
use Rattle.std.proofs.Common.{Option, Some, None, refl, ap, sym, ◌∙◌, arith}
use Rattle.std.specs.Prelude.{if◌then◌else◌, is_none, option_map, IsSome}
use Rattle.std.proofs.Math.ListN.{set}
use Rattle.station.specs.declared.peer.Peer.{Peer}
use Rattle.station.specs.Peers.{peer_at, with_notices, with_peer}
use Rattle.station.specs.PeerViews.{session_of, sessions_of, without_key}
use Rattle.station.specs.Sessions.{Grants, Session, Turn, finish, hear, is_read}
use Rattle.site_base.specs.declared.row.Row.{Row}
use Rattle.site_book.specs.Book.{Book}
use Rattle.station.specs.Hearing.{Hears, finish_if, turn_of}
use Rattle.station.specs.Gates.{GateState, admission}
use Rattle.station.specs.Moves.{StationState, admits_at, finish_at, hear_from, rows_since, take_by}
use Rattle.station.specs.Moves.{with_end, with_octets, with_taken, with_turn}
use Rattle.station.specs.Peers.{tell_rows}
use Rattle.station.proofs.Turns.{told_none}
use Rattle.station.proofs.Peers.{map_size, map-with_peer, slots_size, with_peer-twice}

-- the slot at a place, with any default
pub session_found : (k : ℕ) (slots : List (Option Peer)) (d : Option Peer) → k < length slots
    → peer_at (sessions_of slots) k ≡ option_map session_of (get_or slots k d)
session_found k [] d within = absurd (omega arith)
session_found zero (p ∷ slots) d within = refl
session_found (suc k) (p ∷ slots) d within = session_found k slots d (omega arith)

-- no slot is there
pub nobody_there : (k : ℕ) (slots : List (Option Peer)) → length slots ≤ k
    → peer_at (sessions_of slots) k ≡ None
nobody_there k [] beyond = refl
nobody_there zero (p ∷ slots) beyond = absurd (omega arith)
nobody_there (suc k) (p ∷ slots) beyond = nobody_there k slots (omega arith)

-- .. in a list of sessions
pub nobody_beyond : (k : ℕ) (peers : List (Option Session)) → length peers ≤ k
    → peer_at peers k ≡ None
nobody_beyond k [] beyond = refl
nobody_beyond zero (p ∷ peers) beyond = absurd (omega (arith, beyond))
nobody_beyond (suc k) (p ∷ peers) beyond = nobody_beyond k peers (omega (arith, beyond))

pub sessions_set : (k : ℕ) (slots : List (Option Peer)) (y : Option Peer) → k < length slots
    → sessions_of (set slots k y) ≡ with_peer k (option_map session_of y) (sessions_of slots)
sessions_set k [] y within = absurd (omega arith)
sessions_set zero (p ∷ slots) y within = refl
sessions_set (suc k) (p ∷ slots) y within =
    ap (λ ps. option_map session_of p ∷ ps) (sessions_set k slots y (omega arith))

-- a slot that is empty stays so
still_empty : (k : ℕ) (slots : List (Option Peer)) (d : Option Peer) → k < length slots
    → get_or slots k d ≡ None → sessions_of (set slots k None) ≡ sessions_of slots
still_empty k [] d within empty = absurd (omega arith)
still_empty zero (p ∷ slots) d within empty =
    ap (λ (q : Option Peer). option_map session_of q ∷ sessions_of slots) (sym empty)
still_empty (suc k) (p ∷ slots) d within empty =
    ap (λ ps. option_map session_of p ∷ ps) (still_empty k slots d (omega arith) empty)

-- what was in a slot is taken out
pub taken_out : (k : ℕ) (slots : List (Option Peer)) (r d : Option Peer) → k < length slots
    → r ≡ get_or slots k d → sessions_of (set slots k None) ≡ without_key k r (sessions_of slots)
taken_out k slots None d within is = still_empty k slots d within (sym is)
taken_out k slots (Some p) d within is = sessions_set k slots None within

pub sessions_size : (slots : List (Option Peer)) → length (sessions_of slots) ≡ length slots
sessions_size [] = refl
sessions_size (p ∷ slots) = omega (arith, sessions_size slots)

-- an empty slot more, before the one of a key or at it
pub alike_next : (k : ℕ) (x : Option Session) (slots : List (Option Peer)) → length slots ≤ k
    → with_peer k x (sessions_of (slots ++ None ∷ [])) ≡ with_peer k x (sessions_of slots)
alike_next zero x [] few = refl
alike_next (suc k) x [] few = refl
alike_next zero x (q ∷ slots) few = absurd (omega arith)
alike_next (suc k) x (q ∷ slots) few =
    ap (λ ps. option_map session_of q ∷ ps) (alike_next k x slots (omega arith))

pub same_next : (k : ℕ) (slots : List (Option Peer))
    → peer_at (sessions_of (slots ++ None ∷ [])) k ≡ peer_at (sessions_of slots) k
same_next zero [] = refl
same_next (suc k) [] = refl
same_next zero (q ∷ slots) = refl
same_next (suc k) (q ∷ slots) = same_next k slots

-- a peer that was taken out, and put back when the others were told
pub put_back : (k : ℕ) (x : Option Session) (rows : List Row) (peers : List (Option Session))
    → with_peer k x (with_notices rows (with_peer k None peers))
    ≡ with_peer k x (with_notices rows peers)
put_back k x rows peers =
    ap (with_peer k x) (map-with_peer (option_map (tell_rows rows)) k None peers refl)
    ∙ with_peer-twice k x None (with_notices rows peers)

-- ---- one slot of many

pub found_again : (i : ℕ) (slots : List (Option Peer)) (d : Option Peer) (e : Option Session)
    → i < length slots → option_map session_of (get_or slots i d) ≡ get_or (sessions_of slots) i e
found_again i [] d e within = absurd (omega arith)
found_again zero (p ∷ slots) d e within = refl
found_again (suc i) (p ∷ slots) d e within = found_again i slots d e (omega arith)

pub sessions_at : (i : ℕ) (slots : List (Option Peer)) (y : Option Peer)
    → sessions_of (set slots i y) ≡ set (sessions_of slots) i (option_map session_of y)
sessions_at i [] y = refl
sessions_at zero (p ∷ slots) y = refl
sessions_at (suc i) (p ∷ slots) y =
    ap (λ ps. option_map session_of p ∷ ps) (sessions_at i slots y)

-- ---- a peer is taken out and put back

-- the peers with one that is there
stays_there : (k : ℕ) (x : Session) (peers : List (Option Session)) → peer_at peers k ≡ Some x
    → with_peer k (Some x) peers ≡ peers
stays_there k x [] there = absurd cc
stays_there zero x (p ∷ peers) there = ap (λ q. q ∷ peers) (sym there)
stays_there (suc k) x (p ∷ peers) there = ap (λ ps. p ∷ ps) (stays_there k x peers there)

put_again : (k : ℕ) (x : Session) (p : Peer) (peers out back : List (Option Session))
    → out ≡ without_key k (Some p) peers → back ≡ with_peer k (Some x) out
    → back ≡ with_peer k (Some x) peers
put_again k x p peers out back taken put =
    put ∙ ap (with_peer k (Some x)) taken ∙ with_peer-twice k (Some x) None peers

abbrev pub state : GateState → Book → List (Option Session) → StationState
state g b peers = record { gates = g; book = b; peers = peers }

-- a peer that is put back when the others were told of the rows of its turn
put_told : (k : ℕ) (x : Session) (p : Peer) (b b' : Book)
    (peers out told back : List (Option Session))
    → out ≡ without_key k (Some p) peers → told ≡ with_notices (rows_since b b') out
    → back ≡ with_peer k (Some x) told
    → back ≡ with_peer k (Some x) (with_notices (rows_since b b') peers)
put_told k x p b b' peers out told back taken tell put =
    put
    ∙ ap (with_peer k (Some x)) (tell ∙ ap (with_notices (rows_since b b')) taken)
    ∙ put_back k (Some x) (rows_since b b') peers

-- as many slots, where one is emptied
pub without_size : (k : ℕ) (r : Option Peer) (peers : List (Option Session))
    → (IsSome r → k < length peers) → length (without_key k r peers) ≡ length peers
without_size k None peers within = refl
without_size k (Some p) peers within = slots_size k None peers (within refl)

-- as many slots, where one is emptied and the others are told
pub told_size : (k : ℕ) (p : Peer) (rows : List Row) (peers out told : List (Option Session))
    → k < length peers → out ≡ without_key k (Some p) peers → told ≡ with_notices rows out
    → length told ≡ length peers
told_size k p rows peers out told within taken tell =
    ap length tell ∙ map_size (option_map (tell_rows rows)) out ∙ ap length taken
    ∙ slots_size k None peers within

pub took : (k n : ℕ) (g : GateState) (b : Book) (peers out back : List (Option Session))
    (p : Peer) (x : Session)
    → Some (session_of p) ≡ peer_at peers k → out ≡ without_key k (Some p) peers
    → x ≡ record (session_of p) { owed = drop n p.outbox }
    → back ≡ with_peer k (Some x) out
    → state g b back ≡ with_taken k n (state g b peers)
took k n g b peers out back p x there taken is put =
    ap (λ ps. state g b ps)
    (put_again k x p peers out back taken put
    ∙ ap (λ y. with_peer k (Some y) peers) is)
    ∙ ap (λ y. take_by k n y (state g b peers)) there

-- .. behind a turn
turned : (k : ℕ) (g : GateState) (b : Book) (q : Peer) (b' : Book) (t : Turn)
    (peers back : List (Option Session)) → turn_of b' q ≡ t
    → back ≡ with_peer k (Some (session_of q)) (with_notices (rows_since b b') peers)
    → state g b' back ≡ with_turn k t (state g b peers)
turned k g b q b' t peers back is put =
    ap (state g b') put
    ∙ ap (λ (u : Turn). state g u.book
    (with_peer k (Some u.session) (with_notices (rows_since b u.book) peers))) is

pub finished_there : (k : ℕ) (g : GateState) (b b' : Book)
    (peers out told back : List (Option Session)) (p q : Peer)
    → Some (session_of p) ≡ peer_at peers k → out ≡ without_key k (Some p) peers
    → turn_of b' q ≡ finish_if (turn_of b p)
    → told ≡ with_notices (rows_since b b') out
    → back ≡ with_peer k (Some (session_of q)) told
    → state g b' back ≡ with_end k (state g b peers)
finished_there k g b b' peers out told back p q there taken is tell put =
    by_test (is_none p.end) is
    ∙ ap (λ y. finish_at k y (state g b peers)) there
  where
    placed : back ≡ with_peer k (Some (session_of q)) (with_notices (rows_since b b') peers)
    placed = put_told k (session_of q) p b b' peers out told back taken tell put

    by_test : (lasts : Bool)
        → turn_of b' q ≡ (if lasts then finish (turn_of b p) else turn_of b p)
        → state g b' back
        ≡ (if lasts then with_turn k (finish (turn_of b p)) (state g b peers)
        else state g b peers)
    by_test true is = turned k g b q b' (finish (turn_of b p)) peers back is placed
    by_test false is =
        turned k g b q b' (turn_of b p) peers back is placed
        ∙ ap (λ ps. state g b (with_peer k (Some (session_of p)) ps)) (sym (told_none b peers))
        ∙ ap (state g b) (stays_there k (session_of p) peers (sym there))

pub heard_there : (k : ℕ) (g : GateState) (piece : List ℕ) (b b' : Book)
    (peers out told back : List (Option Session)) (p q : Peer)
    → Some (session_of p) ≡ peer_at peers k → out ≡ without_key k (Some p) peers
    → is_read (session_of p) ≡ true
    → Hears (admission g out p.door) piece (turn_of b p) (turn_of b' q) out told
    → back ≡ with_peer k (Some (session_of q)) told
    → (memory : Grants) × (state g b' back ≡ with_octets memory k piece (state g b peers))
heard_there k g piece b b' peers out told back p q there taken read hears put = (
  hears.memory,
  (let t = hear (admits_at k p.door (state g b peers)) hears.memory piece (turn_of b p) in
      let is : turn_of b' q ≡ t =
      hears.turn
      ∙ ap (λ o. hear (admission g o p.door) hears.memory piece (turn_of b p)) taken in
      turned k g b q b' t peers back is
      (put_told k (session_of q) p b b' peers out told back taken hears.told put)
      ∙ sym (ap (λ r. if r then with_turn k t (state g b peers) else state g b peers) read)
      ∙ ap (λ y. hear_from hears.memory k piece y (state g b peers)) there),
)

pub heard_seen : (k : ℕ) (piece : List ℕ) (v w s s' : StationState) → v ≡ w → s ≡ s'
    → ((memory : Grants) × (w ≡ with_octets memory k piece s))
    → (memory : Grants) × (v ≡ with_octets memory k piece s')
heard_seen k piece v w s s' after before found =
    (found.0, after ∙ found.1 ∙ ap (with_octets found.0 k piece) before)
