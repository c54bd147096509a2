-- One walk over the station's machine for every law.
--
-- A law of the book shows that a row keeps it (`RowsKeep`, `books_keep`), a law of a session's
-- turns four steps (`Keeps`, `heard_keeps`), a law of every session three facts beside
-- (`EachKeeps`, `each_keep`), and any other law of the station five cases of a move (`Leads`,
-- `moved_keeps`).
use Rattle.std.proofs.Common.{◌≡◌, ℕ, Bool, true, false, List, [], ◌∷◌, ◌++◌, Option, Some, None}
use Rattle.std.proofs.Common.{Ok, Err, drop, refl, ap, sym, subst, ◌∙◌, append-nil}
use Rattle.std.specs.Prelude.{◌&&◌, ◌==◌, if◌then◌else◌, is_none, length, nat_lt, option_map}
use Rattle.std.specs.Prelude.{slice_get}
use Rattle.site_base.specs.declared.actor.Actor.{Actor}
use Rattle.site_base.specs.declared.actor.Actor.TheVariants.{Dispenser, Till}
use Rattle.site_base.specs.declared.event.Event.{Event}
use Rattle.site_base.specs.declared.event.Event.TheVariants.{Offline, SignOff, SignOn, Terminate}
use Rattle.site_base.specs.declared.refusal.NoRow.TheVariants as norow
use Rattle.site_base.specs.declared.row.Row.{Row}
use Rattle.app_message.specs.declared.fault.StreamFault.{StreamFault}
use Rattle.app_message.specs.Spelling.{spelling}
use Rattle.app_message.specs.Stream.{Held, fed_by, held_part}
use Rattle.app_message.specs.Telegram.{Telegram}
use Rattle.device_map.specs.declared.ids.TheConstants.{DISPENSER_SUBNET}
use Rattle.device_map.specs.Replies.{fault_message}
use Rattle.device_map.specs.Requests.{request_at}
use Rattle.site_book.specs.Book.{Book, book_reply, is_full, site_of_book, with_row_of}
use Rattle.site_book.specs.Book.{with_rows_forgotten}
use Rattle.written_site.specs.SiteState.{is_signed_on}
use Rattle.peer_talk.specs.declared.fault.TalkFault.TheVariants as talk
use Rattle.peer_talk.specs.declared.talk.Meaning.{Meaning}
use Rattle.peer_talk.specs.declared.talk.Meaning.TheVariants as meanings
use Rattle.peer_talk.specs.Talks.{IsSpokenBy}
use Rattle.peer_talk.specs.declared.fault.TheConstants.{ORIGINATOR_CHANGED}
use Rattle.peer_talk.specs.Talks.{without_on}
use Rattle.peer_talk.specs.Text.{left_over, meaning_at, number_text}
use Rattle.station.specs.declared.gates.Admission.{Admission}
use Rattle.station.specs.declared.gates.Admission.TheVariants as admissions
use Rattle.station.specs.Gates.{count_at}
use Rattle.peer_talk.proofs.Speakers.{request_meant, spoken_by}
use Rattle.station.specs.declared.peer_end.PeerEnd.{PeerEnd}
use Rattle.station.specs.declared.peer_end.PeerEnd.TheVariants as ends
use Rattle.station.specs.declared.sizes.TheConstants.{FREE_PLACES, NOTICE_LIMIT, READ_LIMIT}
use Rattle.station.specs.Moves.{StationState, finish_at, free, hear_from, rows_since, take_by}
use Rattle.station.specs.Moves.{IsOwnEvent, admits_at, end_release_by, is_released_at, lose}
use Rattle.station.specs.Moves.{with_arrival, with_book, with_end, with_own_row}
use Rattle.station.specs.Moves.{with_release_ended, with_turn, without_old_rows}
use Rattle.station.specs.Notices.{row_notice}
use Rattle.station.specs.Listening.{listener}
use Rattle.station.specs.Peers.{forget_till, peer_at, row_off, tell_notice, tell_row, tell_rows}
use Rattle.station.specs.Peers.{with_notices}
use Rattle.station.specs.Peers.{with_peer}
use Rattle.station.specs.Places.{IsPlaceFor, is_place_at}
use Rattle.station.specs.Runs.{Arrives, EndsRelease, Finishes, Forgets, Leaves, Loses, Move, Says}
use Rattle.station.specs.Runs.{Takes, after, after_move}
use Rattle.station.specs.Runs.{arrive, give, give_at}
use Rattle.station.specs.Sessions.{Granted, Grants, Session, Turn, answer, answer_all}
use Rattle.station.specs.Sessions.{answer_meaning, ask, end_by, end_session, finish, full_grant}
use Rattle.conversation.specs.Books.{outcome_at, with_outcome}
use Rattle.station.specs.Sessions.{admit, admit_first, hear, is_read, no_memory, opening_session}
use Rattle.station.specs.Sessions.{refuse_by, serve, take_messages, tell, tell_last}
use Rattle.station.specs.Sessions.{with_text, without_till}
use Rattle.station.proofs.Notices.{nobody_noticed}
use Rattle.station.proofs.Peers.{at_slot, peer_at-map, peer_at-same}

-- ---- case by case

-- none lasts that has ended
pub ended_lasts : (x : Session) (end : PeerEnd) → x.end ≡ Some end → x.end ≡ None → ⊥
ended_lasts x end over lasts =
    let no : Some end ≡ None = sym over ∙ lasts in
    cc

-- a message is answered, if the session lasts
pub by_lasting : (P : Turn → Type 0) (g : Granted) (m : Telegram) (t : Turn)
    → (t.session.end ≡ None → P (answer_meaning g m (meaning_at t.session.talk.peer m) t))
    → ((end : PeerEnd) → t.session.end ≡ Some end → P t) → P (answer g m t)
by_lasting P g m t lasting ended = by_end t.session.end refl
  where
    by_end : (e : Option PeerEnd) → t.session.end ≡ e
        → P (if is_none e then answer_meaning g m (meaning_at t.session.talk.peer m) t else t)
    by_end None lasts = lasting lasts
    by_end (Some end) over = ended end over

-- messages are answered, one after another, where P speaks of those that are to come
pub by_message : (P : List Telegram → Turn → Type 0)
    → ((g : Granted) (m : Telegram) (ms : List Telegram) (t : Turn) → P (m ∷ ms) t
    → P ms (answer g m t))
    → (gs : List Granted) (ms : List Telegram) (t : Turn) → P ms t → P [] (answer_all gs ms t)
by_message P one gs [] t p = p
by_message P one [] (m ∷ ms) t p =
    by_message P one [] ms (answer full_grant m t) (one full_grant m ms t p)
by_message P one (g ∷ gs) (m ∷ ms) t p =
    by_message P one gs ms (answer g m t) (one g m ms t p)

-- a fault is refused, if there is one and the session lasts
pub by_fault : (P : Turn → Type 0) (memory : Bool) (fault : Option StreamFault) (t : Turn)
    → (fault ≡ None → P t)
    → ((f : StreamFault) → fault ≡ Some f → t.session.end ≡ None
    → P (tell_last memory (spelling (fault_message f)) (ends.Talk (talk.Stream f.fault)) t))
    → ((end : PeerEnd) → t.session.end ≡ Some end → P t) → P (refuse_by memory fault t)
by_fault P memory None t sound faulty ended = sound refl
by_fault P memory (Some f) t sound faulty ended = by_end t.session.end refl
  where
    by_end : (e : Option PeerEnd) → t.session.end ≡ e
        → P (if is_none e
        then tell_last memory (spelling (fault_message f)) (ends.Talk
        (talk.Stream f.fault)) t
        else t)
    by_end None lasts = faulty f refl lasts
    by_end (Some end) over = ended end over

-- messages are answered, if the originator of a first one is admitted
pub by_admission : (P : Turn → Type 0) (admits : List ℕ → Admission) (memory : Bool)
    (gs : List Granted) (ms : List Telegram) (t : Turn)
    → P (answer_all gs ms t)
    → ((m : Telegram) (later : List Telegram) → ms ≡ m ∷ later → t.session.talk.peer ≡ None
    → P (tell_last memory (number_text m ORIGINATOR_CHANGED) (ends.Barred m.from) t))
    → ((m : Telegram) (later : List Telegram) → ms ≡ m ∷ later → t.session.talk.peer ≡ None
    → P (end_session (ends.Crowded m.from) t))
    → P (admit admits memory gs ms t)
by_admission P admits memory gs [] t all barred crowded = all
by_admission P admits memory gs (m ∷ ms) t all barred crowded = by_peer t.session.talk.peer refl
  where
    by_first : t.session.talk.peer ≡ None → (a : Admission) → P (admit_first a memory gs m ms t)
    by_first nobody admissions.Welcome = all
    by_first nobody admissions.Barred = barred m ms refl nobody
    by_first nobody admissions.Crowded = crowded m ms refl nobody

    by_peer : (p : Option (List ℕ)) → t.session.talk.peer ≡ p
        → P (if is_none p then admit_first (admits m.from) memory gs m ms t
        else answer_all gs (m ∷ ms) t)
    by_peer None nobody = by_first nobody (admits m.from)
    by_peer (Some peer) served = all

-- a piece is heard, if there is memory for it
pub by_memory : (P : Turn → Type 0) (admits : List ℕ → Admission) (g : Grants) (piece : List ℕ)
    (t : Turn)
    → P (take_messages admits g (fed_by t.session.held piece) t) → P (end_session no_memory t)
    → P (hear admits g piece t)
by_memory P admits g piece t taken lost = by_piece g.piece
  where
    by_piece : (b : Bool)
        → P (if b then take_messages admits g (fed_by t.session.held piece) t
        else end_session no_memory t)
    by_piece true = taken
    by_piece false = lost

-- ---- what a session keeps

-- A session that lasts keeps P: as it begins to serve an originator, as a request of the one that
-- it serves is answered, as it is told octets, and as it ends.
pub record Keeps (P : Turn → Type 0) : Type 0 where
  pub serves : (from : List ℕ) (t : Turn) → t.session.end ≡ None → P t → P (serve from t)
  pub asks : (memory : Bool) (m : Telegram) (actor : Actor) (event : Event) (t : Turn)
      → t.session.end ≡ None → request_at m ≡ Ok (actor, event)
      → IsSpokenBy actor t.session.talk.peer → P t
      → P (ask actor event (outcome_at memory t.book actor event) t)
  pub tells : (text : List ℕ) (t : Turn) → t.session.end ≡ None → P t → P (with_text text t)
  pub ends : (end : PeerEnd) (t : Turn) → t.session.end ≡ None → P t → P (end_session end t)

-- what comes of a peer: a piece of octets, or their end
pub data Input : Type 0 where
  Piece : (memory : Grants) (octets : List ℕ) → Input
  NoMore : Input

-- a session has heard it, which these may open
abbrev pub after_input : (List ℕ → Admission) → Input → Turn → Turn
after_input admits (Piece memory octets) t = hear admits memory octets t
after_input admits NoMore t = finish t

-- a session that holds these octets of a message to come
abbrev pub holding : Held → Turn → Turn
holding h t = record t { session = record t.session { held = h } }

module _ {P : Turn → Type 0} (keeps : Keeps P) where
  pub told_keeps : (memory : Bool) (text : List ℕ) (t : Turn) → t.session.end ≡ None → P t
      → P (tell memory text t)
  told_keeps true text t lasts p = keeps.tells text t lasts p
  told_keeps false text t lasts p = keeps.ends no_memory t lasts p

  pub last_keeps : (memory : Bool) (text : List ℕ) (end : PeerEnd) (t : Turn) → t.session.end ≡ None
      → P t → P (tell_last memory text end t)
  last_keeps true text end t lasts p =
      keeps.ends end (with_text text t) lasts (keeps.tells text t lasts p)
  last_keeps false text end t lasts p = keeps.ends no_memory t lasts p

  meaning_keeps : (g : Granted) (m : Telegram) (meaning : Meaning) (t : Turn)
      → meaning_at t.session.talk.peer m ≡ meaning → t.session.end ≡ None → P t
      → P (answer_meaning g m meaning t)
  meaning_keeps g m meanings.Another t is lasts p = last_keeps g.text _ _ t lasts p
  meaning_keeps g m (meanings.Fault f) t is lasts p =
      told_keeps g.text _ (serve m.from t) lasts (keeps.serves m.from t lasts p)
  meaning_keeps g m (meanings.Request actor event) t is lasts p =
      let meant = request_meant t.session.talk.peer m actor event is in
      let spoken = spoken_by t.session.talk.peer m actor event meant.0 meant.1 in
      told_keeps g.text _ (ask actor event (outcome_at g.row t.book actor event) (serve m.from t))
      lasts
      (keeps.asks g.row m actor event (serve m.from t) lasts meant.1 spoken
      (keeps.serves m.from t lasts p))

  pub answered_keeps : (g : Granted) (m : Telegram) (t : Turn) → P t → P (answer g m t)
  answered_keeps g m t p =
      by_lasting P g m t
      (λ lasts. meaning_keeps g m (meaning_at t.session.talk.peer m) t refl lasts p)
      (λ end over. p)

  pub all_keep : (gs : List Granted) (ms : List Telegram) (t : Turn) → P t
      → P (answer_all gs ms t)
  all_keep gs ms t p = by_message (λ to_come. P) (λ g m to_come. answered_keeps g m) gs ms t p

  pub admitted_keeps : (admits : List ℕ → Admission) (memory : Bool) (gs : List Granted)
      (ms : List Telegram) (t : Turn)
      → t.session.end ≡ None → P t → P (admit admits memory gs ms t)
  admitted_keeps admits memory gs ms t lasts p =
      by_admission P admits memory gs ms t (all_keep gs ms t p)
      (λ m later is nobody. last_keeps memory _ _ t lasts p)
      (λ m later is nobody. keeps.ends (ends.Crowded m.from) t lasts p)

  pub refused_keeps : (memory : Bool) (fault : Option StreamFault) (t : Turn) → P t
      → P (refuse_by memory fault t)
  refused_keeps memory fault t p =
      by_fault P memory fault t (λ none. p) (λ f some lasts. last_keeps memory _ _ t lasts p)
      (λ end over. p)

  -- whatever comes of its peer
  pub heard_keeps : (admits : List ℕ → Admission) (input : Input) (t : Turn)
      → t.session.end ≡ None → P t
      → ((piece : List ℕ) → P (holding (held_part (fed_by t.session.held piece)) t))
      → P (after_input admits input t)
  heard_keeps admits (Piece g piece) t lasts p holds =
      let fed = fed_by t.session.held piece in
      let start = holding (held_part fed) t in
      by_memory P admits g piece t
      (refused_keeps g.refusal fed.fault (admit admits g.first g.messages fed.messages start)
      (admitted_keeps admits g.first g.messages fed.messages start lasts (holds piece)))
      (keeps.ends no_memory t lasts p)
  heard_keeps admits NoMore t lasts p holds =
      keeps.ends (end_by (left_over t.session.held.rest)) t lasts p

-- ---- where a move leads

-- whose move it is; nobody's is the first key's, which has no part in it
abbrev pub key_of : Move → ℕ
key_of (Arrives k door) = k
key_of (Says memory k octets) = k
key_of (Takes k n) = k
key_of (Finishes k) = k
key_of (Leaves k) = k
key_of (EndsRelease on off p) = 0
key_of (Loses memory p) = 0
key_of Forgets = 0

-- a session at the station's book
abbrev pub turn_at : StationState → Session → Turn
turn_at s x = record { book = s.book; session = x }

-- this session has the key, or nobody
abbrev pub with_slot : ℕ → Option Session → StationState → StationState
with_slot k y s = record s { peers = with_peer k y s.peers }

-- Q holds wherever a move of key k leads: where nothing changes, where a peer comes to a place,
-- behind a turn of a session that lasts, which those may open whom the station admits, where octets
-- are taken, and where a session that has ended is gone.
pub record Leads (Q : StationState → Type 0) (k : ℕ) (s : StationState) : Type 0 where
  pub stays : Q s
  pub comes : (door : Option (List ℕ)) → peer_at s.peers k ≡ None
      → IsPlaceFor s.gates.doors k door → Q (with_arrival k door s)
  pub turns : (input : Input) (x : Session) → peer_at s.peers k ≡ Some x → x.end ≡ None
      → Q (with_turn k (after_input (admits_at k x.door s) input (turn_at s x)) s)
  pub takes : (n : ℕ) (x : Session) → peer_at s.peers k ≡ Some x
      → Q (with_slot k (Some (record x { owed = drop n x.owed })) s)
  pub leaves : (later : StationState) (x : Session) → peer_at later.peers k ≡ Some x
      → is_none x.end ≡ false → Q later → Q (with_slot k None later)

-- a session that is read from lasts
pub read_lasts : (x : Session) → is_read x ≡ true → x.end ≡ None
read_lasts x read = by_end x.end (nat_lt (length x.owed) READ_LIMIT) read
  where
    by_end : (e : Option PeerEnd) (b : Bool) → (is_none e && b) ≡ true → e ≡ None
    by_end None b is = refl
    by_end (Some end) b is = absurd cc

abbrev lasts_at : Option Session → Bool
lasts_at None = false
lasts_at (Some x) = is_none x.end

-- a session whose octets have ended doesn't last
finished_over : (k : ℕ) (y : Option Session) (s : StationState) → peer_at s.peers k ≡ y
    → lasts_at (peer_at (finish_at k y s).peers k) ≡ false
finished_over k None s there = ap lasts_at there
finished_over k (Some x) s there = by_test (is_none x.end) refl
  where
    by_test : (b : Bool) → is_none x.end ≡ b
        → lasts_at (peer_at (if b then with_turn k (finish (turn_at s x)) s else s).peers k)
        ≡ false
    by_test true is = ap lasts_at (peer_at-same k (Some (finish (turn_at s x)).session) _)
    by_test false is = ap lasts_at there ∙ is

module _ {Q : StationState → Type 0} (k : ℕ) (s : StationState) (leads : Leads Q k s) where
  given : (door : Option (List ℕ)) (is_place : Bool) (y : Option Session)
      → (is_place ≡ true → IsPlaceFor s.gates.doors k door) → peer_at s.peers k ≡ y
      → Q (give is_place k door y s)
  given door true None place there = leads.comes door there (place refl)
  given door false None place there = leads.stays
  given door true (Some x) place there = leads.stays
  given door false (Some x) place there = leads.stays

  come : (door : Option ℕ) → Q (arrive k door s)
  come None = given None (nat_lt k FREE_PLACES) (peer_at s.peers k) (λ is. is) refl
  come (Some door) = at_door (slice_get s.gates.doors door) refl
    where
      at_door : (node : Option (List ℕ)) → slice_get s.gates.doors door ≡ node
          → Q (give_at k door node s)
      at_door None none = leads.stays
      at_door (Some node) is =
          given (Some node) (is_place_at door k) (peer_at s.peers k) (λ place. (door, place, is))
          refl

  say : (g : Grants) (piece : List ℕ) (y : Option Session) → peer_at s.peers k ≡ y
      → Q (hear_from g k piece y s)
  say g piece None there = leads.stays
  say g piece (Some x) there = by_test (is_read x) refl
    where
      by_test : (b : Bool) → is_read x ≡ b
          → Q (if b then with_turn k (hear (admits_at k x.door s) g piece (turn_at s x)) s else s)
      by_test true read =
          leads.turns (Piece g piece) x there (read_lasts x read)
      by_test false read = leads.stays

  take : (n : ℕ) (y : Option Session) → peer_at s.peers k ≡ y → Q (take_by k n y s)
  take n None there = leads.stays
  take n (Some x) there = leads.takes n x there

  end : (y : Option Session) → peer_at s.peers k ≡ y → Q (finish_at k y s)
  end None there = leads.stays
  end (Some x) there = by_end x.end refl
    where
      by_end : (e : Option PeerEnd) → x.end ≡ e
          → Q (if is_none e then with_turn k (finish (turn_at s x)) s else s)
      by_end None lasts = leads.turns NoMore x there lasts
      by_end (Some end) over = leads.stays

  leave : (y : Option Session) (later : StationState) → peer_at later.peers k ≡ y
      → lasts_at y ≡ false → Q later → Q (free k y later)
  leave None later there over q = q
  leave (Some x) later there over q = leads.leaves later x there over q

-- Q holds behind what the station itself does: where the house till ends a release, which is
-- authorised, and where a dispenser is gone that has no session.
pub record Acts (Q : StationState → Type 0) (s : StationState) : Type 0 where
  pub ends_release : (on off : Bool) (t p : ℕ) → s.gates.house ≡ Some t
      → is_released_at s.book p ≡ true → Q (with_release_ended on off t p s)
  pub loses : (memory : Bool) (p : ℕ) → (count_at (DISPENSER_SUBNET ∷ p ∷ []) s.peers == 0) ≡ true
      → Q (with_own_row memory (Dispenser p) (Offline p) s)

module _ {Q : StationState → Type 0} (s : StationState) (q : Q s) (acts : Acts Q s) where
  pub release_ended : (on off : Bool) (p : ℕ) (house : Option ℕ) → s.gates.house ≡ house
      → Q (end_release_by on off p house s)
  release_ended on off p None is = q
  release_ended on off p (Some t) is = by_test (is_released_at s.book p) refl
    where
      by_test : (b : Bool) → is_released_at s.book p ≡ b
          → Q (if b then with_release_ended on off t p s else s)
      by_test true released = acts.ends_release on off t p is released
      by_test false other = q

  pub lost : (memory : Bool) (p : ℕ) → Q (lose memory p s)
  lost memory p = by_test (count_at (DISPENSER_SUBNET ∷ p ∷ []) s.peers == 0) refl
    where
      by_test : (b : Bool) → (count_at (DISPENSER_SUBNET ∷ p ∷ []) s.peers == 0) ≡ b
          → Q (if b then with_own_row memory (Dispenser p) (Offline p) s else s)
      by_test true gone = acts.loses memory p gone
      by_test false there = q

-- .. where the station itself acts, and where rows are forgotten, if they are
pub moved_keeps : (Q : StationState → Type 0) (m : Move) (s : StationState) → Leads Q (key_of m) s
    → Acts Q s → (m ≡ Forgets → Q (without_old_rows s)) → Q (after_move m s)
moved_keeps Q (Arrives k door) s leads acts forgets = come k s leads door
moved_keeps Q (Says memory k octets) s leads acts forgets =
    say k s leads memory octets (peer_at s.peers k) refl
moved_keeps Q (Takes k n) s leads acts forgets = take k s leads n (peer_at s.peers k) refl
moved_keeps Q (Finishes k) s leads acts forgets = end k s leads (peer_at s.peers k) refl
moved_keeps Q (Leaves k) s leads acts forgets =
    leave k s leads (peer_at (with_end k s).peers k) (with_end k s) refl
    (finished_over k (peer_at s.peers k) s refl) (end k s leads (peer_at s.peers k) refl)
moved_keeps Q (EndsRelease on off p) s leads acts forgets =
    release_ended s leads.stays acts on off p s.gates.house refl
moved_keeps Q (Loses memory p) s leads acts forgets = lost s leads.stays acts memory p
moved_keeps Q Forgets s leads acts forgets = forgets refl

-- what any move keeps
pub moves_keep : (Q : StationState → Type 0)
    → ((k : ℕ) (s : StationState) → Q s → Leads Q k s)
    → ((s : StationState) → Q s → Acts Q s)
    → ((s : StationState) → Q s → Q (without_old_rows s))
    → (ms : List Move) (s : StationState) → Q s → Q (after ms s)
moves_keep Q leads acts forgets [] s q = q
moves_keep Q leads acts forgets (m ∷ ms) s q =
    moves_keep Q leads acts forgets ms (after_move m s)
    (moved_keeps Q m s (leads (key_of m) s q) (acts s q) (λ is. forgets s q))

-- what each row of the station's own keeps, and the sign-off of a till, keep all of these
pub record KeepsOwn (Q : StationState → Type 0) : Type 0 where
  pub asks : (memory : Bool) (actor : Actor) (event : Event) (s : StationState)
      → IsOwnEvent actor event → Q s → Q (with_own_row memory actor event s)
  pub leaves : (t : ℕ) (s : StationState) → Q s → Q (with_book (without_till (Some t) s.book) s)

pub own_acts : (Q : StationState → Type 0) → KeepsOwn Q → (s : StationState) → Q s → Acts Q s
own_acts Q keeps s q = record {
  ends_release = λ on off t p house released.
      let first = with_own_row on (Till t) SignOn s in
      keeps.leaves t _
      (keeps.asks off (Till t) (Terminate p) first tt (keeps.asks on (Till t) SignOn s tt q));
  loses = λ memory p gone. keeps.asks memory (Dispenser p) (Offline p) s refl q;
}

-- ---- a law of the book

-- A book gets rows, and each keeps B: that of a request, or of what the station itself asks, where
-- there is room, and that of a till that is left.
pub record RowsKeep (B : Book → Type 0) : Type 0 where
  pub asked : (b : Book) (m : Telegram) (actor : Actor) (event : Event)
      → request_at m ≡ Ok (actor, event) → is_full b ≡ false → B b → B (with_row_of b actor event)
  pub own : (b : Book) (actor : Actor) (event : Event) → IsOwnEvent actor event
      → is_full b ≡ false → B b → B (with_row_of b actor event)
  pub left : (b : Book) (t : ℕ) → is_signed_on (site_of_book b) t ≡ true → B b
      → B (with_row_of b (Till t) SignOff)

-- .. and so do rows that are forgotten
abbrev pub ForgetsKeep : (Book → Type 0) → Type 0
ForgetsKeep B = (b : Book) → B b → B (with_rows_forgotten b)

module _ {B : Book → Type 0} (rows : RowsKeep B) where
  pub left_keeps : (on : Option ℕ) (b : Book) → B b → B (without_till on b)
  left_keeps None b kept = kept
  left_keeps (Some t) b kept = by_test (is_signed_on (site_of_book b) t) refl
    where
      by_test : (on : Bool) → is_signed_on (site_of_book b) t ≡ on
          → B (if on then with_row_of b (Till t) SignOff else b)
      by_test true on = rows.left b t on kept
      by_test false off = kept

  none_keeps : (b : Book) → B b → B (record b { rows = b.rows ++ [] })
  none_keeps b kept = subst (λ rs. B (record b { rows = rs })) (sym (append-nil b.rows)) kept

  outcome_keeps : (memory : Bool) (actor : Actor) (event : Event) (b : Book)
      → (is_full b ≡ false → B (with_row_of b actor event)) → B b
      → B (with_outcome actor event (outcome_at memory b actor event) b)
  outcome_keeps false actor event b with_row kept = none_keeps b kept
  outcome_keeps true actor event b with_row kept = by_full (is_full b) refl
    where
      by_full : (full : Bool) → is_full b ≡ full
          → B (with_outcome actor event (if full then Err norow.BookFull
          else Ok (book_reply b actor event)) b)
      by_full true no_room = none_keeps b kept
      by_full false room = with_row room

  pub rows_keep : Keeps (λ t. B t.book)
  rows_keep = record {
    serves = λ from t lasts kept. kept;
    asks = λ memory m actor event t lasts is spoken kept.
        outcome_keeps memory actor event t.book
        (λ room. rows.asked t.book m actor event is room kept) kept;
    tells = λ text t lasts kept. kept;
    ends = λ end t lasts kept. left_keeps t.session.talk.on t.book kept;
  }

  book_leads : (k : ℕ) (s : StationState) → B s.book → Leads (λ later. B later.book) k s
  book_leads k s kept = record {
    stays = kept;
    comes = λ door none place. kept;
    turns = λ input x there lasts.
        heard_keeps rows_keep (admits_at k x.door s) input (turn_at s x) lasts kept (λ piece. kept);
    takes = λ n x there. kept;
    leaves = λ later x there over still. still;
  }

  book_acts : (s : StationState) → B s.book → Acts (λ later. B later.book) s
  book_acts = own_acts (λ later. B later.book) (record {
    asks = λ memory actor event s own kept.
        outcome_keeps memory actor event s.book
        (λ room. rows.own s.book actor event own room kept) kept;
    leaves = λ t s kept. left_keeps (Some t) s.book kept;
  })

  -- a move that forgets nothing
  pub book_moved : (m : Move) (s : StationState) → (m ≡ Forgets → ⊥) → B s.book
      → B (after_move m s).book
  book_moved m s other kept =
      moved_keeps (λ later. B later.book) m s (book_leads (key_of m) s kept) (book_acts s kept)
      (λ is. absurd (other is))

  pub books_keep : ForgetsKeep B → (ms : List Move) (s : StationState) → B s.book
      → B (after ms s).book
  books_keep forgets =
      moves_keep (λ s. B s.book) book_leads book_acts (λ s kept. forgets s.book kept)

-- ---- a law of each session

-- S holds of whoever is there
abbrev pub HoldsAt : (Session → Type 0) → Option Session → Type 0
HoldsAt S None = Unit {0}
HoldsAt S (Some x) = S x

-- .. of every session
abbrev pub EachHolds : (Session → Type 0) → StationState → Type 0
EachHolds S s = (k : ℕ) → HoldsAt S (peer_at s.peers k)

-- S holds of a session that has heard nothing, and of every later one
pub record EachKeeps (S : Session → Type 0) : Type 0 where
  pub opens : (door : Option (List ℕ)) → S (opening_session door)
  pub forgets : (t : ℕ) (x : Session) → S x
      → S (record x { talk = record x.talk { on = without_on t x.talk.on } })
  pub holds : (piece : List ℕ) (x : Session) → S x
      → S (record x { held = held_part (fed_by x.held piece) })
  pub turns : Keeps (λ t. S t.session)
  pub takes : (n : ℕ) (x : Session) → S x → S (record x { owed = drop n x.owed })

module _ {S : Session → Type 0} (keeps : EachKeeps S) where
  till_forgotten : (off : Option ℕ) (x : Session) → S x → S (forget_till off x)
  till_forgotten None x kept = kept
  till_forgotten (Some t) x kept = by_test (is_none x.end)
    where
      by_test : (lasts : Bool)
          → S (if lasts then record x { talk = record x.talk { on = without_on t x.talk.on } }
          else x)
      by_test true = keeps.forgets t x kept
      by_test false = kept

  -- a notice is octets, or the session's end
  row_noticed : (b : Book) (r : Row) (x : Session) → S x → S (tell_row r x)
  row_noticed b r x kept = till_forgotten (row_off r) _ (by_end x.end refl)
    where
      by_notice : x.end ≡ None → (n : Option (List ℕ)) → S (tell_notice n x)
      by_notice lasts None = kept
      by_notice lasts (Some octets) = by_test (nat_lt NOTICE_LIMIT (length x.owed))
        where
          by_test : (behind : Bool)
              → S (if behind then record x { end = Some ends.Behind }
              else record x { owed = x.owed ++ octets })
          by_test true = keeps.turns.ends ends.Behind (record { book = b; session = x }) lasts kept
          by_test false = keeps.turns.tells octets (record { book = b; session = x }) lasts kept

      by_end : (e : Option PeerEnd) → x.end ≡ e
          → S (tell_notice (row_notice (listener e x.talk.peer) r) x)
      by_end None lasts = by_notice lasts (row_notice x.talk.peer r)
      by_end (Some end) over =
          subst (λ n. S (tell_notice n x)) (sym (nobody_noticed r)) kept

  pub rows_noticed : (b : Book) (rows : List Row) (x : Session) → S x → S (tell_rows rows x)
  rows_noticed b [] x kept = kept
  rows_noticed b (r ∷ rows) x kept = rows_noticed b rows (tell_row r x) (row_noticed b r x kept)

  slot_noticed : (b : Book) (rows : List Row) (y : Option Session) → HoldsAt S y
      → HoldsAt S (option_map (tell_rows rows) y)
  slot_noticed b rows None kept = tt
  slot_noticed b rows (Some x) kept = rows_noticed b rows x kept

  each_leads : (k : ℕ) (s : StationState) → EachHolds S s → Leads (EachHolds S) k s
  each_leads k s each = record {
    stays = each;
    comes = λ door none place j.
        at_slot (HoldsAt S) k j (Some (opening_session door)) s.peers (λ same. keeps.opens door)
        (λ other. each j);
    turns = λ input x there lasts j.
        let admits = admits_at k x.door s in
        let t = after_input admits input (turn_at s x) in
        let rows = rows_since s.book t.book in
        let kept : S x = subst (HoldsAt S) there (each k) in
        at_slot (HoldsAt S) k j (Some t.session) (with_notices rows s.peers)
        (λ same.
        heard_keeps keeps.turns admits input (turn_at s x) lasts kept
        (λ piece. keeps.holds piece x kept))
        (λ other.
        subst (HoldsAt S) (sym (peer_at-map (option_map (tell_rows rows)) j s.peers refl))
        (slot_noticed s.book rows (peer_at s.peers j) (each j)));
    takes = λ n x there j.
        at_slot (HoldsAt S) k j (Some (record x { owed = drop n x.owed })) s.peers
        (λ same. keeps.takes n x (subst (HoldsAt S) there (each k))) (λ other. each j);
    leaves = λ later x there over kept j.
        at_slot (HoldsAt S) k j None later.peers (λ same. tt) (λ other. kept j);
  }

  -- everybody is told of rows
  pub booked_keeps : (b : Book) (s : StationState) → EachHolds S s → EachHolds S (with_book b s)
  booked_keeps b s each j =
      let rows = rows_since s.book b in
      subst (HoldsAt S) (sym (peer_at-map (option_map (tell_rows rows)) j s.peers refl))
      (slot_noticed s.book rows (peer_at s.peers j) (each j))

  each_acts : (s : StationState) → EachHolds S s → Acts (EachHolds S) s
  each_acts = own_acts (EachHolds S) (record {
    asks = λ memory actor event s own each.
        booked_keeps (with_outcome actor event (outcome_at memory s.book actor event) s.book) s
        each;
    leaves = λ t s each. booked_keeps (without_till (Some t) s.book) s each;
  })

  pub each_moved : (m : Move) (s : StationState) → EachHolds S s → EachHolds S (after_move m s)
  each_moved m s each =
      moved_keeps (EachHolds S) m s (each_leads (key_of m) s each) (each_acts s each) (λ is. each)

  pub each_keep : (ms : List Move) (s : StationState) → EachHolds S s → EachHolds S (after ms s)
  each_keep = moves_keep (EachHolds S) each_leads each_acts (λ s each. each)
