-- A session's end leaves its till.
use Rattle.std.proofs.Common.{◌≡◌, ◌≢◌, ◌==◌, ℕ, Bool, true, false, not, List, [], ◌∷◌, ◌++◌}
use Rattle.std.proofs.Common.{Option}
use Rattle.std.proofs.Common.{Some, None, drop, refl, ap, sym, subst, ◌∙◌}
use Rattle.std.specs.Prelude.{◌&&◌, if◌then◌else◌, is_none, length, nat_lt, option_map}
use Rattle.std.specs.Prelude.{slice_index}
use Rattle.std.proofs.lemmas.Bool.{eq-eqb}
use Rattle.std.specs.Cmp.{nat_cmp_total, unsigned_tied}
use Rattle.std.specs.FinSet as set
use Rattle.site_base.specs.declared.actor.Actor.TheVariants.{Dispenser, Till}
use Rattle.site_base.specs.declared.event.Event.TheVariants.{Offline, SignOff}
use Rattle.site_base.specs.declared.refusal.Refusal.{Refusal}
use Rattle.site_base.specs.declared.row.Row.{Row}
use Rattle.site_base.specs.Checks.{value_or}
use Rattle.app_message.specs.Telegram.{Telegram}
use Rattle.device_map.specs.declared.ids.TheConstants as ids
use Rattle.device_map.specs.Changes.{change_of}
use Rattle.written_site.specs.SiteState.{SiteState, is_signed_on, opening}
use Rattle.written_site.specs.SiteStep.{accepted_site, site_after}
use Rattle.written_site.proofs.Histories.{site_of_rows-push}
use Rattle.site_book.specs.Book.{Book, next_row, site_of_book, with_row_of, with_rows_forgotten}
use Rattle.device_map.proofs.Results.{equal}
use Rattle.peer_talk.specs.Talks.{IsOwn, TalkState, without_on}
use Rattle.peer_talk.proofs.Speakers.{own_met, own_signed}
use Rattle.station.specs.declared.peer_end.PeerEnd.{PeerEnd}
use Rattle.station.specs.declared.peer_end.PeerEnd.TheVariants as ends
use Rattle.station.specs.declared.sizes.TheConstants.{NOTICE_LIMIT}
use Rattle.station.specs.Moves.{StationState, finish_at, free, rows_since, with_end, with_turn}
use Rattle.station.specs.Moves.{with_book, with_own_row, with_release_ended, without_old_rows}
use Rattle.station.specs.Moves.{admits_at, without_peer}
use Rattle.station.specs.Notices.{notice_at, row_notice}
use Rattle.station.specs.Gates.{GateState}
use Rattle.station.specs.Listening.{listener}
use Rattle.station.specs.Peers.{forget_till, peer_at, row_off, tell_notice, tell_row, tell_rows}
use Rattle.station.specs.Peers.{with_notices}
use Rattle.station.specs.Runs.{Move, after, after_move, opening_station}
use Rattle.station.specs.Sessions.{Session, Turn, ask, end_session, finish, opening_session}
use Rattle.conversation.specs.Books.{outcome_at, with_outcome}
use Rattle.station.specs.Sessions.{serve, with_text, without_till}
use Rattle.station.proofs.Keeping.{Acts, EachHolds, EachKeeps, HoldsAt, Keeps, Leads, after_input}
use Rattle.station.proofs.Keeping.{each_keep, heard_keeps, key_of, moved_keeps, own_acts}
use Rattle.station.proofs.Keeping.{rows_noticed, turn_at}
use Rattle.station.proofs.Notices.{nobody_noticed}
use Rattle.station.proofs.Peers.{at_slot, peer_at-map}
use Rattle.station.proofs.Quiet.{other_subnet, where_goes}
use Rattle.station.proofs.SigningOff.{may_sign_off}

-- ---- a till that has signed off isn't signed on

off_then : (s : SiteState) (t : ℕ) → is_signed_on s t ≡ true
    → is_signed_on (site_after s (Till t) SignOff) t ≡ false
off_then s t on =
    ap (λ (r : Option Refusal). is_signed_on (value_or r (accepted_site s (Till t) SignOff) s) t)
    (may_sign_off s t on)
    ∙ set.contains-remove nat_cmp_total s.signed_on t t
    ∙ ap (λ (b : Bool). not b && is_signed_on s t) (unsigned_tied t t ∙ eq-eqb t t refl)

pub signed_off : (b : Book) (t : ℕ)
    → is_signed_on (site_of_book (without_till (Some t) b)) t ≡ false
signed_off b t = by_test (is_signed_on (site_of_book b) t) refl
  where
    by_test : (on : Bool) → is_signed_on (site_of_book b) t ≡ on
        → is_signed_on (site_of_book (if on then with_row_of b (Till t) SignOff else b)) t ≡ false
    by_test true is =
        ap (λ (s : SiteState). is_signed_on s t)
        (site_of_rows-push (opening b.config) b.rows (next_row b (Till t) SignOff))
        ∙ off_then (site_of_book b) t is
    by_test false is = is

-- ---- where a session has ended, its till isn't signed on

abbrev pub HasLeft : Turn → Type 0
HasLeft t = (end : PeerEnd) (u : ℕ) → t.session.end ≡ Some end → t.session.talk.on ≡ Some u
    → is_signed_on (site_of_book t.book) u ≡ false

pub ended_left : (end : PeerEnd) (t : Turn) → HasLeft (end_session end t)
ended_left end t e u over on =
    ap (λ o. is_signed_on (site_of_book (without_till o t.book)) u) on ∙ signed_off t.book u

-- one that lasts has nothing to leave yet
lasting_left : (t : Turn) → t.session.end ≡ None → HasLeft t
lasting_left t lasts end u over on =
    absurd (let no : None ≡ Some end = sym lasts ∙ over in cc)

-- .. and its end leaves its till
till_is_left : Keeps HasLeft
till_is_left = record {
  serves = λ from t lasts left. lasting_left (serve from t) lasts;
  asks = λ memory m actor event t lasts is spoken left.
      lasting_left (ask actor event (outcome_at memory t.book actor event) t) lasts;
  tells = λ text t lasts left. lasting_left (with_text text t) lasts;
  ends = λ end t lasts left. ended_left end t;
}

-- ---- the till that a session signed on is the one that it serves

abbrev pub IsOwnSession : Session → Type 0
IsOwnSession x = IsOwn x.talk.on x.talk.peer

pub own_kept : Keeps (λ t. IsOwnSession t.session)
own_kept = record {
  serves = λ from t lasts own. own_met t.session.talk.on t.session.talk.peer from own;
  asks = λ memory m actor event t lasts is spoken own.
      own_signed actor event (outcome_at memory t.book actor event) t.session.talk.on
      t.session.talk.peer spoken own;
  tells = λ text t lasts own. own;
  ends = λ end t lasts own. own;
}

own_forgotten : (t : ℕ) (on : Option ℕ) (peer : Option (List ℕ)) → IsOwn on peer
    → IsOwn (without_on t on) peer
own_forgotten t None peer own = tt
own_forgotten t (Some u) peer own = by_test (u == t)
  where
    by_test : (b : Bool) → IsOwn (if b then None else Some u) peer
    by_test true = tt
    by_test false = own

pub each_own : EachKeeps IsOwnSession
each_own = record {
  opens = λ door. tt;
  forgets = λ t x own. own_forgotten t x.talk.on x.talk.peer own;
  holds = λ piece x own. own;
  turns = own_kept;
  takes = λ n x own. own;
}

abbrev pub AreOwn : StationState → Type 0
AreOwn s = EachHolds IsOwnSession s

pub always_own : (g : GateState) (b : Book) (ms : List Move)
    → AreOwn (after ms (opening_station g b))
always_own g b ms = each_keep each_own ms (opening_station g b) (λ k. tt)

pub own_at : (s : StationState) (k : ℕ) (x : Session) → AreOwn s → peer_at s.peers k ≡ Some x
    → IsOwnSession x
own_at s k x own there = subst (HoldsAt IsOwnSession) there (own k)

-- ---- rows of others end no session of a till, and sign none on

-- it is a till's
abbrev pub IsTillNode : Option (List ℕ) → Type 0
IsTillNode None = ⊥
IsTillNode (Some node) = slice_index node 0 ≡ ids.TILL_SUBNET

-- a session that signed a till on serves one
pub serves_till : (x : Session) (t : ℕ) → x.talk.on ≡ Some t → IsOwnSession x
    → IsTillNode x.talk.peer
serves_till x t on own = by_peer x.talk.peer (subst (λ o. IsOwn o x.talk.peer) on own)
  where
    by_peer : (p : Option (List ℕ)) → IsOwn (Some t) p → IsTillNode p
    by_peer None own = absurd own
    by_peer (Some node) own = own.0

till_notice : (r : Row) (node : List ℕ) → slice_index node 0 ≡ ids.TILL_SUBNET
    → row_notice (Some node) r ≡ None
till_notice r node till = by_change (change_of r) (where_goes r.event r.reply)
  where
    by_change : (change : Option Telegram)
        → ((m : Telegram) → change ≡ Some m → slice_index m.to 0 ≡ ids.DISPENSER_SUBNET)
        → notice_at change (Some node) ≡ None
    by_change None to = refl
    by_change (Some m) to = rw (other_subnet node m.to till (to m refl)) refl

-- so it is told no notice
till_unnoticed : (r : Row) (x : Session) → IsTillNode x.talk.peer
    → tell_row r x ≡ forget_till (row_off r) x
till_unnoticed r x is = ap (forget_till (row_off r)) (by_end x.end x.talk.peer is)
  where
    by_end : (e : Option PeerEnd) (p : Option (List ℕ)) → IsTillNode p
        → tell_notice (row_notice (listener e p) r) x ≡ x
    by_end None None is = absurd is
    by_end None (Some node) is = ap (λ n. tell_notice n x) (till_notice r node is)
    by_end (Some end) p is = ap (λ n. tell_notice n x) (nobody_noticed r)

noticed_talk : (n : Option (List ℕ)) (x : Session) → (tell_notice n x).talk ≡ x.talk
noticed_talk None x = refl
noticed_talk (Some octets) x = by_test (nat_lt NOTICE_LIMIT (length x.owed))
  where
    by_test : (b : Bool)
        → (if b then record x { end = Some ends.Behind }
        else record x { owed = x.owed ++ octets }).talk ≡ x.talk
    by_test true = refl
    by_test false = refl

on_before : (t : ℕ) (on : Option ℕ) (u : ℕ) → without_on t on ≡ Some u → on ≡ Some u
on_before t None u is = is
on_before t (Some v) u is = by_test (v == t) is
  where
    by_test : (b : Bool) → (if b then None else Some v) ≡ Some u → Some v ≡ Some u
    by_test true is = absurd cc
    by_test false is = is

-- a session that may have forgotten its till is as it was otherwise
pub record HasForgotten (x y : Session) : Type 0 where
  pub peer : y.talk.peer ≡ x.talk.peer
  pub end : y.end ≡ x.end
  pub on : (u : ℕ) → y.talk.on ≡ Some u → x.talk.on ≡ Some u

same_still : (x : Session) → HasForgotten x x
same_still x = record { peer = refl; end = refl; on = λ u is. is }

forgotten : (off : Option ℕ) (x : Session) → HasForgotten x (forget_till off x)
forgotten None x = same_still x
forgotten (Some t) x = by_test (is_none x.end)
  where
    by_test : (b : Bool) → HasForgotten x (if b
        then record x { talk = record x.talk { on = without_on t x.talk.on } }
        else x)
    by_test true = record { peer = refl; end = refl; on = λ u is. on_before t x.talk.on u is }
    by_test false = same_still x

-- a till that is signed on behind rows of others was before
rows_on : (rows : List Row) (x : Session) (u : ℕ) → (tell_rows rows x).talk.on ≡ Some u
    → x.talk.on ≡ Some u
rows_on [] x u on = on
rows_on (r ∷ rows) x u on =
    let n = row_notice (listener x.end x.talk.peer) r in
    ap (λ (t : TalkState). t.on) (sym (noticed_talk n x))
    ∙ (forgotten (row_off r) (tell_notice n x)).on u (rows_on rows (tell_row r x) u on)

pub rows_forget : (rows : List Row) (x : Session) → IsTillNode x.talk.peer
    → HasForgotten x (tell_rows rows x)
rows_forget [] x is = same_still x
rows_forget (r ∷ rows) x is =
    let one : HasForgotten x (tell_row r x) =
    subst (HasForgotten x) (sym (till_unnoticed r x is)) (forgotten (row_off r) x) in
    let rest = rows_forget rows (tell_row r x) (subst IsTillNode (sym one.peer) is) in
    record {
      peer = rest.peer ∙ one.peer;
      end = rest.end ∙ one.end;
      on = λ u on. one.on u (rest.on u on);
    }

-- none of these rows signs this till off
abbrev pub NoneOff : ℕ → List Row → Type 0
NoneOff u [] = Unit {0}
NoneOff u (r ∷ rows) = (row_off r ≢ Some u) × NoneOff u rows

still_signed : (off : Option ℕ) (x : Session) (u : ℕ) → off ≢ Some u → x.talk.on ≡ Some u
    → (forget_till off x).talk.on ≡ Some u
still_signed None x u other on = on
still_signed (Some t) x u other on = by_test (is_none x.end)
  where
    by_till : (b : Bool) → (u == t) ≡ b → (if b then None else Some u) ≡ Some u
    by_till true is = absurd (other (ap (λ (n : ℕ). Some n) (sym (equal u t is))))
    by_till false is = refl

    by_test : (b : Bool) → (if b
        then record x { talk = record x.talk { on = without_on t x.talk.on } }
        else x).talk.on ≡ Some u
    by_test true = ap (without_on t) on ∙ by_till (u == t) refl
    by_test false = on

-- a session stays signed on behind rows that don't sign its till off
pub rows_keep_on : (rows : List Row) (x : Session) (u : ℕ) → IsTillNode x.talk.peer
    → NoneOff u rows → x.talk.on ≡ Some u → (tell_rows rows x).talk.on ≡ Some u
rows_keep_on [] x u is none on = on
rows_keep_on (r ∷ rows) x u is none on =
    let told = till_unnoticed r x is in
    let one : HasForgotten x (tell_row r x) =
    subst (HasForgotten x) (sym told) (forgotten (row_off r) x) in
    rows_keep_on rows (tell_row r x) u (subst IsTillNode (sym one.peer) is) none.1
    (ap (λ (y : Session). y.talk.on) told ∙ still_signed (row_off r) x u none.0 on)

-- ---- a move with which a session ends

-- a session at this book, if there is one, has left its till where it has ended
abbrev HaveLeft : Book → Option Session → Type 0
HaveLeft b y = HoldsAt (λ x. HasLeft (record { book = b; session = x })) y

-- rows of others end no session that signed a till on
rows_leave : (rows : List Row) (b : Book) (x : Session) → IsOwnSession x → x.end ≡ None
    → HaveLeft b (Some (tell_rows rows x))
rows_leave rows b x own lasts end u over on =
    let still = (rows_forget rows x (serves_till x u (rows_on rows x u on) own)).end in
    absurd (let no : None ≡ Some end = sym lasts ∙ sym still ∙ over in cc)

-- a session that lasted has left its till where it has ended
ends_lead : (j k : ℕ) (s : StationState) (x : Session) → peer_at s.peers j ≡ Some x
    → IsOwnSession x → x.end ≡ None
    → Leads (λ later. HaveLeft later.book (peer_at later.peers j)) k s
ends_lead j k s x there own lasts = record {
  stays = before;
  comes = λ door none place.
      at_slot (HaveLeft s.book) k j (Some (opening_session door)) s.peers
      (λ same. lasting_left (turn_at s (opening_session door)) refl) (λ other. before);
  turns = λ input z it ongoing.
      let start = turn_at s z in
      let admits = admits_at k z.door s in
      let t = after_input admits input start in
      let rows = rows_since s.book t.book in
      at_slot (HaveLeft t.book) k j (Some t.session) (with_notices rows s.peers)
      (λ same.
      heard_keeps till_is_left admits input start ongoing (lasting_left start ongoing)
      (λ piece. lasting_left start ongoing))
      (λ other.
      subst (HaveLeft t.book)
      (sym (peer_at-map (option_map (tell_rows rows)) j s.peers refl
      ∙ ap (option_map (tell_rows rows)) there))
      (rows_leave rows t.book x own lasts));
  takes = λ n z it.
      at_slot (HaveLeft s.book) k j (Some (record z { owed = drop n z.owed })) s.peers
      (λ same. subst (HaveLeft s.book) (ap (peer_at s.peers) (sym same) ∙ it) before)
      (λ other. before);
  leaves = λ later z it over left.
      at_slot (HaveLeft later.book) k j None later.peers (λ same. tt) (λ other. left);
}
  where
    before : HaveLeft s.book (peer_at s.peers j)
    before = subst (HaveLeft s.book) (sym there) (lasting_left (turn_at s x) lasts)

-- a session that lasts while its till is signed on by it
abbrev IsHeld : Session → Type 0
IsHeld y = IsOwnSession y × ((u : ℕ) → y.talk.on ≡ Some u → y.end ≡ None)

abbrev HeldAt : ℕ → StationState → Type 0
HeldAt j s = HoldsAt IsHeld (peer_at s.peers j)

held_left : (b : Book) (y : Option Session) → HoldsAt IsHeld y → HaveLeft b y
held_left b None held = tt
held_left b (Some y) held = λ end u over on.
    absurd (let no : None ≡ Some end = sym (held.1 u on) ∙ over in cc)

slot_held : (b : Book) (rows : List Row) (y : Option Session) → HoldsAt IsHeld y
    → HoldsAt IsHeld (option_map (tell_rows rows) y)
slot_held b rows None held = tt
slot_held b rows (Some y) held = (
  rows_noticed each_own b rows y held.0,
  λ u on.
      let was = rows_on rows y u on in
      (rows_forget rows y (serves_till y u was held.0)).end ∙ held.1 u was,
)

booked_held : (j : ℕ) (b : Book) (s : StationState) → HeldAt j s → HeldAt j (with_book b s)
booked_held j b s held =
    let rows = rows_since s.book b in
    subst (HoldsAt IsHeld) (sym (peer_at-map (option_map (tell_rows rows)) j s.peers refl))
    (slot_held s.book rows (peer_at s.peers j) held)

-- what the station itself does ends no session that has signed a till on
ends_act : (j : ℕ) (s : StationState) (x : Session) → peer_at s.peers j ≡ Some x
    → IsOwnSession x → x.end ≡ None
    → Acts (λ later. HaveLeft later.book (peer_at later.peers j)) s
ends_act j s x there own lasts =
    let acts = own_acts (HeldAt j) (record {
      asks = λ memory actor event s own held.
          booked_held j (with_outcome actor event (outcome_at memory s.book actor event) s.book) s
          held;
      leaves = λ t s held. booked_held j (without_till (Some t) s.book) s held;
    }) s (subst (HoldsAt IsHeld) (sym there) (own, λ u on. lasts)) in
    record {
      ends_release = λ on off t p house released.
          let later = with_release_ended on off t p s in
          held_left later.book (peer_at later.peers j)
          (acts.ends_release on off t p house released);
      loses = λ memory p gone.
          let later = with_own_row memory (Dispenser p) (Offline p) s in
          held_left later.book (peer_at later.peers j) (acts.loses memory p gone);
    }

pub ends_leave : (m : Move) (s : StationState) (j : ℕ) (x y : Session) (end : PeerEnd) (u : ℕ)
    → AreOwn s → peer_at s.peers j ≡ Some x → x.end ≡ None
    → peer_at (after_move m s).peers j ≡ Some y → y.end ≡ Some end → y.talk.on ≡ Some u
    → is_signed_on (site_of_book (after_move m s).book) u ≡ false
ends_leave m s j x y end u own there lasts is =
    subst (HaveLeft (after_move m s).book) is
    (moved_keeps (λ later. HaveLeft later.book (peer_at later.peers j)) m s
    (ends_lead j (key_of m) s x there (own_at s j x own there) lasts)
    (ends_act j s x there (own_at s j x own there) lasts)
    (λ is. subst (HaveLeft (with_rows_forgotten s.book)) (sym there)
    (lasting_left (turn_at (without_old_rows s) x) lasts))) end u

pub freed_book : (k : ℕ) (slot : Option Session) (s : StationState) → (free k slot s).book ≡ s.book
freed_book k None s = refl
freed_book k (Some z) s = refl

-- a peer that goes
pub going_leaves : (k : ℕ) (s : StationState) (x : Session) (u : ℕ) → peer_at s.peers k ≡ Some x
    → x.end ≡ None → x.talk.on ≡ Some u
    → is_signed_on (site_of_book (without_peer k s).book) u ≡ false
going_leaves k s x u there lasts on =
    let start : Turn = record { book = s.book; session = x } in
    ap (λ (b : Book). is_signed_on (site_of_book b) u)
    (freed_book k (peer_at (with_end k s).peers k) (with_end k s)
    ∙ ap (λ (y : Option Session). (finish_at k y s).book) there
    ∙ ap (λ e. (if is_none e then with_turn k (finish start) s else s).book) lasts
    ∙ ap (λ o. without_till o s.book) on)
    ∙ signed_off s.book u
