-- Which rows a move adds: those of the requests that were heard with it, in their order, and the
-- sign-off of a till that was left.
use Rattle.std.proofs.Common.{◌≡◌, ◌⊎◌, inl, inr, ℕ, Bool, true, false, List, [], ◌∷◌, ◌++◌, map}
use Rattle.std.proofs.Common.{Option, Some, None, refl, ap, sym, subst, ◌∙◌, append_assoc}
use Rattle.std.proofs.Common.{append-nil}
use Rattle.std.specs.Prelude.{if◌then◌else◌, is_none, nat_lt, slice_get}
use Rattle.std.proofs.lemmas.List.{map-append}
use Rattle.site_base.specs.declared.actor.Actor.TheVariants.{Till}
use Rattle.site_base.specs.declared.answer.Answer.TheVariants.{Done}
use Rattle.site_base.specs.declared.event.Event.TheVariants.{SignOff}
use Rattle.site_base.specs.declared.refusal.Refusal.{Refusal}
use Rattle.site_base.specs.declared.row.Row.{Row}
use Rattle.site_base.specs.Checks.{reply_or}
use Rattle.app_message.specs.declared.fault.StreamFault.{StreamFault}
use Rattle.app_message.specs.Stream.{fed_by, held_part}
use Rattle.app_message.specs.Telegram.{Telegram}
use Rattle.site_book.proofs.Books.{forgets_alone}
use Rattle.site_book.specs.Book.{Book, next_row, site_of_book, with_row_of}
use Rattle.written_site.specs.SiteState.{is_signed_on}
use Rattle.peer_talk.specs.declared.talk.Meaning.{Meaning}
use Rattle.peer_talk.specs.declared.talk.Meaning.TheVariants as meanings
use Rattle.peer_talk.specs.Exchanges.{Asked, request_asked, row_made, rows_made, sign_off_row}
use Rattle.peer_talk.specs.Exchanges.{signed_by, signed_on_after}
use Rattle.peer_talk.specs.Talks.{TalkState}
use Rattle.peer_talk.specs.Text.{meaning_at, peer_after, requests_in}
use Rattle.peer_talk.proofs.Speakers.{fault_meant, request_meant}
use Rattle.station.specs.declared.gates.Admission.{Admission}
use Rattle.station.specs.declared.peer_end.PeerEnd.{PeerEnd}
use Rattle.station.specs.declared.peer_end.PeerEnd.TheVariants as ends
use Rattle.station.specs.Adding.{AddsRequests, AddsSignOff, IsLeaving, is_silent, till_left}
use Rattle.station.specs.Adding.{till_of}
use Rattle.station.specs.Moves.{StationState, finish_at, hear_from, take_by, with_end, with_octets}
use Rattle.station.specs.Moves.{admits_at, with_turn}
use Rattle.station.specs.declared.sizes.TheConstants.{FREE_PLACES}
use Rattle.station.specs.Peers.{peer_at}
use Rattle.station.specs.Places.{is_place_at}
use Rattle.station.specs.Reads.{is_read_at, is_read_of}
use Rattle.station.specs.Runs.{Arrives, EndsRelease, Finishes, Forgets, Leaves as Gone, Loses}
use Rattle.station.specs.Runs.{Move, Says, Takes}
use Rattle.station.specs.Runs.{after_move}
use Rattle.station.specs.Runs.{arrive, give, give_at}
use Rattle.station.specs.Sessions.{Granted, Grants, Session, Turn, answer, answer_meaning, ask}
use Rattle.conversation.specs.Books.{outcome_at}
use Rattle.station.specs.Sessions.{end_session, finish, hear, is_read, no_memory}
use Rattle.station.specs.Sessions.{refuse_by, serve, tell, tell_last, with_text, without_till}
use Rattle.station.proofs.Keeping.{by_admission, by_fault, by_lasting, by_memory, by_message}
use Rattle.station.proofs.Keeping.{ended_lasts}
use Rattle.station.proofs.Keeping.{holding, read_lasts}
use Rattle.station.proofs.Leaving.{freed_book}
use Rattle.station.proofs.SigningOff.{may_sign_off}
use Rattle.station.proofs.Stories.{signed-append}

-- ---- a till that is left

off_row : (b : Book) (t : ℕ) → is_signed_on (site_of_book b) t ≡ true
    → next_row b (Till t) SignOff ≡ sign_off_row t
off_row b t on =
    ap (λ (r : Option Refusal). let row : Row = record {
      actor = Till t;
      event = SignOff;
      reply = reply_or r Done;
    } in row) (may_sign_off (site_of_book b) t on)

-- the rows with the sign-off of a till that is left, if there is one
pub record Leaves (on : Option ℕ) (b b' : Book) : Type 0 where
  pub left : List Row
  pub rows : b'.rows ≡ b.rows ++ left
  pub leaving : IsLeaving on left

leaves_none : (on : Option ℕ) → IsLeaving on []
leaves_none None = refl
leaves_none (Some t) = inl refl

abbrev none_left : (on : Option ℕ) (b : Book) → Leaves on b b
none_left on b = record { left = []; rows = sym (append-nil b.rows); leaving = leaves_none on }

pub leaves_till : (on : Option ℕ) (b : Book) → Leaves on b (without_till on b)
leaves_till None b = none_left None b
leaves_till (Some t) b = by_test (is_signed_on (site_of_book b) t) refl
  where
    by_test : (on : Bool) → is_signed_on (site_of_book b) t ≡ on
        → Leaves (Some t) b (if on then with_row_of b (Till t) SignOff else b)
    by_test true is = record {
      left = sign_off_row t ∷ [];
      rows = ap (λ (r : Row). b.rows ++ r ∷ []) (off_row b t is);
      leaving = inr refl;
    }
    by_test false is = none_left (Some t) b

-- ---- messages

rows_made-more : (asked : List Asked) (a : Asked)
    → rows_made (asked ++ a ∷ []) ≡ rows_made asked ++ row_made a.actor a.event a.outcome
rows_made-more [] a = append-nil (row_made a.actor a.event a.outcome)
rows_made-more (b ∷ asked) a =
    ap (λ rs. row_made b.actor b.event b.outcome ++ rs) (rows_made-more asked a)
    ∙ sym (append_assoc (row_made b.actor b.event b.outcome) (rows_made asked)
    (row_made a.actor a.event a.outcome))

-- a session that served this peer, and was signed on as this till, began at this book to hear these
-- messages
module _ (peer : Option (List ℕ)) (on : Option ℕ) (all : List Telegram) (old : Book) where
  -- it lasts: these requests were asked, and their rows added; these messages are to come
  record IsAsking (ms : List Telegram) (b : Book) (talked : TalkState) : Type 0 where
    asked : List Asked
    rows : b.rows ≡ old.rows ++ rows_made asked
    requests : requests_in peer all ≡ map request_asked asked ++ requests_in talked.peer ms
    signed : talked.on ≡ signed_on_after on asked

  abbrev HasEnded : Turn → Type 0
  HasEnded t = (end : PeerEnd) × (t.session.end ≡ Some end) × AddsRequests peer on all old t.book

  abbrev Asks : List Telegram → Turn → Type 0
  Asks ms t = ((t.session.end ≡ None) × IsAsking ms t.book t.session.talk) ⊎ HasEnded t

  -- the session's end, behind what it asked
  stops : (ms : List Telegram) (b b' : Book) (talked : TalkState) → IsAsking ms b talked
      → Leaves talked.on b b' → AddsRequests peer on all old b'
  stops ms b b' talked a l = record {
    asked = a.asked;
    left = l.left;
    leaving = subst (λ o. IsLeaving o l.left) a.signed l.leaving;
    unasked = requests_in talked.peer ms;
    rows = l.rows ∙ ap (λ rs. rs ++ l.left) a.rows;
    requests = a.requests;
  }

  ends_asking : (end : PeerEnd) (ms : List Telegram) (t : Turn)
      → IsAsking ms t.book t.session.talk → HasEnded (end_session end t)
  ends_asking end ms t a = (
    end,
    refl,
    stops ms t.book (end_session end t).book t.session.talk a
        (leaves_till t.session.talk.on t.book),
  )

  is_told : (memory : Bool) (text : List ℕ) (ms : List Telegram) (t : Turn)
      → t.session.end ≡ None → IsAsking ms t.book t.session.talk → Asks ms (tell memory text t)
  is_told true text ms t lasts a = inl (lasts, a)
  is_told false text ms t lasts a = inr (ends_asking no_memory ms t a)

  is_told_last : (memory : Bool) (text : List ℕ) (end : PeerEnd) (ms : List Telegram) (t : Turn)
      → IsAsking ms t.book t.session.talk → HasEnded (tell_last memory text end t)
  is_told_last true text end ms t a = ends_asking end ms (with_text text t) a
  is_told_last false text end ms t a = ends_asking no_memory ms t a

  asks_meaning : (g : Granted) (m : Telegram) (ms : List Telegram) (meaning : Meaning) (t : Turn)
      → meaning_at t.session.talk.peer m ≡ meaning → t.session.end ≡ None
      → IsAsking (m ∷ ms) t.book t.session.talk → Asks ms (answer_meaning g m meaning t)
  asks_meaning g m ms meanings.Another t is lasts a =
      inr (is_told_last g.text _ _ (m ∷ ms) t a)
  asks_meaning g m ms (meanings.Fault f) t is lasts a =
      let meant = fault_meant t.session.talk.peer m f is in
      is_told g.text _ ms (serve m.from t) lasts
      (record {
        asked = a.asked;
        rows = a.rows;
        requests = rw (meant.0, meant.1) at a.requests;
        signed = a.signed;
      })
  asks_meaning g m ms (meanings.Request actor event) t is lasts a =
      let meant = request_meant t.session.talk.peer m actor event is in
      let outcome = outcome_at g.row t.book actor event in
      let one : Asked = record { actor = actor; event = event; outcome = outcome } in
      let later = requests_in (peer_after t.session.talk.peer m.from) ms in
      is_told g.text _ ms (ask actor event outcome (serve m.from t)) lasts
      (record {
        asked = a.asked ++ one ∷ [];
        rows =
            ap (λ rs. rs ++ row_made actor event outcome) a.rows
            ∙ append_assoc old.rows (rows_made a.asked) (row_made actor event outcome)
            ∙ ap (λ rs. old.rows ++ rs) (sym (rows_made-more a.asked one));
        requests =
            (rw (meant.0, meant.1) at a.requests)
            ∙ sym (append_assoc (map request_asked a.asked) (request_asked one ∷ []) later)
            ∙ ap (λ rs. rs ++ later) (sym (map-append request_asked a.asked (one ∷ [])));
        signed =
            ap (signed_by actor event outcome) a.signed
            ∙ sym (signed-append on a.asked (one ∷ []));
      })

  next_asks : (g : Granted) (m : Telegram) (ms : List Telegram) (t : Turn) → Asks (m ∷ ms) t
      → Asks ms (answer g m t)
  next_asks g m ms t (inl a) =
      by_lasting (Asks ms) g m t
      (λ lasts. asks_meaning g m ms (meaning_at t.session.talk.peer m) t refl lasts a.1)
      (λ end over. absurd (ended_lasts t.session end over a.0))
  next_asks g m ms t (inr d) =
      by_lasting (Asks ms) g m t
      (λ lasts. absurd (ended_lasts t.session d.0 d.1 lasts)) (λ end over. inr d)

  refused_asks : (memory : Bool) (fault : Option StreamFault) (t : Turn) → Asks [] t
      → AddsRequests peer on all old (refuse_by memory fault t).book
  refused_asks memory fault t (inl a) =
      by_fault (λ u. AddsRequests peer on all old u.book) memory fault t
      (λ none.
      stops [] t.book t.book t.session.talk a.1 (none_left t.session.talk.on t.book))
      (λ f some lasts. (is_told_last memory _ _ [] t a.1).2)
      (λ end over. absurd (ended_lasts t.session end over a.0))
  refused_asks memory fault t (inr d) =
      by_fault (λ u. AddsRequests peer on all old u.book) memory fault t (λ none. d.2)
      (λ f some lasts. absurd (ended_lasts t.session d.0 d.1 lasts)) (λ end over. d.2)

-- ---- a piece

piece_asks : (admits : List ℕ → Admission) (g : Grants) (piece : List ℕ) (t : Turn)
    → t.session.end ≡ None
    → AddsRequests t.session.talk.peer t.session.talk.on (fed_by t.session.held piece).messages
    t.book (hear admits g piece t).book
piece_asks admits g piece t lasts =
    let fed = fed_by t.session.held piece in
    let peer = t.session.talk.peer in
    let on = t.session.talk.on in
    let begins : IsAsking peer on fed.messages t.book fed.messages t.book t.session.talk = record {
      asked = [];
      rows = sym (append-nil t.book.rows);
      requests = refl;
      signed = refl;
    } in
    let start = holding (held_part fed) t in
    by_memory (λ u. AddsRequests peer on fed.messages t.book u.book) admits g piece t
    (refused_asks peer on fed.messages t.book g.refusal fed.fault _
    (by_admission (Asks peer on fed.messages t.book []) admits g.first g.messages fed.messages start
    (by_message (Asks peer on fed.messages t.book)
    (next_asks peer on fed.messages t.book) g.messages fed.messages start (inl (lasts, begins)))
    (λ m later is nobody.
    inr (is_told_last peer on fed.messages t.book g.first _ _ fed.messages start begins))
    (λ m later is nobody.
    inr (ends_asking peer on fed.messages t.book (ends.Crowded m.from) fed.messages start begins))))
    (stops peer on fed.messages t.book fed.messages t.book _ t.session.talk begins
    (leaves_till on t.book))

pub octets_ask : (s : StationState) (memory : Grants) (k : ℕ) (octets : List ℕ) (x : Session)
    → peer_at s.peers k ≡ Some x → is_read x ≡ true
    → AddsRequests x.talk.peer x.talk.on (fed_by x.held octets).messages s.book
    (with_octets memory k octets s).book
octets_ask s memory k octets x there read =
    let start : Turn = record { book = s.book; session = x } in
    let ms = (fed_by x.held octets).messages in
    subst (λ y. AddsRequests x.talk.peer x.talk.on ms s.book (hear_from memory k octets y s).book)
    (sym there)
    (subst (λ b. AddsRequests x.talk.peer x.talk.on ms s.book
    (if b then with_turn k (hear (admits_at k x.door s) memory octets start) s else s).book)
    (sym read) (piece_asks (admits_at k x.door s) memory octets start (read_lasts x read)))

-- octets for a key whose peer isn't read from, or that nobody has
pub octets_unheard : (s : StationState) (memory : Grants) (k : ℕ) (octets : List ℕ)
    → is_read_at s k ≡ false → with_octets memory k octets s ≡ s
octets_unheard s memory k octets unread = by_slot (peer_at s.peers k) unread
  where
    by_slot : (y : Option Session) → is_read_of y ≡ false → hear_from memory k octets y s ≡ s
    by_slot None unread = refl
    by_slot (Some x) unread =
        ap (λ b. if b
        then with_turn k
        (hear (admits_at k x.door s) memory octets (record { book = s.book; session = x })) s
        else s) unread

-- ---- moves without octets

given_book : (is_place : Bool) (k : ℕ) (door : Option (List ℕ)) (y : Option Session)
    (s : StationState) → (give is_place k door y s).book ≡ s.book
given_book true k door None s = refl
given_book false k door None s = refl
given_book true k door (Some x) s = refl
given_book false k door (Some x) s = refl

pub arrived_book : (k : ℕ) (door : Option ℕ) (s : StationState) → (arrive k door s).book ≡ s.book
arrived_book k None s = given_book (nat_lt k FREE_PLACES) k None (peer_at s.peers k) s
arrived_book k (Some door) s = at_door (slice_get s.gates.doors door)
  where
    at_door : (node : Option (List ℕ)) → (give_at k door node s).book ≡ s.book
    at_door None = refl
    at_door (Some node) = given_book (is_place_at door k) k (Some node) (peer_at s.peers k) s

pub taken_book : (k n : ℕ) (y : Option Session) (s : StationState) → (take_by k n y s).book ≡ s.book
taken_book k n None s = refl
taken_book k n (Some x) s = refl

signs_off : (on : Option ℕ) (b b' : Book) → Leaves on b b' → AddsSignOff on b b'
signs_off on b b' l = record { left = l.left; rows = l.rows; leaving = l.leaving }

adds_none : (on : Option ℕ) (b b' : Book) → b'.rows ≡ b.rows → AddsSignOff on b b'
adds_none on b b' is =
    record { left = []; rows = is ∙ sym (append-nil b.rows); leaving = leaves_none on }

ends_sign_off : (k : ℕ) (y : Option Session) (s : StationState)
    → AddsSignOff (till_of y) s.book (finish_at k y s).book
ends_sign_off k None s = adds_none None s.book s.book refl
ends_sign_off k (Some x) s = by_test (is_none x.end)
  where
    by_test : (b : Bool)
        → AddsSignOff (if b then x.talk.on else None) s.book (if b
        then with_turn k (finish (record { book = s.book; session = x })) s
        else s).book
    by_test true = signs_off x.talk.on s.book _ (leaves_till x.talk.on s.book)
    by_test false = adds_none None s.book s.book refl

pub silent_moves : (m : Move) (s : StationState) → is_silent m ≡ true
    → AddsSignOff (till_left m s) s.book (after_move m s).book
silent_moves (Arrives k door) s silent =
    adds_none None s.book _
    (ap (λ (b : Book). b.rows) (arrived_book k door s))
silent_moves (Says memory k octets) s silent = absurd cc
silent_moves (EndsRelease on off p) s silent = absurd cc
silent_moves (Loses memory p) s silent = absurd cc
silent_moves (Takes k n) s silent =
    adds_none None s.book _ (ap (λ (b : Book). b.rows) (taken_book k n (peer_at s.peers k) s))
silent_moves Forgets s silent = adds_none None s.book _ (forgets_alone s.book).rows
silent_moves (Finishes k) s silent = ends_sign_off k (peer_at s.peers k) s
silent_moves (Gone k) s silent =
    subst (AddsSignOff (till_of (peer_at s.peers k)) s.book)
    (sym (freed_book k (peer_at (with_end k s).peers k) (with_end k s)))
    (ends_sign_off k (peer_at s.peers k) s)
