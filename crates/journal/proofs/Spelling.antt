-- Each row of a station can be spelled.
use Rattle.std.proofs.Common.{◌≡◌, inl, inr, ℕ, ◌==◌, Bool, true, false, List, [], ◌∷◌, ◌++◌}
use Rattle.std.proofs.Common.{length, map, drop, Option, Some, None, Result, Ok, Err, refl, ap}
use Rattle.std.proofs.Common.{sym, subst}
use Rattle.std.proofs.Common.{◌∙◌, arith}
use Rattle.std.specs.Prelude.{◌&&◌, IfSome, if◌then◌else◌, is_none, nat_lt, slice_index}
use Rattle.std.specs.List.{AllByRecursion, flat_map}
use Rattle.std.proofs.Math.Seq.{drop-append_seam}
use Rattle.site_base.specs.declared.actor.Actor.{Actor}
use Rattle.site_base.specs.declared.actor.Actor.TheVariants.{Dispenser, Till}
use Rattle.site_base.specs.declared.event.Event.{Event}
use Rattle.site_base.specs.declared.event.Event.TheVariants.{Offline, SignOff, SignOn, Terminate}
use Rattle.site_base.specs.declared.limits.TheConstants.{POINTS, TILLS}
use Rattle.site_base.specs.declared.row.Row.{Row}
use Rattle.site_base.specs.Ranges.{is_between}
use Rattle.app_message.specs.declared.fault.StreamFault.{StreamFault}
use Rattle.app_message.specs.declared.kind.Kind.{Kind}
use Rattle.app_message.specs.declared.kind.Kind.TheVariants as kinds
use Rattle.app_message.specs.Laws.{Ends, IsStream}
use Rattle.app_message.specs.Spelling.{IsMessage, spelling}
use Rattle.app_message.specs.Stream.{Held, fed_by, fed_from, held_part, stream_of}
use Rattle.app_message.specs.Telegram.{AreOctets, Telegram}
use Rattle.app_message.proofs.SpelledStreams.{octets_are_spelled}
use Rattle.app_message.proofs.Stages.{AreOctets-drop}
use Rattle.device_map.specs.declared.fault.MapFault.TheVariants.{BadOriginator}
use Rattle.device_map.specs.declared.ids.TheConstants as ids
use Rattle.device_map.specs.Nodes.{actor_at, for_us, is_request, till_at, dispenser_at}
use Rattle.device_map.specs.Addresses.{database_at}
use Rattle.device_map.specs.Requests.{event_at, request_at}
use Rattle.device_map.proofs.OneRequest.{there}
use Rattle.device_map.proofs.Results.{bind_ok, ok_is, passed, went}
use Rattle.chapters.proofs.Lists.{all_both}
use Rattle.chapters.proofs.Spelled.{IsSpelled, told_again}
use Rattle.chapters.proofs.Octets.{both_octets}
use Rattle.journal.specs.Laws.{HasHouse, IsMeant, StationsRowsCanBeSpelled}
use Rattle.site_base.specs.declared.answer.Answer.{Answer}
use Rattle.site_base.specs.declared.refusal.Refusal.{Refusal}
use Rattle.site_base.specs.SignChanges.{sign_change}
use Rattle.app_message.specs.Stream.{held_after}
use Rattle.conversation.specs.Books.{outcome_at, with_outcome}
use Rattle.device_map.specs.declared.fault.MapFault.{MapFault}
use Rattle.peer_talk.specs.Exchanges.{Asked, Outcome, request_asked, row_made, rows_made, signed_by}
use Rattle.peer_talk.specs.Exchanges.{signed_on_after, signed_with}
use Rattle.peer_talk.specs.Talks.{without_on}
use Rattle.peer_talk.specs.Text.{is_another, peer_after, requests_in, requests_then}
use Rattle.site_book.specs.Book.{Book}
use Rattle.station.specs.declared.gates.Admission.{Admission}
use Rattle.station.specs.declared.peer_end.PeerEnd.TheVariants as ends
use Rattle.station.specs.declared.sizes.TheConstants.{NOTICE_LIMIT}
use Rattle.station.specs.Adding.{IsLeaving, is_silent, till_left, till_of}
use Rattle.station.specs.Gates.{GateState, count_at}
use Rattle.station.specs.Listening.{listener}
use Rattle.station.specs.Moves.{StationState, end_release_by, is_released_at, lose, with_octets}
use Rattle.station.specs.Moves.{with_own_row, with_release_ended}
use Rattle.station.specs.Notices.{row_notice}
use Rattle.station.specs.Peers.{forget_till, peer_at, row_off, tell_notice, tell_row, tell_rows}
use Rattle.station.specs.Reads.{is_read_at, is_read_of}
use Rattle.station.specs.Runs.{AllSay, Arrives, EndsRelease, Finishes, Forgets, Leaves, Loses, Move}
use Rattle.station.specs.Runs.{Says, Takes, after, after_move, opening_station}
use Rattle.station.specs.Sessions.{Grants, Session, Turn, admit, hear, is_read}
use Rattle.station.proofs.Adding.{leaves_till, octets_ask, octets_unheard, silent_moves}
use Rattle.station.proofs.Keeping.{EachHolds, HoldsAt, Keeps, Leads, Piece, admitted_keeps}
use Rattle.station.proofs.Keeping.{by_memory, heard_keeps, holding, moves_keep, own_acts}
use Rattle.station.proofs.Keeping.{read_lasts, refused_keeps}
use Rattle.station.proofs.Pieces.{PiecesKeep, moves_kept}

-- ---- whoever asks

-- what the station itself asks can be spelled
on_spelled : (t : ℕ) → is_between 1 TILLS t ≡ true → IsSpelled (Till t, SignOn)
on_spelled t is = there 0 (Till t) SignOn (omega arith) is refl

off_spelled : (t : ℕ) → is_between 1 TILLS t ≡ true → IsSpelled (Till t, SignOff)
off_spelled t is = there 0 (Till t) SignOff (omega arith) is refl

terminate_spelled : (t p : ℕ) → is_between 1 TILLS t ≡ true → is_between 1 POINTS p ≡ true
    → IsSpelled (Till t, Terminate p)
terminate_spelled t p is at = there 0 (Till t) (Terminate p) (omega arith) is (rw at refl)

offline_spelled : (p : ℕ) → is_between 1 POINTS p ≡ true → IsSpelled (Dispenser p, Offline p)
offline_spelled p at = there 0 (Dispenser p) (Offline p) (omega arith) at (rw at refl)

-- a till that asks is one that there may be
till_asks : (node : List ℕ) (t : ℕ) → till_at node ≡ Ok (Till t) → is_between 1 TILLS t ≡ true
unfolding till_at
till_asks node t is =
    let test =
    passed (slice_index node 0 == ids.TILL_SUBNET && is_between 1 TILLS (slice_index node 1))
    BadOriginator (Ok (Till (slice_index node 1))) (Till t) is in
    let same : slice_index node 1 ≡ t = number (ok_is (Till (slice_index node 1)) (Till t) test.1) in
    subst (λ n. is_between 1 TILLS n ≡ true) same
    (second (slice_index node 0 == ids.TILL_SUBNET) _ test.0)
  where
    second : (a b : Bool) → (a && b) ≡ true → b ≡ true
    second true b both = both
    second false b both = absurd cc

    number : {a b : ℕ} → Till a ≡ Till b → a ≡ b
    number is = cc

actor_asks : (kind : Kind) (node : List ℕ) (t : ℕ) → actor_at kind node ≡ Ok (Till t)
    → is_between 1 TILLS t ≡ true
unfolding dispenser_at
actor_asks kinds.Read node t is = till_asks node t is
actor_asks kinds.Write node t is = till_asks node t is
actor_asks kinds.Report node t is =
    let test =
    passed (slice_index node 0 == ids.DISPENSER_SUBNET
    && is_between 1 POINTS (slice_index node 1)) BadOriginator
    (Ok (Dispenser (slice_index node 1))) (Till t) is in
    absurd (no (ok_is (Dispenser (slice_index node 1)) (Till t) test.1))
  where
    no : {a : ℕ} → Dispenser a ≡ Till t → ⊥
    no is = cc
actor_asks kind node t is = absurd cc

request_asks : (m : Telegram) (t : ℕ) (event : Event) → request_at m ≡ Ok (Till t, event)
    → is_between 1 TILLS t ≡ true
unfolding request_at
request_asks m t event is =
    let request = bind_ok (is_request m.kind) _ (Till t, event) is in
    let us = bind_ok (for_us m.to) _ (Till t, event) request.2 in
    let from = bind_ok (actor_at m.kind m.from) _ (Till t, event) us.2 in
    let database = bind_ok (database_at m.address) _ (Till t, event) from.2 in
    let last = bind_ok (event_at m.kind database.0 m.items) _ (Till t, event) database.2 in
    let pair : (from.0, last.0) ≡ (Till t, event) =
    ok_is (from.0, last.0) (Till t, event) last.2 in
    actor_asks m.kind m.from t
    (from.1 ∙ ap went (ap (λ (x : Actor × Event). x.0) pair))

spelled_till : (t : ℕ) (event : Event) → IsSpelled (Till t, event) → is_between 1 TILLS t ≡ true
spelled_till t event is = request_asks _ t event is.asks

-- ---- what octets bring

rest_octets : (s : List ℕ) → AreOctets s → AreOctets (stream_of s).rest
rest_octets s fits = by_fault (stream_of s).fault refl (octets_are_spelled s fits).ends
  where
    is : IsStream s (stream_of s)
    is = octets_are_spelled s fits

    left : AreOctets is.left
    left =
        subst AreOctets
        (ap (drop (length (flat_map spelling (stream_of s).messages))) is.parts
        ∙ drop-append_seam (flat_map spelling (stream_of s).messages) is.left)
        (AreOctets-drop (length (flat_map spelling (stream_of s).messages)) s fits)

    none : AreOctets []
    none i = omega arith

    by_fault : (f : Option StreamFault) → (stream_of s).fault ≡ f
        → Ends f (stream_of s).rest is.left → AreOctets (stream_of s).rest
    by_fault None same ends = subst AreOctets (sym ends.0) left
    by_fault (Some f) same ends = subst AreOctets (sym ends.0) none

fed_octets : (h : Held) (piece : List ℕ) → AreOctets h.rest → AreOctets piece
    → AllByRecursion IsMessage (fed_by h piece).messages × AreOctets (fed_by h piece).rest
fed_octets h piece held fits = by_fault h.fault
  where
    all : AreOctets (h.rest ++ piece)
    all = both_octets h.rest piece held fits

    none : AreOctets []
    none i = omega arith

    by_fault : (f : Option StreamFault)
        → AllByRecursion IsMessage (fed_from f (h.rest ++ piece)).messages
        × AreOctets (fed_from f (h.rest ++ piece)).rest
    by_fault None =
        ((octets_are_spelled (h.rest ++ piece) all).valid, rest_octets (h.rest ++ piece) all)
    by_fault (Some f) = (tt, none)

-- ---- a session

abbrev IsTill : Option ℕ → Type 0
IsTill on = IfSome on (λ t. is_between 1 TILLS t ≡ true)

-- it holds octets, and is signed on as a till that there may be
record IsSound (x : Session) : Type 0 where
  pub octets : AreOctets x.held.rest
  pub till : IsTill x.talk.on

reply_signs : (actor : Actor) (event : Event) (reply : Result Answer Refusal) (on : Option ℕ)
    → ((t : ℕ) → actor ≡ Till t → is_between 1 TILLS t ≡ true) → IsTill on
    → IsTill (signed_with (sign_change actor event reply) on)
reply_signs (Till t) SignOn (Ok answer) on asks is = asks t refl
reply_signs (Till t) SignOff (Ok answer) on asks is = tt
reply_signs actor event reply on asks is = is

outcome_signs : (actor : Actor) (event : Event) (outcome : Outcome) (on : Option ℕ)
    → ((t : ℕ) → actor ≡ Till t → is_between 1 TILLS t ≡ true) → IsTill on
    → IsTill (signed_by actor event outcome on)
outcome_signs actor event (Ok reply) on asks is = reply_signs actor event reply on asks is
outcome_signs actor event (Err no_row) on asks is = is

till_kept : Keeps (λ t. IsTill t.session.talk.on)
till_kept = record {
  serves = λ from t lasts is. is;
  asks = λ memory m actor event t lasts meant spoken is.
      outcome_signs actor event (outcome_at memory t.book actor event) t.session.talk.on
      (λ n same.
      request_asks m n event
      (meant ∙ ap (λ (a : Actor). let r : Result (Actor × Event) MapFault = Ok (a, event) in r)
      same)) is;
  tells = λ text t lasts is. is;
  ends = λ end t lasts is. is;
}

octets_kept : Keeps (λ t. AreOctets t.session.held.rest)
octets_kept = record {
  serves = λ from t lasts is. is;
  asks = λ memory m actor event t lasts meant spoken is. is;
  tells = λ text t lasts is. is;
  ends = λ end t lasts is. is;
}

held_octets : (admits : List ℕ → Admission) (g : Grants) (piece : List ℕ) (t : Turn)
    → t.session.end ≡ None → AreOctets piece → AreOctets t.session.held.rest
    → AreOctets (hear admits g piece t).session.held.rest
held_octets admits g piece t lasts fits held =
    let fed = fed_by t.session.held piece in
    let start = holding (held_part fed) t in
    by_memory (λ later. AreOctets later.session.held.rest) admits g piece t
    (refused_keeps octets_kept g.refusal fed.fault
    (admit admits g.first g.messages fed.messages start)
    (admitted_keeps octets_kept admits g.first g.messages fed.messages start lasts
    (fed_octets t.session.held piece held fits).1)) held

noticed_sound : (n : Option (List ℕ)) (x : Session) → IsSound x → IsSound (tell_notice n x)
noticed_sound None x is = is
noticed_sound (Some octets) x is = by_test (nat_lt NOTICE_LIMIT (length x.owed))
  where
    by_test : (behind : Bool)
        → IsSound (if behind then record x { end = Some ends.Behind }
        else record x { owed = x.owed ++ octets })
    by_test true = record { octets = is.octets; till = is.till }
    by_test false = record { octets = is.octets; till = is.till }

still_till : (t : ℕ) (on : Option ℕ) → IsTill on → IsTill (without_on t on)
still_till t None is = tt
still_till t (Some on) is = by_test (on == t)
  where
    by_test : (same : Bool) → IsTill (if same then None else Some on)
    by_test true = tt
    by_test false = is

forgotten_sound : (off : Option ℕ) (x : Session) → IsSound x → IsSound (forget_till off x)
forgotten_sound None x is = is
forgotten_sound (Some t) x is = by_end (is_none x.end)
  where
    by_end : (lasts : Bool)
        → IsSound (if lasts
        then record x { talk = record x.talk { on = without_on t x.talk.on } }
        else x)
    by_end true = record { octets = is.octets; till = still_till t x.talk.on is.till }
    by_end false = is

rows_sound : (rows : List Row) (x : Session) → IsSound x → IsSound (tell_rows rows x)
rows_sound [] x is = is
rows_sound (r ∷ rows) x is =
    let notice = row_notice (listener x.end x.talk.peer) r in
    rows_sound rows (tell_row r x)
    (forgotten_sound (row_off r) (tell_notice notice x) (noticed_sound notice x is))

opened_octets : AreOctets (held_after []).rest
opened_octets = rest_octets [] (λ i. omega arith)

sound_kept : PiecesKeep AreOctets IsSound
sound_kept = record {
  opens = λ door. record { octets = opened_octets; till = tt };
  told = rows_sound;
  hears = λ admits g piece t fits read is.
      let lasts = read_lasts t.session read in
      record {
        octets = held_octets admits g piece t lasts fits is.octets;
        till = heard_keeps till_kept admits (Piece g piece) t lasts is.till (λ p. is.till);
      };
  ends = λ end t is. record { octets = is.octets; till = is.till };
  takes = λ n x is. record { octets = is.octets; till = is.till };
}

-- ---- rows

abbrev IsSpelledRow : Row → Type 0
IsSpelledRow r = IsSpelled (r.actor, r.event)

all_front : (a b : List (Actor × Event)) → AllByRecursion IsSpelled (a ++ b)
    → AllByRecursion IsSpelled a
all_front [] b all = tt
all_front (e ∷ a) b all = (all.0, all_front a b all.1)

requests_spelled : (peer : Option (List ℕ)) (ms : List Telegram) → AllByRecursion IsMessage ms
    → AllByRecursion IsSpelled (requests_in peer ms)
requests_spelled peer [] valid = tt
requests_spelled peer (m ∷ ms) valid =
    by_test (is_another peer m.from) (request_at m) refl
    (requests_spelled (peer_after peer m.from) ms valid.1)
  where
    by_test : (another : Bool) (r : Result (Actor × Event) MapFault) → request_at m ≡ r
        → AllByRecursion IsSpelled (requests_in (peer_after peer m.from) ms)
        → AllByRecursion IsSpelled (if another then []
        else requests_then r (requests_in (peer_after peer m.from) ms))
    by_test true r is rest = tt
    by_test false (Err f) is rest = rest
    by_test false (Ok request) is rest = (told_again m request.0 request.1 valid.0 is, rest)

made_spelled : (asked : List Asked) → AllByRecursion IsSpelled (map request_asked asked)
    → AllByRecursion IsSpelledRow (rows_made asked)
made_spelled [] all = tt
made_spelled (a ∷ asked) all = by_outcome a.outcome (made_spelled asked all.1)
  where
    by_outcome : (o : Outcome) → AllByRecursion IsSpelledRow (rows_made asked)
        → AllByRecursion IsSpelledRow (row_made a.actor a.event o ++ rows_made asked)
    by_outcome (Ok reply) rest = (all.0, rest)
    by_outcome (Err no_row) rest = rest

asked_till : (asked : List Asked) (on : Option ℕ)
    → AllByRecursion IsSpelled (map request_asked asked) → IsTill on
    → IsTill (signed_on_after on asked)
asked_till [] on all is = is
asked_till (a ∷ asked) on all is =
    asked_till asked (signed_by a.actor a.event a.outcome on) all.1
    (outcome_signs a.actor a.event a.outcome on
    (λ t same.
    spelled_till t a.event (subst (λ (x : Actor). IsSpelled (x, a.event)) same all.0)) is)

left_spelled : (on : Option ℕ) (left : List Row) → IsTill on → IsLeaving on left
    → AllByRecursion IsSpelledRow left
left_spelled None left till is = subst (AllByRecursion IsSpelledRow) (sym is) tt
left_spelled (Some t) left till (inl is) = subst (AllByRecursion IsSpelledRow) (sym is) tt
left_spelled (Some t) left till (inr is) =
    subst (AllByRecursion IsSpelledRow) (sym is) (off_spelled t till, tt)

abbrev AreSpelled : Book → Type 0
AreSpelled b = AllByRecursion IsSpelledRow b.rows

-- ---- moves

heard_spelled : (s : StationState) (memory : Grants) (k : ℕ) (octets : List ℕ) → AreOctets octets
    → EachHolds IsSound s → AreSpelled s.book → AreSpelled (with_octets memory k octets s).book
heard_spelled s memory k octets fits each spelled = by_peer (peer_at s.peers k) refl
  where
    unheard : is_read_at s k ≡ false → AreSpelled (with_octets memory k octets s).book
    unheard unread =
        subst (λ (later : StationState). AreSpelled later.book)
        (sym (octets_unheard s memory k octets unread)) spelled

    heard : (x : Session) → peer_at s.peers k ≡ Some x → is_read x ≡ true
        → AreSpelled (with_octets memory k octets s).book
    heard x there read =
        let adds = octets_ask s memory k octets x there read in
        let is : IsSound x = subst (HoldsAt IsSound) there (each k) in
        let valid = (fed_octets x.held octets is.octets fits).0 in
        let all : AllByRecursion IsSpelled (map request_asked adds.asked) =
        all_front (map request_asked adds.asked) adds.unasked
        (subst (AllByRecursion IsSpelled) adds.requests
        (requests_spelled x.talk.peer (fed_by x.held octets).messages valid)) in
        subst (AllByRecursion IsSpelledRow) (sym adds.rows)
        (all_both IsSpelledRow (s.book.rows ++ rows_made adds.asked) adds.left
        (all_both IsSpelledRow s.book.rows (rows_made adds.asked) spelled
        (made_spelled adds.asked all))
        (left_spelled (signed_on_after x.talk.on adds.asked) adds.left
        (asked_till adds.asked x.talk.on all is.till) adds.leaving))

    by_peer : (y : Option Session) → peer_at s.peers k ≡ y
        → AreSpelled (with_octets memory k octets s).book
    by_peer None there = unheard (ap is_read_of there)
    by_peer (Some x) there = by_read (is_read x) refl
      where
        by_read : (b : Bool) → is_read x ≡ b → AreSpelled (with_octets memory k octets s).book
        by_read true read = heard x there read
        by_read false unread = unheard (ap is_read_of there ∙ unread)

silent_spelled : (m : Move) (s : StationState) → is_silent m ≡ true → IsTill (till_left m s)
    → AreSpelled s.book → AreSpelled (after_move m s).book
silent_spelled m s silent till spelled =
    let adds = silent_moves m s silent in
    subst (AllByRecursion IsSpelledRow) (sym adds.rows)
    (all_both IsSpelledRow s.book.rows adds.left spelled
    (left_spelled (till_left m s) adds.left till adds.leaving))

left_till : (y : Option Session) → HoldsAt IsSound y → IsTill (till_of y)
left_till None each = tt
left_till (Some x) each = by_end (is_none x.end)
  where
    by_end : (lasts : Bool) → IsTill (if lasts then x.talk.on else None)
    by_end true = each.till
    by_end false = tt

outcome_spelled : (actor : Actor) (event : Event) (outcome : Outcome) (b : Book)
    → IsSpelled (actor, event) → AreSpelled b → AreSpelled (with_outcome actor event outcome b)
outcome_spelled actor event (Ok reply) b is spelled =
    all_both IsSpelledRow b.rows _ spelled (is, tt)
outcome_spelled actor event (Err no_row) b is spelled =
    all_both IsSpelledRow b.rows [] spelled tt

released_spelled : (on off : Bool) (t p : ℕ) (s : StationState) → is_between 1 TILLS t ≡ true
    → is_between 1 POINTS p ≡ true → AreSpelled s.book
    → AreSpelled (with_release_ended on off t p s).book
released_spelled on off t p s till at spelled =
    let first = with_own_row on (Till t) SignOn s in
    let second = with_own_row off (Till t) (Terminate p) first in
    let leaves = leaves_till (Some t) second.book in
    subst (AllByRecursion IsSpelledRow) (sym leaves.rows)
    (all_both IsSpelledRow second.book.rows leaves.left
    (outcome_spelled (Till t) (Terminate p) (outcome_at off first.book (Till t) (Terminate p))
    first.book (terminate_spelled t p till at)
    (outcome_spelled (Till t) SignOn (outcome_at on s.book (Till t) SignOn) s.book
    (on_spelled t till) spelled))
    (left_spelled (Some t) leaves.left till leaves.leaving))

house_spelled : (on off : Bool) (p : ℕ) (house : Option ℕ) (s : StationState)
    → IsTill house → is_between 1 POINTS p ≡ true → AreSpelled s.book
    → AreSpelled (end_release_by on off p house s).book
house_spelled on off p None s is at spelled = spelled
house_spelled on off p (Some t) s is at spelled = by_test (is_released_at s.book p)
  where
    by_test : (b : Bool)
        → AreSpelled (if b then with_release_ended on off t p s else s).book
    by_test true = released_spelled on off t p s is at spelled
    by_test false = spelled

lost_spelled : (memory : Bool) (p : ℕ) (s : StationState) → is_between 1 POINTS p ≡ true
    → AreSpelled s.book → AreSpelled (lose memory p s).book
lost_spelled memory p s at spelled =
    by_test (count_at (ids.DISPENSER_SUBNET ∷ p ∷ []) s.peers == 0)
  where
    by_test : (b : Bool)
        → AreSpelled (if b then with_own_row memory (Dispenser p) (Offline p) s else s).book
    by_test true =
        outcome_spelled (Dispenser p) (Offline p)
        (outcome_at memory s.book (Dispenser p) (Offline p)) s.book (offline_spelled p at) spelled
    by_test false = spelled

move_spelled : (m : Move) (s : StationState) → HasHouse s.gates → IsMeant m
    → EachHolds IsSound s → AreSpelled s.book → AreSpelled (after_move m s).book
move_spelled (Says memory k octets) s house meant each spelled =
    heard_spelled s memory k octets meant each spelled
move_spelled (EndsRelease on off p) s house meant each spelled =
    house_spelled on off p s.gates.house s house meant spelled
move_spelled (Loses memory p) s house meant each spelled = lost_spelled memory p s meant spelled
move_spelled (Arrives k door) s house meant each spelled =
    silent_spelled (Arrives k door) s refl tt spelled
move_spelled (Takes k n) s house meant each spelled =
    silent_spelled (Takes k n) s refl tt spelled
move_spelled (Finishes k) s house meant each spelled =
    silent_spelled (Finishes k) s refl (left_till (peer_at s.peers k) (each k)) spelled
move_spelled (Leaves k) s house meant each spelled =
    silent_spelled (Leaves k) s refl (left_till (peer_at s.peers k) (each k)) spelled
move_spelled Forgets s house meant each spelled = silent_spelled Forgets s refl tt spelled

-- who may speak where stays
gates_lead : (g : GateState) (k : ℕ) (s : StationState) → s.gates ≡ g
    → Leads (λ later. later.gates ≡ g) k s
gates_lead g k s same = record {
  stays = same;
  comes = λ door none place. same;
  turns = λ input x there lasts. same;
  takes = λ n x there. same;
  leaves = λ later x there over still. still;
}

gates_stay : (g : GateState) (ms : List Move) (s : StationState) → s.gates ≡ g
    → (after ms s).gates ≡ g
gates_stay g =
    moves_keep (λ s. s.gates ≡ g) (gates_lead g)
    (own_acts (λ s. s.gates ≡ g) (record {
      asks = λ memory actor event s own same. same;
      leaves = λ t s same. same;
    })) (λ s same. same)

say_octets : (ms : List Move) → AllByRecursion IsMeant ms → AllSay AreOctets ms
say_octets [] meant = tt
say_octets (Says memory k octets ∷ ms) meant = (meant.0, say_octets ms meant.1)
say_octets (Arrives k door ∷ ms) meant = say_octets ms meant.1
say_octets (Takes k n ∷ ms) meant = say_octets ms meant.1
say_octets (Finishes k ∷ ms) meant = say_octets ms meant.1
say_octets (Leaves k ∷ ms) meant = say_octets ms meant.1
say_octets (EndsRelease on off p ∷ ms) meant = say_octets ms meant.1
say_octets (Loses memory p ∷ ms) meant = say_octets ms meant.1
say_octets (Forgets ∷ ms) meant = say_octets ms meant.1

moves_spelled : (g : GateState) (ms : List Move) (s : StationState) → HasHouse g → s.gates ≡ g
    → AllByRecursion IsMeant ms → EachHolds IsSound s → AreSpelled s.book
    → AreSpelled (after ms s).book
moves_spelled g [] s house same meant each spelled = spelled
moves_spelled g (m ∷ ms) s house same meant each spelled =
    let one : AllSay AreOctets (m ∷ []) = say_octets (m ∷ []) (meant.0, tt) in
    moves_spelled g ms (after_move m s) house (gates_stay g (m ∷ []) s same) meant.1
    (moves_kept sound_kept (m ∷ []) s one each)
    (move_spelled m s (subst HasHouse (sym same) house) meant.0 each spelled)

pub stations_rows_can_be_spelled : StationsRowsCanBeSpelled
stations_rows_can_be_spelled = λ g b ms house meant spelled.
    moves_spelled g ms (opening_station g b) house refl meant (λ j. tt) spelled
