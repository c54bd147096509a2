-- The rows of a node that has a door come through it.
use Rattle.std.proofs.Common.{◌≡◌, ℕ, Bool, true, false, List, [], ◌∷◌, ◌++◌, Option, Some, None}
use Rattle.std.proofs.Common.{Ok, Err, drop, refl, ap, sym, subst, ◌∙◌, append_assoc, append-nil}
use Rattle.std.proofs.Common.{inl, inr}
use Rattle.std.specs.Prelude.{◌&&◌, ◌||◌, ◌==◌, if◌then◌else◌, is_none, length, nat_lt}
use Rattle.std.specs.Prelude.{option_map, slice_index}
use Rattle.std.specs.List.{AllByRecursion, list_any}
use Rattle.std.proofs.lemmas.Bool.{false≢true}
use Rattle.site_base.specs.declared.actor.Actor.{Actor}
use Rattle.site_base.specs.declared.actor.Actor.TheVariants.{Dispenser, Till}
use Rattle.site_base.specs.declared.event.Event.{Event}
use Rattle.site_base.specs.declared.row.Row.{Row}
use Rattle.app_message.specs.Stream.{fed_by, held_part}
use Rattle.app_message.specs.Telegram.{Telegram}
use Rattle.device_map.specs.declared.ids.TheConstants.{DISPENSER_SUBNET, TILL_SUBNET}
use Rattle.site_book.specs.Book.{Book}
use Rattle.site_book.proofs.Books.{forgets_alone}
use Rattle.peer_talk.specs.declared.talk.Meaning.{Meaning}
use Rattle.peer_talk.specs.declared.talk.Meaning.TheVariants as meanings
use Rattle.peer_talk.specs.Exchanges.{Outcome, row_made}
use Rattle.peer_talk.specs.Talks.{IsOwn, IsSpokenBy, TalkState, without_on}
use Rattle.peer_talk.specs.Text.{is_same_node, meaning_at, peer_after}
use Rattle.peer_talk.proofs.Speakers.{own_met, own_signed, request_meant, spoken_by}
use Rattle.conversation.specs.Books.{outcome_at, with_outcome}
use Rattle.station.specs.declared.gates.Admission.{Admission}
use Rattle.station.specs.declared.gates.Admission.TheVariants as admissions
use Rattle.station.specs.declared.peer_end.PeerEnd.{PeerEnd}
use Rattle.station.specs.declared.peer_end.PeerEnd.TheVariants as ends
use Rattle.station.specs.declared.sizes.TheConstants.{NOTICE_LIMIT}
use Rattle.station.specs.Adding.{IsLeaving}
use Rattle.station.specs.Gates.{GateState, admission, admission_beside, admission_by, count_at}
use Rattle.station.specs.Gates.{has_door, is_house}
use Rattle.station.specs.Listening.{is_at, listener}
use Rattle.station.specs.Moves.{StationState, admits_at, finish_at, hear_from, rows_since}
use Rattle.station.specs.Moves.{with_book}
use Rattle.station.specs.Moves.{take_by, with_end, with_turn, without_old_rows}
use Rattle.station.specs.Neighbours.{IsThroughItsDoor, RowsComeThroughTheirDoor, is_peer_at}
use Rattle.station.specs.Neighbours.{node_of_actor}
use Rattle.station.specs.Notices.{row_notice}
use Rattle.station.specs.Peers.{forget_till, peer_at, row_off, tell_notice, tell_row, tell_rows}
use Rattle.station.specs.Peers.{with_notices, with_peer}
use Rattle.station.specs.Runs.{Arrives, EndsRelease, Finishes, Forgets, Leaves as Gone, Loses}
use Rattle.station.specs.Runs.{Move, Says, Takes, after, after_move, arrive, opening_station}
use Rattle.station.specs.Sessions.{Granted, Grants, Session, Turn, admit, admit_first, answer}
use Rattle.station.specs.Sessions.{answer_all, answer_meaning, ask, end_session, full_grant}
use Rattle.station.specs.Sessions.{is_read}
use Rattle.station.specs.Sessions.{finish, hear, no_memory, opening_session, serve, tell_last}
use Rattle.station.specs.Sessions.{with_text}
use Rattle.station.specs.Sessions.{without_till}
use Rattle.station.proofs.Adding.{arrived_book, leaves_till, taken_book}
use Rattle.station.proofs.Keeping.{Acts, Input, Keeps, Leads, NoMore, Piece, after_input, all_keep}
use Rattle.station.proofs.Keeping.{by_fault, by_lasting, by_memory, each_moved, ended_lasts}
use Rattle.station.proofs.Keeping.{holding, key_of}
use Rattle.station.proofs.Keeping.{moved_keeps, own_acts, read_lasts, told_keeps}
use Rattle.station.proofs.Keeping.{turn_at}
use Rattle.station.proofs.Leaving.{AreOwn, IsOwnSession, always_own, each_own, freed_book}
use Rattle.station.proofs.Leaving.{own_at}
use Rattle.station.proofs.Peers.{at_slot, peer_at-map}
use Rattle.station.proofs.Turns.{drop-front}

-- ---- who may speak there

-- a session at this door, or without one, may serve this originator
abbrev MayServe : GateState → List ℕ → Option (List ℕ) → Type 0
MayServe g peer None = has_door g peer ≡ false
MayServe g peer (Some node) = is_same_node node peer ≡ true

abbrev IsRightFor : GateState → Option (List ℕ) → Option (List ℕ) → Type 0
IsRightFor g None door = Unit {0}
IsRightFor g (Some peer) door = MayServe g peer door

-- .. if it serves one
abbrev IsRight : GateState → Option (List ℕ) → Option (List ℕ) → Type 0
IsRight g door peer = IsRightFor g peer door

-- whoever is admitted may
admitted_right : (g : GateState) (others : List (Option Session)) (door : Option (List ℕ))
    (from : List ℕ) → admission g others door from ≡ admissions.Welcome
    → IsRight g door (Some from)
admitted_right g others door from is = by_house (is_house g.house from) door is
  where
    by_beside : (b : Bool) → has_door g from ≡ b
        → admission_beside b (count_at from others) ≡ admissions.Welcome
        → has_door g from ≡ false
    by_beside true has is = absurd cc
    by_beside false has is = has

    by_node : (b : Bool) → (if b then admissions.Welcome else admissions.Barred)
        ≡ admissions.Welcome → b ≡ true
    by_node true is = refl
    by_node false is = absurd cc

    by_house : (house : Bool) (at : Option (List ℕ))
        → (if house then admissions.Barred else admission_by g others at from)
        ≡ admissions.Welcome
        → IsRight g at (Some from)
    by_house true at is = absurd cc
    by_house false None is = by_beside (has_door g from) refl is
    by_house false (Some node) is = by_node (is_same_node node from) is

-- an actor that speaks in a session is at the node that the session serves
same_for : (actor : Actor) (peer node : List ℕ) → IsSpokenBy actor (Some peer)
    → is_same_node node peer ≡ is_same_node node (node_of_actor actor)
same_for (Till t) peer node spoken =
    ap (λ n. slice_index node 0 == n && slice_index node 1 == slice_index peer 1) spoken.0
    ∙ ap (λ n. slice_index node 0 == TILL_SUBNET && slice_index node 1 == n) spoken.1
same_for (Dispenser p) peer node spoken =
    ap (λ n. slice_index node 0 == n && slice_index node 1 == slice_index peer 1) spoken.0
    ∙ ap (λ n. slice_index node 0 == DISPENSER_SUBNET && slice_index node 1 == n) spoken.1

doors_for : (actor : Actor) (peer : List ℕ) (doors : List (List ℕ))
    → IsSpokenBy actor (Some peer)
    → list_any (λ door. is_same_node door peer) doors
    ≡ list_any (λ door. is_same_node door (node_of_actor actor)) doors
doors_for actor peer [] spoken = refl
doors_for actor peer (door ∷ doors) spoken =
    ap (λ b. b || list_any (λ at. is_same_node at peer) doors) (same_for actor peer door spoken)
    ∙ ap (λ b. is_same_node door (node_of_actor actor) || b)
    (doors_for actor peer doors spoken)

nobody_speaks : (actor : Actor) → IsSpokenBy actor None → ⊥
nobody_speaks (Till t) spoken = spoken
nobody_speaks (Dispenser p) spoken = spoken

-- so who has a door speaks there
right_through : (g : GateState) (door peer : Option (List ℕ)) (actor : Actor)
    → IsRight g door peer → IsSpokenBy actor peer → has_door g (node_of_actor actor) ≡ true
    → is_at door (node_of_actor actor) ≡ true
right_through g door None actor right spoken has = absurd (nobody_speaks actor spoken)
right_through g None (Some peer) actor right spoken has =
    absurd (false≢true (sym right ∙ doors_for actor peer g.doors spoken ∙ has))
right_through g (Some node) (Some peer) actor right spoken has =
    sym (same_for actor peer node spoken) ∙ right

-- ---- rows

-- where the actor's node has a door, it is this one
abbrev IsRightRow : GateState → Option (List ℕ) → Row → Type 0
IsRightRow g door r =
    has_door g (node_of_actor r.actor) ≡ true → is_at door (node_of_actor r.actor) ≡ true

abbrev AreRight : GateState → Option (List ℕ) → List Row → Type 0
AreRight g door rows = AllByRecursion (IsRightRow g door) rows

both_right : (g : GateState) (door : Option (List ℕ)) (a b : List Row) → AreRight g door a
    → AreRight g door b → AreRight g door (a ++ b)
both_right g door [] b first last = last
both_right g door (r ∷ a) b first last = (first.0, both_right g door a b first.1 last)

made_right : (g : GateState) (door peer : Option (List ℕ)) (actor : Actor) (event : Event)
    (outcome : Outcome) → IsRight g door peer → IsSpokenBy actor peer
    → AreRight g door (row_made actor event outcome)
made_right g door peer actor event (Ok reply) right spoken =
    (right_through g door peer actor right spoken, tt)
made_right g door peer actor event (Err no_row) right spoken = tt

left_right : (g : GateState) (door peer : Option (List ℕ)) (on : Option ℕ) (left : List Row)
    → IsRight g door peer → IsOwn on peer → IsLeaving on left → AreRight g door left
left_right g door peer None left right own is = subst (AreRight g door) (sym is) tt
left_right g door peer (Some t) left right own (inl none) =
    subst (AreRight g door) (sym none) tt
left_right g door peer (Some t) left right own (inr one) =
    subst (AreRight g door) (sym one) (right_through g door peer (Till t) right own, tt)

-- ---- a turn of a session at this door that began at a book with these rows

module _ (g : GateState) (door : Option (List ℕ)) (before : List Row) where
  record IsRightTurn (t : Turn) : Type 0 where
    at : t.session.door ≡ door
    own : IsOwnSession t.session
    right : IsRight g door t.session.talk.peer
    more : List Row
    rows : t.book.rows ≡ before ++ more
    each : AreRight g door more

  -- whom it serves is known
  abbrev IsServing : Option (List ℕ) → Type 0
  IsServing None = ⊥
  IsServing (Some peer) = Unit {0}

  -- .. where it lasts
  abbrev IsSettled : Turn → Type 0
  IsSettled t = IsRightTurn t × (t.session.end ≡ None → IsServing t.session.talk.peer)

  -- nothing that matters has changed
  alike : (t u : Turn) → u.session.door ≡ t.session.door → u.session.talk ≡ t.session.talk
      → u.book ≡ t.book → IsRightTurn t → IsRightTurn u
  alike t u at talk book is = record {
    at = at ∙ is.at;
    own = subst (λ (s : TalkState). IsOwn s.on s.peer) (sym talk) is.own;
    right = subst (λ (s : TalkState). IsRight g door s.peer) (sym talk) is.right;
    more = is.more;
    rows = ap (λ (b : Book). b.rows) book ∙ is.rows;
    each = is.each;
  }

  ended : (end : PeerEnd) (t : Turn) → IsRightTurn t → IsSettled (end_session end t)
  ended end t is =
      let l = leaves_till t.session.talk.on t.book in (
        record {
          at = is.at;
          own = is.own;
          right = is.right;
          more = is.more ++ l.left;
          rows = l.rows ∙ ap (λ rs. rs ++ l.left) is.rows ∙ append_assoc before is.more l.left;
          each = both_right g door is.more l.left is.each
              (left_right g door t.session.talk.peer t.session.talk.on l.left is.right is.own
              l.leaving);
        },
        λ none. absurd (let no : Some end ≡ None = none in cc),
      )

  last_told : (memory : Bool) (text : List ℕ) (end : PeerEnd) (t : Turn) → IsRightTurn t
      → IsSettled (tell_last memory text end t)
  last_told true text end t is =
      ended end (with_text text t) (alike t (with_text text t) refl refl refl is)
  last_told false text end t is = ended no_memory t is

  right_after : (peer : Option (List ℕ)) (from : List ℕ) → IsServing peer
      → IsRight g door peer → IsRight g door (peer_after peer from)
  right_after None from serving right = absurd serving
  right_after (Some peer) from serving right = right

  serving_after : (peer : Option (List ℕ)) (from : List ℕ) → IsServing (peer_after peer from)
  serving_after None from = tt
  serving_after (Some peer) from = tt

  -- it begins to serve this originator, which may speak there
  served : (from : List ℕ) (t : Turn) → IsRight g door (peer_after t.session.talk.peer from)
      → IsRightTurn t → IsSettled (serve from t)
  served from t right is = (
    record {
      at = is.at;
      own = own_met t.session.talk.on t.session.talk.peer from is.own;
      right = right;
      more = is.more;
      rows = is.rows;
      each = is.each;
    },
    λ lasts. serving_after t.session.talk.peer from,
  )

  settled_kept : Keeps IsSettled
  settled_kept = record {
    serves = λ from t lasts is.
        served from t (right_after t.session.talk.peer from (is.1 lasts) (is.0).right) is.0;
    asks = λ memory m actor event t lasts meant spoken is.
        let outcome = outcome_at memory t.book actor event in
        let made = row_made actor event outcome in (
          record {
            at = (is.0).at;
            own = own_signed actor event outcome t.session.talk.on t.session.talk.peer spoken
                (is.0).own;
            right = (is.0).right;
            more = (is.0).more ++ made;
            rows = ap (λ rs. rs ++ made) (is.0).rows ∙ append_assoc before (is.0).more made;
            each = both_right g door (is.0).more made (is.0).each
                (made_right g door t.session.talk.peer actor event outcome (is.0).right spoken);
          },
          λ goes. is.1 lasts,
        );
    tells = λ text t lasts is. (alike t (with_text text t) refl refl refl is.0, is.1);
    ends = λ end t lasts is. ended end t is.0;
  }

  -- ---- its first message

  first_meaning : (granted : Granted) (m : Telegram) (meaning : Meaning) (t : Turn)
      → meaning_at t.session.talk.peer m ≡ meaning → t.session.end ≡ None
      → IsRight g door (peer_after t.session.talk.peer m.from) → IsRightTurn t
      → IsSettled (answer_meaning granted m meaning t)
  first_meaning granted m meanings.Another t is lasts right turn = last_told granted.text _ _ t turn
  first_meaning granted m (meanings.Fault f) t is lasts right turn =
      told_keeps settled_kept granted.text _ (serve m.from t) lasts (served m.from t right turn)
  first_meaning granted m (meanings.Request actor event) t is lasts right turn =
      let meant = request_meant t.session.talk.peer m actor event is in
      let spoken = spoken_by t.session.talk.peer m actor event meant.0 meant.1 in
      told_keeps settled_kept granted.text _
      (ask actor event (outcome_at granted.row t.book actor event) (serve m.from t)) lasts
      (settled_kept.asks granted.row m actor event (serve m.from t) lasts meant.1 spoken
      (served m.from t right turn))

  first_answered : (granted : Granted) (m : Telegram) (t : Turn) → t.session.end ≡ None
      → t.session.talk.peer ≡ None → IsRight g door (Some m.from) → IsRightTurn t
      → IsSettled (answer granted m t)
  first_answered granted m t lasts nobody right turn =
      by_lasting IsSettled granted m t
      (λ lasts.
      first_meaning granted m (meaning_at t.session.talk.peer m) t refl lasts
      (subst (λ p. IsRight g door (peer_after p m.from)) (sym nobody) right) turn)
      (λ end over. absurd (ended_lasts t.session end over lasts))

  -- ---- a piece, of a session that these may open

  module _ (admits : List ℕ → Admission)
      (may : (from : List ℕ) → admits from ≡ admissions.Welcome → IsRight g door (Some from)) where
    all_right : (gs : List Granted) (m : Telegram) (ms : List Telegram) (t : Turn)
        → t.session.end ≡ None → t.session.talk.peer ≡ None → admits m.from ≡ admissions.Welcome
        → IsRightTurn t → IsRightTurn (answer_all gs (m ∷ ms) t)
    all_right [] m ms t lasts nobody welcome turn =
        (all_keep settled_kept [] ms (answer full_grant m t)
        (first_answered full_grant m t lasts nobody (may m.from welcome) turn)).0
    all_right (granted ∷ gs) m ms t lasts nobody welcome turn =
        (all_keep settled_kept gs ms (answer granted m t)
        (first_answered granted m t lasts nobody (may m.from welcome) turn)).0

    admitted : (memory : Bool) (gs : List Granted) (ms : List Telegram) (t : Turn)
        → t.session.end ≡ None → IsRightTurn t → IsRightTurn (admit admits memory gs ms t)
    admitted memory gs [] t lasts turn = turn
    admitted memory gs (m ∷ ms) t lasts turn = by_peer t.session.talk.peer refl
      where
        by_first : t.session.talk.peer ≡ None → (a : Admission) → admits m.from ≡ a
            → IsRightTurn (admit_first a memory gs m ms t)
        by_first nobody admissions.Welcome is = all_right gs m ms t lasts nobody is turn
        by_first nobody admissions.Barred is = (last_told memory _ _ t turn).0
        by_first nobody admissions.Crowded is = (ended (ends.Crowded m.from) t turn).0

        by_peer : (p : Option (List ℕ)) → t.session.talk.peer ≡ p
            → IsRightTurn (if is_none p then admit_first (admits m.from) memory gs m ms t
            else answer_all gs (m ∷ ms) t)
        by_peer None nobody = by_first nobody (admits m.from) refl
        by_peer (Some peer) served =
            (all_keep settled_kept gs (m ∷ ms) t
            (turn, λ lasts. subst IsServing (sym served) tt)).0

    input_right : (input : Input) (t : Turn) → t.session.end ≡ None → IsRightTurn t
        → IsRightTurn (after_input admits input t)
    input_right NoMore t lasts turn = (ended _ t turn).0
    input_right (Piece memory piece) t lasts turn =
        let fed = fed_by t.session.held piece in
        let start = holding (held_part fed) t in
        let heard = admit admits memory.first memory.messages fed.messages start in
        let right = admitted memory.first memory.messages fed.messages start lasts
        (alike t start refl refl refl turn) in
        by_memory IsRightTurn admits memory piece t
        (by_fault IsRightTurn memory.refusal fed.fault heard (λ none. right)
        (λ f some lasts. (last_told memory.refusal _ _ heard right).0) (λ end over. right))
        (ended no_memory t turn).0

-- ---- every session

abbrev IsRightPeer : GateState → Option Session → Type 0
IsRightPeer g None = Unit {0}
IsRightPeer g (Some x) = IsRight g x.door x.talk.peer

-- rows of others change nothing of it
pub record IsSamePeer (x y : Session) : Type 0 where
  pub door : y.door ≡ x.door
  pub peer : y.talk.peer ≡ x.talk.peer

noticed_same : (n : Option (List ℕ)) (x : Session) → IsSamePeer x (tell_notice n x)
noticed_same None x = record { door = refl; peer = refl }
noticed_same (Some octets) x = by_test (nat_lt NOTICE_LIMIT (length x.owed))
  where
    by_test : (b : Bool) → IsSamePeer x (if b then record x { end = Some ends.Behind }
        else record x { owed = x.owed ++ octets })
    by_test true = record { door = refl; peer = refl }
    by_test false = record { door = refl; peer = refl }

forgotten_same : (off : Option ℕ) (x : Session) → IsSamePeer x (forget_till off x)
forgotten_same None x = record { door = refl; peer = refl }
forgotten_same (Some t) x = by_test (is_none x.end)
  where
    by_test : (b : Bool) → IsSamePeer x (if b
        then record x { talk = record x.talk { on = without_on t x.talk.on } }
        else x)
    by_test true = record { door = refl; peer = refl }
    by_test false = record { door = refl; peer = refl }

pub told_same : (rows : List Row) (x : Session) → IsSamePeer x (tell_rows rows x)
told_same [] x = record { door = refl; peer = refl }
told_same (r ∷ rows) x =
    let noticed = tell_notice (row_notice (listener x.end x.talk.peer) r) x in
    let first = noticed_same (row_notice (listener x.end x.talk.peer) r) x in
    let next = forgotten_same (row_off r) noticed in
    let rest = told_same rows (tell_row r x) in
    record {
      door = rest.door ∙ next.door ∙ first.door;
      peer = rest.peer ∙ next.peer ∙ first.peer;
    }

told_right : (g : GateState) (rows : List Row) (y : Option Session) → IsRightPeer g y
    → IsRightPeer g (option_map (tell_rows rows) y)
told_right g rows None right = tt
told_right g rows (Some x) right =
    let same = told_same rows x in
    subst (λ d. IsRight g d (tell_rows rows x).talk.peer) (sym same.door)
    (subst (IsRight g x.door) (sym same.peer) right)

-- each session serves whom it may
abbrev AreRightAt : GateState → StationState → Type 0
AreRightAt g s = (s.gates ≡ g) × ((k : ℕ) → IsRightPeer g (peer_at s.peers k))

booked_right : (g : GateState) (b : Book) (s : StationState) → AreRightAt g s
    → AreRightAt g (with_book b s)
booked_right g b s right =
    let rows = rows_since s.book b in (
      right.0,
      λ j.
          subst (IsRightPeer g) (sym (peer_at-map (option_map (tell_rows rows)) j s.peers refl))
          (told_right g rows (peer_at s.peers j) (right.1 j)),
    )

-- a session that begins to hear something
begins : (g : GateState) (s : StationState) (k : ℕ) (x : Session) → AreOwn s → AreRightAt g s
    → peer_at s.peers k ≡ Some x → IsRightTurn g x.door s.book.rows (turn_at s x)
begins g s k x own right there = record {
  at = refl;
  own = own_at s k x own there;
  right = subst (IsRightPeer g) there (right.1 k);
  more = [];
  rows = sym (append-nil s.book.rows);
  each = tt;
}

-- .. and has heard it
turned : (g : GateState) (s : StationState) (k : ℕ) (x : Session) → AreOwn s → AreRightAt g s
    → peer_at s.peers k ≡ Some x → (input : Input) → x.end ≡ None
    → IsRightTurn g x.door s.book.rows (after_input (admits_at k x.door s) input (turn_at s x))
turned g s k x own right there input lasts =
    input_right g x.door s.book.rows (admits_at k x.door s)
    (λ from welcome.
    subst (λ h. IsRight h x.door (Some from)) right.0
    (admitted_right s.gates (with_peer k None s.peers) x.door from welcome))
    input (turn_at s x) lasts (begins g s k x own right there)

right_leads : (g : GateState) (k : ℕ) (s : StationState) → AreOwn s → AreRightAt g s
    → Leads (AreRightAt g) k s
right_leads g k s own right = record {
  stays = right;
  comes = λ door none place. (
    right.0,
    λ j.
        at_slot (IsRightPeer g) k j (Some (opening_session door)) s.peers (λ same. tt)
        (λ other. right.1 j),
  );
  turns = λ input x there lasts.
      let t = after_input (admits_at k x.door s) input (turn_at s x) in
      let rows = rows_since s.book t.book in
      let turn = turned g s k x own right there input lasts in (
        right.0,
        λ j.
            at_slot (IsRightPeer g) k j (Some t.session) (with_notices rows s.peers)
            (λ same. subst (λ d. IsRight g d t.session.talk.peer) (sym turn.at) turn.right)
            (λ other.
            subst (IsRightPeer g)
            (sym (peer_at-map (option_map (tell_rows rows)) j s.peers refl))
            (told_right g rows (peer_at s.peers j) (right.1 j))),
      );
  takes = λ n x there. (
    right.0,
    λ j.
        at_slot (IsRightPeer g) k j (Some (record x { owed = drop n x.owed })) s.peers
        (λ same. subst (IsRightPeer g) there (right.1 k)) (λ other. right.1 j),
  );
  leaves = λ later x there over still. (
    still.0,
    λ j. at_slot (IsRightPeer g) k j None later.peers (λ same. tt) (λ other. still.1 j),
  );
}

right_acts : (g : GateState) (s : StationState) → AreRightAt g s → Acts (AreRightAt g) s
right_acts g = own_acts (AreRightAt g) (record {
  asks = λ memory actor event s own right.
      booked_right g (with_outcome actor event (outcome_at memory s.book actor event) s.book) s
      right;
  leaves = λ t s right. booked_right g (without_till (Some t) s.book) s right;
})

moves_right : (g : GateState) (ms : List Move) (s : StationState) → AreOwn s → AreRightAt g s
    → AreRightAt g (after ms s)
moves_right g [] s own right = right
moves_right g (m ∷ ms) s own right =
    moves_right g ms (after_move m s) (each_moved each_own m s own)
    (moved_keeps (AreRightAt g) m s (right_leads g (key_of m) s own right) (right_acts g s right)
    (λ is. right))

-- ---- the rows of a move

same_rows : (P : Row → Type 0) (b c : Book) → c.rows ≡ b.rows
    → AllByRecursion P (rows_since b c)
same_rows P b c same =
    subst (AllByRecursion P)
    (sym (ap (drop (length b.rows)) (same ∙ sym (append-nil b.rows)) ∙ drop-front b.rows [])) tt

any_row : (s : StationState) (rows : List Row)
    → AllByRecursion (λ r. has_door s.gates (node_of_actor r.actor) ≡ true → Unit {0}) rows
any_row s [] = tt
any_row s (r ∷ rows) = ((λ has. tt), any_row s rows)

-- each came at the door of this key's session
abbrev AreThrough : ℕ → StationState → List Row → Type 0
AreThrough k s rows = AllByRecursion (λ r. has_door s.gates (node_of_actor r.actor) ≡ true
    → is_peer_at (node_of_actor r.actor) (peer_at s.peers k) ≡ true) rows

turn_through : (k : ℕ) (s : StationState) (x : Session) (t : Turn) → peer_at s.peers k ≡ Some x
    → IsRightTurn s.gates x.door s.book.rows t → AreThrough k s (rows_since s.book t.book)
turn_through k s x t there turn =
    subst (AreThrough k s)
    (sym (ap (drop (length s.book.rows)) turn.rows ∙ drop-front s.book.rows turn.more))
    (subst (λ y. AllByRecursion (λ r. has_door s.gates (node_of_actor r.actor) ≡ true
    → is_peer_at (node_of_actor r.actor) y ≡ true) turn.more) (sym there) turn.each)

said_through : (memory : Grants) (k : ℕ) (octets : List ℕ) (s : StationState) → AreOwn s
    → AreRightAt s.gates s → (y : Option Session) → peer_at s.peers k ≡ y
    → AreThrough k s (rows_since s.book (hear_from memory k octets y s).book)
said_through memory k octets s own right None there = same_rows _ s.book s.book refl
said_through memory k octets s own right (Some x) there = by_test (is_read x) refl
  where
    heard : Turn
    heard = hear (admits_at k x.door s) memory octets (turn_at s x)

    by_test : (b : Bool) → is_read x ≡ b
        → AreThrough k s (rows_since s.book (if b then with_turn k heard s else s).book)
    by_test true read =
        turn_through k s x heard there
        (turned s.gates s k x own right there (Piece memory octets) (read_lasts x read))
    by_test false read = same_rows _ s.book s.book refl

end_through : (k : ℕ) (s : StationState) → AreOwn s → AreRightAt s.gates s
    → (y : Option Session) → peer_at s.peers k ≡ y
    → AreThrough k s (rows_since s.book (finish_at k y s).book)
end_through k s own right None there = same_rows _ s.book s.book refl
end_through k s own right (Some x) there = by_end x.end refl
  where
    by_end : (e : Option PeerEnd) → x.end ≡ e
        → AreThrough k s
        (rows_since s.book (if is_none e then with_turn k (finish (turn_at s x)) s else s).book)
    by_end None lasts =
        turn_through k s x (finish (turn_at s x)) there
        (turned s.gates s k x own right there NoMore lasts)
    by_end (Some end) over = same_rows _ s.book s.book refl

moved_through : (m : Move) (s : StationState) → AreOwn s → AreRightAt s.gates s
    → AllByRecursion (IsThroughItsDoor m s) (rows_since s.book (after_move m s).book)
moved_through (Arrives k door) s own right =
    same_rows _ s.book (arrive k door s).book
    (ap (λ (b : Book). b.rows) (arrived_book k door s))
moved_through (Says memory k octets) s own right =
    said_through memory k octets s own right (peer_at s.peers k) refl
moved_through (Takes k n) s own right =
    same_rows _ s.book (take_by k n (peer_at s.peers k) s).book
    (ap (λ (b : Book). b.rows) (taken_book k n (peer_at s.peers k) s))
moved_through (Finishes k) s own right = end_through k s own right (peer_at s.peers k) refl
moved_through (Gone k) s own right =
    subst (λ b. AreThrough k s (rows_since s.book b))
    (sym (freed_book k (peer_at (with_end k s).peers k) (with_end k s)))
    (end_through k s own right (peer_at s.peers k) refl)
moved_through (EndsRelease on off p) s own right = any_row s _
moved_through (Loses memory p) s own right = any_row s _
moved_through Forgets s own right =
    same_rows _ s.book (without_old_rows s).book (forgets_alone s.book).rows

pub through_doors : RowsComeThroughTheirDoor
through_doors = λ g b ms m.
    let s = after ms (opening_station g b) in
    let right = moves_right g ms (opening_station g b) (λ k. tt) (refl, λ k. tt) in
    moved_through m s (always_own g b ms) (subst (λ h. AreRightAt h s) (sym right.0) right)
