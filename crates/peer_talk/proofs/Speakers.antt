-- Who speaks in a session, and which till it signed on.
use Rattle.std.proofs.Common.{◌≡◌, ℕ, Bool, true, false, not, List, Option, Some, None, Ok}
use Rattle.std.proofs.Common.{Err, Result, refl, ap, ◌∙◌}
use Rattle.std.specs.Prelude.{◌&&◌, ◌==◌, if◌then◌else◌, slice_index}
use Rattle.site_base.specs.declared.actor.Actor.{Actor}
use Rattle.site_base.specs.declared.actor.Actor.TheVariants.{Till, Dispenser}
use Rattle.site_base.specs.declared.event.Event.{Event}
use Rattle.site_base.specs.declared.event.Event.TheVariants.{SignOn, SignOff}
use Rattle.site_base.specs.declared.limits.TheConstants.{TILLS, POINTS}
use Rattle.site_base.specs.Ranges.{is_between}
use Rattle.app_message.specs.declared.kind.Kind.{Kind}
use Rattle.app_message.specs.declared.kind.Kind.TheVariants as kinds
use Rattle.app_message.specs.Telegram.{Telegram}
use Rattle.device_map.specs.declared.fault.MapFault.{MapFault}
use Rattle.device_map.specs.declared.fault.MapFault.TheVariants.{BadOriginator}
use Rattle.device_map.specs.declared.ids.TheConstants as ids
use Rattle.device_map.specs.Nodes.{actor_at, dispenser_at, for_us, is_request, till_at}
use Rattle.device_map.specs.Requests.{event_at, request_at}
use Rattle.device_map.specs.Addresses.{database_at}
use Rattle.device_map.proofs.Results.{bind_ok, passed, equal, ok_is}
use Rattle.peer_talk.specs.Exchanges.{Outcome, signed_by}
use Rattle.peer_talk.specs.Talks.{IsOwn, IsSpokenBy}
use Rattle.peer_talk.specs.Text.{as_meaning, is_another, is_same_node, meaning_at, peer_after}
use Rattle.peer_talk.specs.declared.talk.Meaning.{Meaning}
use Rattle.peer_talk.specs.declared.talk.Meaning.TheVariants as meanings

first : (a b : Bool) → (a && b) ≡ true → a ≡ true
first true b is = refl
first false b is = absurd cc

-- ---- a till speaks from the node of its number

by_till : (from : List ℕ) (t : ℕ) → till_at from ≡ Ok (Till t) → IsOwn (Some t) (Some from)
unfolding till_at
by_till from t is =
    let test =
    passed (slice_index from 0 == ids.TILL_SUBNET && is_between 1 TILLS (slice_index from 1))
    BadOriginator (Ok (Till (slice_index from 1))) (Till t) is in
    let same = ok_is (Till (slice_index from 1)) (Till t) test.1 in
    let subnet = equal (slice_index from 0) ids.TILL_SUBNET
    (first (slice_index from 0 == ids.TILL_SUBNET) (is_between 1 TILLS (slice_index from 1))
    test.0) in
    (subnet, cc)

no_dispenser : (from : List ℕ) (t : ℕ) → dispenser_at from ≡ Ok (Till t)
    → IsOwn (Some t) (Some from)
unfolding dispenser_at
no_dispenser from t is =
    let test =
    passed (slice_index from 0 == ids.DISPENSER_SUBNET && is_between 1 POINTS (slice_index from 1))
    BadOriginator (Ok (Dispenser (slice_index from 1))) (Till t) is in
    let same = ok_is (Dispenser (slice_index from 1)) (Till t) test.1 in absurd cc

by_kind : (kind : Kind) (from : List ℕ) (t : ℕ) → actor_at kind from ≡ Ok (Till t)
    → IsOwn (Some t) (Some from)
by_kind kinds.Read from t is = by_till from t is
by_kind kinds.Write from t is = by_till from t is
by_kind kinds.Report from t is = no_dispenser from t is
by_kind kind from t is = absurd cc

-- ---- a dispenser speaks from the node of its point

by_dispenser : (from : List ℕ) (p : ℕ) → dispenser_at from ≡ Ok (Dispenser p)
    → IsSpokenBy (Dispenser p) (Some from)
unfolding dispenser_at
by_dispenser from p is =
    let test =
    passed (slice_index from 0 == ids.DISPENSER_SUBNET && is_between 1 POINTS (slice_index from 1))
    BadOriginator (Ok (Dispenser (slice_index from 1))) (Dispenser p) is in
    let same = ok_is (Dispenser (slice_index from 1)) (Dispenser p) test.1 in
    let subnet = equal (slice_index from 0) ids.DISPENSER_SUBNET
    (first (slice_index from 0 == ids.DISPENSER_SUBNET) (is_between 1 POINTS (slice_index from 1))
    test.0) in
    (subnet, cc)

no_till : (from : List ℕ) (p : ℕ) → till_at from ≡ Ok (Dispenser p)
    → IsSpokenBy (Dispenser p) (Some from)
unfolding till_at
no_till from p is =
    let test =
    passed (slice_index from 0 == ids.TILL_SUBNET && is_between 1 TILLS (slice_index from 1))
    BadOriginator (Ok (Till (slice_index from 1))) (Dispenser p) is in
    let same = ok_is (Till (slice_index from 1)) (Dispenser p) test.1 in absurd cc

at_point : (kind : Kind) (from : List ℕ) (p : ℕ) → actor_at kind from ≡ Ok (Dispenser p)
    → IsSpokenBy (Dispenser p) (Some from)
at_point kinds.Read from p is = no_till from p is
at_point kinds.Write from p is = no_till from p is
at_point kinds.Report from p is = by_dispenser from p is
at_point kind from p is = absurd cc

asked_by : (m : Telegram) (actor : Actor) (event : Event) → request_at m ≡ Ok (actor, event)
    → actor_at m.kind m.from ≡ Ok actor
unfolding request_at
asked_by m actor event is =
    let request = bind_ok (is_request m.kind) _ (actor, event) is in
    let ours = bind_ok (for_us m.to) _ (actor, event) request.2 in
    let who = bind_ok (actor_at m.kind m.from) _ (actor, event) ours.2 in
    let database = bind_ok (database_at m.address) _ (actor, event) who.2 in
    let asked = bind_ok (event_at m.kind database.0 m.items) _ (actor, event) database.2 in
    let same : who.0 ≡ actor = ap (λ (p : Actor × Event). p.0)
    (ok_is (who.0, asked.0) (actor, event) asked.2) in
    who.1 ∙ ap (λ (a : Actor). Ok a) same

both : (a b : Bool) → (a && b) ≡ true → b ≡ true
both true b is = is
both false b is = absurd cc

not_another : (peer from : List ℕ) → is_another (Some peer) from ≡ false
    → (slice_index peer 0 ≡ slice_index from 0) × (slice_index peer 1 ≡ slice_index from 1)
not_another peer from is =
    let same = kept (is_same_node peer from) is in (
      equal (slice_index peer 0) (slice_index from 0)
          (first (slice_index peer 0 == slice_index from 0)
          (slice_index peer 1 == slice_index from 1) same),
      equal (slice_index peer 1) (slice_index from 1)
          (both (slice_index peer 0 == slice_index from 0)
          (slice_index peer 1 == slice_index from 1) same),
    )
  where
    kept : (b : Bool) → not b ≡ false → b ≡ true
    kept true is = refl
    kept false is = absurd cc

-- whoever asks is the one that the session serves
pub spoken_by : (peer : Option (List ℕ)) (m : Telegram) (actor : Actor) (event : Event)
    → is_another peer m.from ≡ false → request_at m ≡ Ok (actor, event)
    → IsSpokenBy actor (peer_after peer m.from)
spoken_by None m (Till t) event same is = by_kind m.kind m.from t (asked_by m (Till t) event is)
spoken_by (Some peer) m (Till t) event same is =
    let there = by_kind m.kind m.from t (asked_by m (Till t) event is) in
    let one = not_another peer m.from same in
    (one.0 ∙ there.0, one.1 ∙ there.1)
spoken_by None m (Dispenser p) event same is =
    at_point m.kind m.from p (asked_by m (Dispenser p) event is)
spoken_by (Some peer) m (Dispenser p) event same is =
    let there = at_point m.kind m.from p (asked_by m (Dispenser p) event is) in
    let one = not_another peer m.from same in
    (one.0 ∙ there.0, one.1 ∙ there.1)

-- ---- what a message means

pub meant : (peer : Option (List ℕ)) (m : Telegram) (meaning : Meaning)
    → is_another peer m.from ≡ false → as_meaning (request_at m) ≡ meaning
    → meaning_at peer m ≡ meaning
meant peer m meaning same is = rw same is

-- another originator speaks, and nobody else begins to
pub another_meant : (peer : Option (List ℕ)) (m : Telegram) → meaning_at peer m ≡ meanings.Another
    → is_another peer m.from ≡ true
another_meant peer m is = by_test (is_another peer m.from) (request_at m) is
  where
    by_test : (b : Bool) (r : Result (Actor × Event) MapFault)
        → (if b then meanings.Another else as_meaning r) ≡ meanings.Another → b ≡ true
    by_test true r is = refl
    by_test false (Ok request) is = absurd cc
    by_test false (Err f) is = absurd cc

pub same_peer : (peer : Option (List ℕ)) (from : List ℕ) → is_another peer from ≡ true
    → peer_after peer from ≡ peer
same_peer None from is = absurd cc
same_peer (Some node) from is = refl

-- a message of the one that the session serves, which means no event
pub fault_meant : (peer : Option (List ℕ)) (m : Telegram) (f : MapFault)
    → meaning_at peer m ≡ meanings.Fault f
    → (is_another peer m.from ≡ false) × (request_at m ≡ Err f)
fault_meant peer m f is = by_test (is_another peer m.from) (request_at m) is
  where
    by_test : (b : Bool) (r : Result (Actor × Event) MapFault)
        → (if b then meanings.Another else as_meaning r) ≡ meanings.Fault f
        → (b ≡ false) × (r ≡ Err f)
    by_test true r is = absurd cc
    by_test false (Ok request) is = absurd cc
    by_test false (Err g) is = (refl, cc)

-- .. which is a request
pub request_meant : (peer : Option (List ℕ)) (m : Telegram) (actor : Actor) (event : Event)
    → meaning_at peer m ≡ meanings.Request actor event
    → (is_another peer m.from ≡ false) × (request_at m ≡ Ok (actor, event))
request_meant peer m actor event is = by_test (is_another peer m.from) (request_at m) is
  where
    by_test : (b : Bool) (r : Result (Actor × Event) MapFault)
        → (if b then meanings.Another else as_meaning r) ≡ meanings.Request actor event
        → (b ≡ false) × (r ≡ Ok (actor, event))
    by_test true r is = absurd cc
    by_test false (Ok request) is =
        let a : request.0 ≡ actor = cc in
        let e : request.1 ≡ event = cc in
        let same : request ≡ (actor, event) =
        ap (λ (x : Actor). (x, request.1)) a ∙ ap (λ (x : Event). (actor, x)) e in
        (refl, ap (λ (r : Actor × Event). Ok r) same)
    by_test false (Err g) is = absurd cc

-- ---- the till that a session signed on is the one that it serves

pub own_met : (on : Option ℕ) (peer : Option (List ℕ)) (from : List ℕ) → IsOwn on peer
    → IsOwn on (peer_after peer from)
own_met None None from own = tt
own_met None (Some node) from own = tt
own_met (Some t) None from own = absurd own
own_met (Some t) (Some node) from own = own

pub own_signed : (actor : Actor) (event : Event) (outcome : Outcome) (on : Option ℕ)
    (peer : Option (List ℕ))
    → IsSpokenBy actor peer → IsOwn on peer → IsOwn (signed_by actor event outcome on) peer
own_signed (Till t) SignOn (Ok (Ok answer)) on peer spoken own = spoken
own_signed (Till t) SignOff (Ok (Ok answer)) on peer spoken own = tt
own_signed actor event (Ok (Ok answer)) on peer spoken own = own
own_signed (Till t) SignOn (Ok (Err refusal)) on peer spoken own = own
own_signed (Till t) SignOff (Ok (Err refusal)) on peer spoken own = own
own_signed actor event (Ok (Err refusal)) on peer spoken own = own
own_signed actor event (Err no_row) on peer spoken own = own
