-- At each place of a door is a peer of that door.
use Rattle.std.proofs.Common.{◌≡◌, ℕ, zero, suc, ◌+◌, ◌<◌, ◌≤◌, Bool, true, false, List, []}
use Rattle.std.proofs.Common.{◌∷◌, Option, Some, None, refl, ap, sym, subst, ◌∙◌, arith, drop}
use Rattle.std.specs.Prelude.{IsSome, count_by, if◌then◌else◌, nat_lt}
use Rattle.std.specs.Prelude.{option_map, slice_get, slice_index}
use Rattle.std.proofs.lemmas.Bool.{eq-eqb, false≢true}
use Rattle.std.proofs.lemmas.Bool.Decides.{nat_tests}
use Rattle.std.proofs.lemmas.List.Sums.{sum_by-cons}
use Rattle.site_base.specs.declared.row.Row.{Row}
use Rattle.peer_talk.specs.Text.{is_same_node}
use Rattle.site_book.specs.Book.{Book}
use Rattle.station.specs.declared.sizes.TheConstants.{FREE_PLACES, NODE_SESSIONS}
use Rattle.station.specs.Gates.{GateState}
use Rattle.station.specs.Listening.{is_at}
use Rattle.station.specs.Moves.{StationState, admits_at, rows_since, with_book}
use Rattle.station.specs.Neighbours.{DoorsStayOpen, is_peer_at}
use Rattle.station.specs.Peers.{peer_at, tell_rows, with_notices}
use Rattle.station.specs.Places.{IsPlaceFor, first_place, is_place_at}
use Rattle.station.specs.Reads.{ArrivesAmong, arrives_at}
use Rattle.station.specs.Runs.{Move, after, opening_station}
use Rattle.conversation.specs.Books.{outcome_at, with_outcome}
use Rattle.station.specs.Sessions.{Session, opening_session, without_till}
use Rattle.station.proofs.Doors.{told_same}
use Rattle.station.proofs.Keeping.{Acts, Keeps, Leads, after_input, heard_keeps, moves_keep}
use Rattle.station.proofs.Keeping.{own_acts, turn_at}
use Rattle.station.proofs.Peers.{at_slot, peer_at-map}

-- ---- every peer is at its place

-- no turn leads to another door
door_kept : (door : Option (List ℕ)) → Keeps (λ t. t.session.door ≡ door)
door_kept door = record {
  serves = λ from t lasts is. is;
  asks = λ memory m actor event t lasts meant spoken is. is;
  tells = λ text t lasts is. is;
  ends = λ end t lasts is. is;
}

abbrev IsPlaced : List (List ℕ) → ℕ → Option Session → Type 0
IsPlaced doors k None = Unit {0}
IsPlaced doors k (Some x) = IsPlaceFor doors k x.door

told_placed : (doors : List (List ℕ)) (k : ℕ) (rows : List Row) (y : Option Session)
    → IsPlaced doors k y → IsPlaced doors k (option_map (tell_rows rows) y)
told_placed doors k rows None placed = tt
told_placed doors k rows (Some x) placed =
    subst (IsPlaceFor doors k) (sym (told_same rows x).door) placed

abbrev ArePlaced : GateState → StationState → Type 0
ArePlaced g s = (s.gates ≡ g) × ((k : ℕ) → IsPlaced g.doors k (peer_at s.peers k))

booked_placed : (g : GateState) (b : Book) (s : StationState) → ArePlaced g s
    → ArePlaced g (with_book b s)
booked_placed g b s placed =
    let rows = rows_since s.book b in (
      placed.0,
      λ j.
          subst (IsPlaced g.doors j)
          (sym (peer_at-map (option_map (tell_rows rows)) j s.peers refl))
          (told_placed g.doors j rows (peer_at s.peers j) (placed.1 j)),
    )

placed_leads : (g : GateState) (k : ℕ) (s : StationState) → ArePlaced g s
    → Leads (ArePlaced g) k s
placed_leads g k s placed = record {
  stays = placed;
  comes = λ door none place. (
    placed.0,
    λ j.
        at_slot (IsPlaced g.doors j) k j (Some (opening_session door)) s.peers
        (λ same.
        subst (λ n. IsPlaceFor g.doors n door) same
        (subst (λ (h : GateState). IsPlaceFor h.doors k door) placed.0 place))
        (λ other. placed.1 j),
  );
  turns = λ input x there lasts.
      let t = after_input (admits_at k x.door s) input (turn_at s x) in
      let rows = rows_since s.book t.book in
      let at = heard_keeps (door_kept x.door) (admits_at k x.door s) input (turn_at s x) lasts refl
      (λ piece. refl) in (
        placed.0,
        λ j.
            at_slot (IsPlaced g.doors j) k j (Some t.session) (with_notices rows s.peers)
            (λ same.
            subst (IsPlaceFor g.doors j) (sym at)
            (subst (λ n. IsPlaceFor g.doors n x.door) same
            (subst (IsPlaced g.doors k) there (placed.1 k))))
            (λ other.
            subst (IsPlaced g.doors j)
            (sym (peer_at-map (option_map (tell_rows rows)) j s.peers refl))
            (told_placed g.doors j rows (peer_at s.peers j) (placed.1 j))),
      );
  takes = λ n x there. (
    placed.0,
    λ j.
        at_slot (IsPlaced g.doors j) k j (Some (record x { owed = drop n x.owed })) s.peers
        (λ same.
        subst (λ i. IsPlaceFor g.doors i x.door) same
        (subst (IsPlaced g.doors k) there (placed.1 k)))
        (λ other. placed.1 j),
  );
  leaves = λ later x there over still. (
    still.0,
    λ j. at_slot (IsPlaced g.doors j) k j None later.peers (λ same. tt) (λ other. still.1 j),
  );
}

placed_acts : (g : GateState) (s : StationState) → ArePlaced g s → Acts (ArePlaced g) s
placed_acts g = own_acts (ArePlaced g) (record {
  asks = λ memory actor event s own placed.
      booked_placed g (with_outcome actor event (outcome_at memory s.book actor event) s.book) s
      placed;
  leaves = λ t s placed. booked_placed g (without_till (Some t) s.book) s placed;
})

always_placed : (g : GateState) (b : Book) (ms : List Move)
    → ArePlaced g (after ms (opening_station g b))
always_placed g b ms =
    moves_keep (ArePlaced g) (placed_leads g) (placed_acts g) (λ s placed. placed) ms
    (opening_station g b) (refl, λ k. tt)

-- ---- four at a door

-- a place is one door's
one_door : (key door other : ℕ) → first_place door ≤ key → key < first_place (door + 1)
    → is_place_at other key ≡ true → other ≡ door
one_door key door other low high is = grind (arith, nat_tests)

not_free : (key door : ℕ) → first_place door ≤ key → nat_lt key FREE_PLACES ≡ true → ⊥
not_free key door low is = grind (arith, nat_tests)

same_itself : (node : List ℕ) → is_same_node node node ≡ true
same_itself node = rw (
  eq-eqb (slice_index node 0) (slice_index node 0) refl,
  eq-eqb (slice_index node 1) (slice_index node 1) refl,
) refl

-- whoever has a place of a door came there
placed_there : (doors : List (List ℕ)) (door : ℕ) (node : List ℕ) (key : ℕ) (y : Option Session)
    → slice_get doors door ≡ Some node → first_place door ≤ key → key < first_place (door + 1)
    → IsPlaced doors key y → IsSome y → is_peer_at node y ≡ true
placed_there doors door node key None at low high placed there = absurd cc
placed_there doors door node key (Some x) at low high placed there = by_door x.door placed
  where
    by_door : (d : Option (List ℕ)) → IsPlaceFor doors key d → is_at d node ≡ true
    by_door None free = absurd (not_free key door low free)
    by_door (Some its) place =
        let same : Some its ≡ Some node =
        sym place.2
        ∙ ap (slice_get doors) (one_door key door place.0 low high place.1) ∙ at in
        let one : its ≡ node = cc in
        ap (λ n. is_same_node n node) one ∙ same_itself node

counted : (p : Option Session → Bool) (y : Option Session) (peers : List (Option Session))
    → count_by p (y ∷ peers) ≡ (if p y then 1 else 0) + count_by p peers
counted p y peers = sum_by-cons (λ z. if p z then 1 else 0) y peers

-- so many keys in a row of a list pass this test
count_from : (p : Option Session → Bool) (first n : ℕ) (peers : List (Option Session))
    → p None ≡ false → ((k : ℕ) → first ≤ k → k < first + n → p (peer_at peers k) ≡ true)
    → n ≤ count_by p peers
count_from p first zero peers none all = omega arith
count_from p first (suc n) [] none all =
    absurd (false≢true (sym none ∙ all first (omega arith) (omega arith)))
count_from p zero (suc n) (y ∷ peers) none all =
    let rest : n ≤ count_by p peers = count_from p zero n peers none
    (λ k low high. all (suc k) (omega arith) (omega (arith, high))) in
    let here : p y ≡ true = all zero (omega arith) (omega arith) in
    subst (λ m. suc n ≤ m)
    (sym (counted p y peers ∙ ap (λ b. (if b then 1 else 0) + count_by p peers) here))
    (omega (arith, rest))
count_from p (suc first) (suc n) (y ∷ peers) none all =
    let rest : suc n ≤ count_by p peers = count_from p first (suc n) peers none
    (λ k low high. all (suc k) (omega (arith, low)) (omega (arith, high))) in
    subst (λ m. suc n ≤ m) (sym (counted p y peers)) (by_test (p y) rest)
  where
    by_test : (b : Bool) → suc n ≤ count_by p peers
        → suc n ≤ (if b then 1 else 0) + count_by p peers
    by_test true rest = omega (arith, rest)
    by_test false rest = omega (arith, rest)

-- each place of a door has a peer, or one is free
has_place : (g : GateState) (s : StationState) (door : ℕ) (node : List ℕ) (key : Option ℕ)
    (later : StationState)
    → ArePlaced g s → slice_get g.doors door ≡ Some node
    → nat_lt (count_by (is_peer_at node) s.peers) NODE_SESSIONS ≡ true
    → ArrivesAmong (first_place door) (first_place (door + 1)) (Some node) key s later
    → IsSome key
has_place g s door node (Some key) later placed at few arrives = refl
has_place g s door node None later placed at few arrives =
    let four : NODE_SESSIONS ≤ count_by (is_peer_at node) s.peers =
    count_from (is_peer_at node) (first_place door) NODE_SESSIONS s.peers refl
    (λ k low high.
    let below : k < first_place (door + 1) = omega (arith, high) in
    placed_there g.doors door node k (peer_at s.peers k) at low below (placed.1 k)
    (arrives.1 k low below)) in
    absurd (too_many (count_by (is_peer_at node) s.peers) four few)
  where
    too_many : (n : ℕ) → NODE_SESSIONS ≤ n → nat_lt n NODE_SESSIONS ≡ true → ⊥
    too_many n least is = grind (arith, nat_tests)

pub stay_open : DoorsStayOpen
stay_open = λ g b ms door node key later at few arrives.
    let s = after ms (opening_station g b) in
    let placed = always_placed g b ms in
    has_place g s door node key later placed at few
    (subst (λ n. arrives_at n door key s later)
    (ap (λ (h : GateState). slice_get h.doors door) placed.0 ∙ at) arrives)
