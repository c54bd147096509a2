-- Who is due: keys in order, with marks; and who is owed octets is.
use Rattle.std.proofs.Common.{◌≡◌, ◌≢◌, ℕ, zero, suc, ◌+◌, ◌<◌, ◌≤◌, ◌==◌, Bool, true, false, List}
use Rattle.std.proofs.Common.{[], ◌∷◌, ◌++◌, length, Option, Some, None, get_or, arith, refl, sym}
use Rattle.std.proofs.Common.{ap, subst, ◌∙◌, take, length-set, replicate, inl, inr}
use Rattle.std.proofs.Math.ListN.{set}
use Rattle.std.proofs.lemmas.Bool.{eq-eqb}
use Rattle.std.proofs.lemmas.Bool.Decides.{nat_tests}
use Rattle.std.proofs.lemmas.List.{get_or-set_other, get_or-set_same, length-take-le}
use Rattle.std.specs.Prelude.{if◌then◌else◌, nat_lt, not, ◌&&◌, ◌⊎◌, IfSome, is_some, slice_get}
use Rattle.site_base.specs.declared.row.Row.{Row}
use Rattle.site_book.specs.Book.{Book}
use Rattle.site_book.specs.Changes.{is_changing}
use Rattle.station.specs.Moves.{StationState}
use Rattle.station.specs.Peers.{peer_at}
use Rattle.station.specs.Reads.{IsNextOwed, NoneIsOwed, owed_at, owed_to}
use Rattle.station.specs.Sessions.{Session}
use Rattle.peer_connections.specs.declared.change_watch.ChangeWatch.{ChangeWatch}
use Rattle.peer_connections.specs.declared.link.Link.{Link}
use Rattle.peer_connections.specs.Links.{ArePaired, has_link}
use Rattle.peer_connections.specs.Sending.{HasChange, HasSeen, OwedAreDue, is_full_at}
use Rattle.station.specs.declared.sizes.TheConstants.{PEERS}
use Rattle.peer_connections.specs.Due.{AreMarked, StayDue, count_marks, is_due}
use Rattle.peer_connections.specs.Due.{with_due}

-- ---- marks

none_marked : (n : ℕ) → count_marks (replicate n false) ≡ 0
none_marked zero = refl
none_marked (suc n) = none_marked n

none_there : (n k : ℕ) → get_or (replicate n false) k false ≡ false
none_there zero k = refl
none_there (suc n) zero = refl
none_there (suc n) (suc k) = none_there n k

few_marks : (ms : List Bool) → count_marks ms ≤ length ms
few_marks [] = omega arith
few_marks (true ∷ ms) = let rest = few_marks ms in omega (arith, rest)
few_marks (false ∷ ms) = let rest = few_marks ms in omega (arith, rest)

-- where one isn't marked there is room
pub room : (k : ℕ) (ms : List Bool) → k < length ms → get_or ms k false ≡ false
    → count_marks ms < length ms
room k [] below not_yet = omega (arith, below)
room zero (true ∷ ms) below not_yet = absurd (let never : true ≡ false = not_yet in cc)
room zero (false ∷ ms) below not_yet = let rest = few_marks ms in omega (arith, rest)
room (suc k) (true ∷ ms) below not_yet =
    let rest = room k ms (omega (arith, below)) not_yet in omega (arith, rest)
room (suc k) (false ∷ ms) below not_yet =
    let rest = room k ms (omega (arith, below)) not_yet in omega (arith, rest)

marked_more : (k : ℕ) (ms : List Bool) → k < length ms → get_or ms k false ≡ false
    → count_marks (set ms k true) ≡ count_marks ms + 1
marked_more k [] below not_yet = absurd (let no : suc k ≤ 0 = below in omega (arith, no))
marked_more zero (true ∷ ms) below not_yet = absurd (let never : true ≡ false = not_yet in cc)
marked_more zero (false ∷ ms) below not_yet = refl
marked_more (suc k) (true ∷ ms) below not_yet =
    ap (λ n. n + 1) (marked_more k ms (omega (arith, below)) not_yet)
marked_more (suc k) (false ∷ ms) below not_yet =
    marked_more k ms (omega (arith, below)) not_yet

-- ---- the first keys

one_more : (n : ℕ) (keys : List ℕ) (key : ℕ) → n < length keys
    → take (suc n) (set keys n key) ≡ take n keys ++ key ∷ []
one_more n [] key below = absurd (let no : suc n ≤ 0 = below in omega (arith, no))
one_more zero (j ∷ keys) key below = refl
one_more (suc n) (j ∷ keys) key below =
    ap (λ ks. j ∷ ks) (one_more n keys key (omega (arith, below)))

pub added : (n : ℕ) (keys : List ℕ) (key : ℕ) → n < length keys
    → take (n + 1) (set keys n key) ≡ take n keys ++ key ∷ []
added n keys key below =
    let same : n + 1 ≡ suc n = omega arith in
    ap (λ m. take m (set keys n key)) same ∙ one_more n keys key below

is_due_behind : (due : List ℕ) (key k : ℕ)
    → is_due (due ++ key ∷ []) k ≡ (if key == k then true else is_due due k)
is_due_behind [] key k = refl
is_due_behind (j ∷ due) key k =
    ap (λ b. if j == k then true else b) (is_due_behind due key k)
    ∙ either (j == k) (key == k) (is_due due k)
  where
    either : (a b c : Bool)
        → (if a then true else (if b then true else c))
        ≡ (if b then true else (if a then true else c))
    either true true c = refl
    either true false c = refl
    either false true c = refl
    either false false c = refl

length_replicate : {A : Type 0} (n : ℕ) (x : A) → length (replicate n x) ≡ n
length_replicate zero x = refl
length_replicate (suc n) x = ap suc (length_replicate n x)

-- nobody is due yet
pub marked_new : (keys : List ℕ) (ms : List Bool) → keys ≡ replicate PEERS 0
    → ms ≡ replicate PEERS false
    → AreMarked 0 keys ms
marked_new keys ms is none = record {
  places = ap length is ∙ length_replicate {A = ℕ} PEERS 0;
  size = ap length none ∙ length_replicate {A = Bool} PEERS false;
  many = sym (ap count_marks none ∙ none_marked PEERS);
  those = λ k. sym (ap (λ l. get_or l k false) none ∙ none_there PEERS k);
}

pub marked_more_keys : (count key : ℕ) (keys : List ℕ) (ms : List Bool) → AreMarked count keys ms
    → key < length ms → get_or ms key false ≡ false
    → AreMarked (count + 1) (set keys count key) (set ms key true)
marked_more_keys count key keys ms marked below not_yet =
    let free = room key ms below not_yet in
    let within : count < length keys =
    omega (arith, marked.places, marked.size, marked.many, free) in record {
      places = length-set keys count key ∙ marked.places;
      size = length-set ms key true ∙ marked.size;
      many = ap (λ n. n + 1) marked.many ∙ sym (marked_more key ms below not_yet);
      those = λ k.
          ap (λ l. is_due l k) (added count keys key within)
          ∙ is_due_behind (take count keys) key k
          ∙ by_key k (key == k) refl;
    }
  where
    by_key : (k : ℕ) (b : Bool) → (key == k) ≡ b
        → (if b then true else is_due (take count keys) k) ≡ get_or (set ms key true) k false
    by_key k true same =
        let is : key ≡ k = grind (arith, nat_tests) in
        subst (λ i. true ≡ get_or (set ms key true) i false) is
        (sym (get_or-set_same ms key true false below))
    by_key k false other =
        let apart : k ≢ key = grind (arith, nat_tests) in
        marked.those k ∙ sym (get_or-set_other ms key k true false apart)

pub counted : (count : ℕ) (keys : List ℕ) (ms : List Bool) → AreMarked count keys ms
    → count ≡ length (take count keys)
counted count keys ms marked =
    let few = few_marks ms in
    let within : count ≤ length keys =
    omega (arith, marked.places, marked.size, marked.many, few) in
    sym (length-take-le count keys within)

pub marked_none : (count : ℕ) (keys : List ℕ) (ms none : List Bool) → AreMarked count keys ms
    → none ≡ replicate (length ms) false → AreMarked 0 keys none
marked_none count keys ms none marked is = record {
  places = marked.places;
  size = ap length is ∙ length_replicate {A = Bool} (length ms) false ∙ marked.size;
  many = sym (ap count_marks is ∙ none_marked (length ms));
  those = λ k. sym (ap (λ l. get_or l k false) is ∙ none_there (length ms) k);
}

-- ---- who was due is

pub stay_same : (old new : List ℕ) → new ≡ old → StayDue old new
stay_same old new same k due = ap (λ (l : List ℕ). is_due l k) same ∙ due

pub stay_then : (a b c : List ℕ) → StayDue a b → StayDue b c → StayDue a c
stay_then a b c one two k due = two k (one k due)

pub stay_with : (key : ℕ) (due : List ℕ) → StayDue due (with_due key due)
stay_with key due k is = by_test (nat_lt key PEERS && not (is_due due key))
  where
    by_test : (b : Bool) → is_due (if b then due ++ key ∷ [] else due) k ≡ true
    by_test true = is_due_behind due key k ∙ by_key (key == k)
      where
        by_key : (b : Bool) → (if b then true else is_due due k) ≡ true
        by_key true = refl
        by_key false = is
    by_test false = is

-- a peer that is to be due is
pub now_due : (key : ℕ) (due : List ℕ) → key < PEERS → is_due (with_due key due) key ≡ true
now_due key due below = by_test (is_due due key) refl
  where
    by_test : (b : Bool) → is_due due key ≡ b
        → is_due (if nat_lt key PEERS && not b then due ++ key ∷ [] else due) key ≡ true
    by_test true is = by_place (nat_lt key PEERS)
      where
        by_place : (b : Bool) → is_due (if b && false then due ++ key ∷ [] else due) key ≡ true
        by_place true = is
        by_place false = is
    by_test false is = by_place (nat_lt key PEERS) refl
      where
        by_place : (b : Bool) → nat_lt key PEERS ≡ b
            → is_due (if b && true then due ++ key ∷ [] else due) key ≡ true
        by_place true _ =
            is_due_behind due key key
            ∙ ap (λ (c : Bool). if c then true else is_due due key) (eq-eqb key key refl)
        by_place false above = absurd (grind (arith, nat_tests))

-- ---- who is owed octets is due

-- .. has a connection
pub owed_linked : {L : Type 0} (links : List (Option L)) (s : StationState) (k : ℕ)
    → ArePaired links s.peers → owed_at s k ≢ [] → has_link links k ≡ true
owed_linked links s k paired owed = paired k ∙ by_peer (peer_at s.peers k) owed
  where
    by_peer : (y : Option Session) → owed_to y ≢ [] → is_some y ≡ true
    by_peer None owed = absurd (owed refl)
    by_peer (Some x) owed = refl

-- .. up to the next one that is owed octets
pub due_up_to : {S : Type 0} (from key : ℕ) (s t : StationState)
    (links links' : List (Option (Link S))) (due due' : List ℕ) → IsNextOwed from key s → t ≡ s
    → links' ≡ links → StayDue due due'
    → ((k : ℕ) → k < from → owed_at s k ≢ []
    → (is_due due k ≡ true) ⊎ (is_full_at links k ≡ true))
    → (owed_at t key ≢ [] → (is_due due' key ≡ true) ⊎ (is_full_at links' key ≡ true))
    → (k : ℕ) → k < key + 1 → owed_at t k ≢ []
    → (is_due due' k ≡ true) ⊎ (is_full_at links' k ≡ true)
due_up_to {S = S} from key s t links links' due due' next same kept stays before this k below
    owed =
    by_key (k == key) refl
  where
    here : owed_at s k ≢ []
    here none = owed (ap (λ (u : StationState). owed_at u k) same ∙ none)

    too : (is_due due k ≡ true) ⊎ (is_full_at links k ≡ true)
        → (is_due due' k ≡ true) ⊎ (is_full_at links' k ≡ true)
    too (inl is) = inl (stays k is)
    too (inr full) = inr (ap (λ (l : List (Option (Link S))). is_full_at l k) kept ∙ full)

    by_from : (b : Bool) → nat_lt k from ≡ b → k ≢ key
        → (is_due due' k ≡ true) ⊎ (is_full_at links' k ≡ true)
    by_from true is other = too (before k (grind (arith, nat_tests)) here)
    by_from false is other =
        absurd (here (next.first k (grind (arith, nat_tests)) (omega (arith, below, other))))

    by_key : (b : Bool) → (k == key) ≡ b
        → (is_due due' k ≡ true) ⊎ (is_full_at links' k ≡ true)
    by_key true is =
        let at : k ≡ key = grind (arith, nat_tests) in
        subst (λ (j : ℕ). (is_due due' j ≡ true) ⊎ (is_full_at links' j ≡ true)) (sym at)
        (this (subst (λ (j : ℕ). owed_at t j ≢ []) at owed))
    by_key false is = by_from (nat_lt k from) refl (grind (arith, nat_tests))

-- .. where there is no next one
pub all_due : {S : Type 0} (from : ℕ) (s : StationState) (links : List (Option (Link S)))
    (due : List ℕ)
    → ((k : ℕ) → k < from → owed_at s k ≢ []
    → (is_due due k ≡ true) ⊎ (is_full_at links k ≡ true))
    → NoneIsOwed from s → OwedAreDue s links due
all_due from s links due before none k owed = by_from (nat_lt k from) refl
  where
    by_from : (b : Bool) → nat_lt k from ≡ b
        → (is_due due k ≡ true) ⊎ (is_full_at links k ≡ true)
    by_from true is = before k (grind (arith, nat_tests)) owed
    by_from false is = absurd (owed (none k (grind (arith, nat_tests))))

-- .. where all keys were looked at
pub due_up_to_last : {S : Type 0} (from : ℕ) (s : StationState) (links : List (Option (Link S)))
    (due : List ℕ) → PEERS ≤ from → ((k : ℕ) → PEERS ≤ k → peer_at s.peers k ≡ None)
    → ((k : ℕ) → k < from → owed_at s k ≢ []
    → (is_due due k ≡ true) ⊎ (is_full_at links k ≡ true))
    → OwedAreDue s links due
due_up_to_last from s links due all nobody before =
    all_due from s links due before
    (λ k above. ap owed_to (nobody k (omega (arith, all, above))))

-- ---- rows that dispensers are told of

there_within : (rows : List Row) (at : ℕ) (row : Row) → slice_get rows at ≡ Some row
    → at < length rows
there_within [] at row is = absurd (let never : None ≡ Some row = is in cc)
there_within (r ∷ rows) zero row is = omega arith
there_within (r ∷ rows) (suc at) row is =
    let rest = there_within rows at row is in omega (arith, rest)

pub noted_up_to : (from place : ℕ) (b : Book) (had has : Bool) → (had ≡ true → has ≡ true)
    → ((at : ℕ) (row : Row) → from ≤ at → at < place → b.forgotten ≤ at
    → slice_get b.rows at ≡ Some row → is_changing row ≡ true → had ≡ true)
    → (b.forgotten ≤ place
    → IfSome (slice_get b.rows place) (λ row. is_changing row ≡ true → has ≡ true))
    → (at : ℕ) (row : Row) → from ≤ at → at < place + 1 → b.forgotten ≤ at
    → slice_get b.rows at ≡ Some row → is_changing row ≡ true → has ≡ true
noted_up_to from place b had has stays before this at row since below kept there changing =
    by_place (at == place) refl
  where
    by_place : (t : Bool) → (at == place) ≡ t → has ≡ true
    by_place true is =
        let here : at ≡ place = grind (arith, nat_tests) in
        subst (λ (o : Option Row). IfSome o (λ r. is_changing r ≡ true → has ≡ true))
        (ap (slice_get b.rows) (sym here) ∙ there)
        (this (subst (λ (n : ℕ). b.forgotten ≤ n) here kept)) changing
    by_place false is =
        stays (before at row since (grind (arith, nat_tests)) kept there changing)

pub all_noted : (watch : ChangeWatch) (place : ℕ) (b : Book) (has : Bool)
    → HasSeen watch.rows_seen b → (watch.has_changes ≡ true → has ≡ true)
    → ((at : ℕ) (row : Row) → watch.rows_seen ≤ at → at < place → b.forgotten ≤ at
    → slice_get b.rows at ≡ Some row → is_changing row ≡ true → has ≡ true)
    → length b.rows ≤ place → HasChange watch b → has ≡ true
all_noted watch place b has seen stays before all (inl had) = stays had
all_noted watch place b has seen stays before all (inr new) =
    let within = there_within b.rows new.at new.row new.there in
    before new.at new.row new.since (omega (arith, all, within))
    (omega (arith, seen.each, new.since)) new.there new.changing

pub ruleset marked = (
  room,
  added,
  marked_new,
  marked_more_keys,
  counted,
  marked_none,
)

pub ruleset due = (
  owed_linked,
  stay_same,
  stay_then,
  stay_with,
  now_due,
)
