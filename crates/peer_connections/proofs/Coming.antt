-- The connection of a peer that comes, and those of others.
use Rattle.std.proofs.Common.{◌≡◌, ◌≢◌, ℕ, Bool, true, false, List, Option, Some, None, ap, get_or}
use Rattle.std.proofs.Common.{◌∙◌, ◌==◌, arith, inl, inr, refl, subst}
use Rattle.std.proofs.Common.{[], ◌∷◌, ◌++◌, sym}
use Rattle.std.proofs.Math.ListN.{set}
use Rattle.std.proofs.lemmas.Bool.Decides.{nat_tests}
use Rattle.std.specs.Prelude.{◌⊎◌, ◌||◌, is_some}
use Rattle.station.specs.Moves.{StationState, without_peer}
use Rattle.station.specs.Runs.{Arrives, EndsRelease, Finishes, Forgets, Leaves, Loses, Move, Says}
use Rattle.station.specs.Runs.{Takes, after_move}
use Rattle.journal.specs.Stored.{StoredState, with_station}
use Rattle.peer_connections.specs.declared.link.Link.{Link}
use Rattle.peer_connections.specs.Allowed.{IsArrival, IsDismissal, IsSameOrLeft, IsWelcome}
use Rattle.peer_connections.specs.Allowed.{is_place_of, is_served_at}
use Rattle.peer_connections.specs.Coming.{Dismisses, IsOver, OneComes, Welcomes, is_leave, leaves_in}
use Rattle.peer_connections.specs.Links.{OthersStay, StayOrGo, StaysOrGoes, has_link}
use Rattle.peer_connections.specs.Reaches.{AreAllowed, ReachesBy}
use Rattle.peer_connections.specs.Streams.{known_of}
use Rattle.peer_connections.proofs.Reaching.{moves_of_arriving, moves_of_both, moves_of_dismissed}
use Rattle.peer_connections.proofs.Reaching.{moves_of_same, moves_of_unlinked, moves_of_way}
use Rattle.peer_connections.proofs.Reaching.{moves_of_welcome, reaches_arriving, reaches_dismissed}
use Rattle.peer_connections.proofs.Reaching.{reaches_same, reaches_then, reaches_unlinked}
use Rattle.peer_connections.proofs.Reaching.{reaches_way, reaches_welcome}

-- ---- connections that stay, or go

pub stay_same : {L : Type 0} (old new : List (Option L)) → new ≡ old → StayOrGo old new
stay_same {L = L} old new same k = inl (ap (λ (l : List (Option L)). get_or l k None) same)

-- one goes
none_there : {L : Type 0} (o : Option L) → is_some o ≡ false → o ≡ None
none_there None is = refl
none_there (Some x) is = absurd (let never : true ≡ false = is in cc)

pub one_goes : {L : Type 0} (key : ℕ) (old new : List (Option L)) → OthersStay key old new
    → has_link new key ≡ false → StayOrGo old new
one_goes {L = L} key old new others gone k = by_key (k == key) refl
  where
    by_key : (b : Bool) → (k == key) ≡ b → StaysOrGoes old new k
    by_key true here =
        let is_key : k ≡ key = grind (arith, nat_tests) in
        inr (none_there (get_or new k None)
        (ap (λ (i : ℕ). has_link new i) is_key ∙ gone))
    by_key false other =
        let apart : k ≢ key = grind (arith, nat_tests) in
        inl (others.1 k apart)

stay_then_at : {L : Type 0} (a b c : List (Option L)) (k : ℕ) → StaysOrGoes a b k
    → StaysOrGoes b c k → StaysOrGoes a c k
stay_then_at a b c k one (inr gone) = inr gone
stay_then_at a b c k (inl kept) (inl too) = inl (too ∙ kept)
stay_then_at a b c k (inr gone) (inl too) = inr (too ∙ gone)

-- .. where the connections were what they are
pub stay_behind : {L : Type 0} (old a b : List (Option L)) → a ≡ old → StayOrGo a b
    → StayOrGo old b
stay_behind {L = L} old a b same stay = subst (λ (l : List (Option L)). StayOrGo l b) same stay

-- ---- one comes

pub comes_none : {S : Type 0} (left got : S → Option (List ℕ)) (stream : S)
    (links links' : List (Option (Link S))) → StayOrGo links links'
    → OneComes left got stream links links'
comes_none left got stream links links' stay =
    record { key = 0; others = λ k other. stay k; came = inl (stay 0) }

pub comes_at : {S : Type 0} (left got : S → Option (List ℕ)) (stream : S) (key : ℕ)
    (links links' : List (Option (Link S))) → OthersStay key links links'
    → (StaysOrGoes links links' key) ⊎ (IsOver left got stream links' key)
    → OneComes left got stream links links'
comes_at left got stream key links links' others came =
    record { key = key; others = λ k other. inl (others.1 k other); came = came }

-- .. behind those that have gone
pub comes_then : {S : Type 0} (left got : S → Option (List ℕ)) (stream : S)
    (a b c : List (Option (Link S))) → StayOrGo a b → OneComes left got stream b c
    → OneComes left got stream a c
comes_then {S = S} left got stream a b c stay comes = record {
  key = comes.key;
  others = λ k other. stay_then_at a b c k (stay k) (comes.others k other);
  came = by_came comes.came;
}
  where
    by_came : (StaysOrGoes b c comes.key) ⊎ (IsOver left got stream c comes.key)
        → (StaysOrGoes a c comes.key) ⊎ (IsOver left got stream c comes.key)
    by_came (inl kept) = inl (stay_then_at a b c comes.key (stay comes.key) kept)
    by_came (inr over) = inr over

-- .. over this very stream
pub comes_by : {S : Type 0} (left got : S → Option (List ℕ)) (stream back : S)
    (links links' : List (Option (Link S))) → back ≡ stream
    → OneComes left got back links links' → OneComes left got stream links links'
comes_by left got stream back links links' same comes =
    subst (λ (s : _). OneComes left got s links links') same comes

-- it is there
pub over_set : {S : Type 0} (left got : S → Option (List ℕ)) (stream : S) (key : ℕ)
    (links : List (Option (Link S))) (link : Link S)
    → get_or (set links key (Some link)) key None ≡ Some link
    → left link.stream ≡ left stream → got link.stream ≡ got stream
    → IsOver left got stream (set links key (Some link)) key
over_set left got stream key links link there same too =
    (ap (known_of left) there ∙ same, ap (known_of got) there ∙ too)

-- ---- who leaves

-- nobody who comes
no_leave : (door : Option ℕ) (k : ℕ) (m : Move) (s : StationState) → IsArrival door m s
    → is_leave k m ≡ false
no_leave door k (Arrives key at) s is = refl
no_leave door k (Leaves j) s is = absurd is
no_leave door k (Takes j n) s is = absurd is
no_leave door k (Finishes j) s is = absurd is
no_leave door k (Says memory j octets) s is = absurd is
no_leave door k (EndsRelease on off p) s is = absurd is
no_leave door k (Loses memory p) s is = absurd is
no_leave door k Forgets s is = absurd is

none_leave : (door : Option ℕ) (k : ℕ) (ms : List Move) (s : StationState)
    → AreAllowed (IsArrival door) ms s → leaves_in k ms ≡ false
none_leave door k [] s all = refl
none_leave door k (m ∷ ms) s all =
    ap (λ (b : Bool). b || leaves_in k ms) (no_leave door k m s all.0)
    ∙ none_leave door k ms (after_move m s) all.1

arriving_stay : (door : Option ℕ) (k : ℕ) (s t : StoredState) (by : ReachesBy (IsArrival door) s t)
    → leaves_in k (reaches_arriving door s t by).moves ≡ false
arriving_stay door k s t by =
    ap (leaves_in k) (moves_of_arriving door s t by)
    ∙ none_leave door k by.moves s.station by.only

leaves_both : (k : ℕ) (ms more : List Move) → leaves_in k (ms ++ more) ≡ true
    → (leaves_in k ms ≡ true) ⊎ (leaves_in k more ≡ true)
leaves_both k [] more is = inr is
leaves_both k (m ∷ ms) more is = by_first (is_leave k m) (leaves_both k ms more) is
  where
    by_first : (b : Bool)
        → (leaves_in k (ms ++ more) ≡ true
        → (leaves_in k ms ≡ true) ⊎ (leaves_in k more ≡ true))
        → (b || leaves_in k (ms ++ more)) ≡ true
        → ((b || leaves_in k ms) ≡ true) ⊎ (leaves_in k more ≡ true)
    by_first true later is = inl refl
    by_first false later is = later is

-- in one thing, or the other
leaves_then : (k : ℕ) (allowed : Move → StationState → Type 0) (s t u : StoredState)
    (one : ReachesBy allowed s t) (two : ReachesBy allowed t u)
    → leaves_in k (reaches_then allowed s t u one two).moves ≡ true
    → (leaves_in k one.moves ≡ true) ⊎ (leaves_in k two.moves ≡ true)
leaves_then k allowed s t u one two is =
    leaves_both k one.moves two.moves
    (sym (ap (leaves_in k) (moves_of_both allowed s t u one two)) ∙ is)

leaves_none : (k : ℕ) (ms : List Move) → ms ≡ [] → leaves_in k ms ≡ true → ⊥
leaves_none k ms none is =
    let never : false ≡ true = sym (ap (leaves_in k) none) ∙ is in cc

leaves_one : (k j : ℕ) (ms : List Move) → ms ≡ Leaves j ∷ [] → leaves_in k ms ≡ true → k ≡ j
leaves_one k j ms one is = by_key (j == k) refl (sym (ap (leaves_in k) one) ∙ is)
  where
    by_key : (b : Bool) → (j == k) ≡ b → (b || false) ≡ true → k ≡ j
    by_key true same _ = let here : j ≡ k = grind (arith, nat_tests) in sym here
    by_key false other is = absurd (let never : false ≡ true = is in cc)

-- in the first of two, or in the second
leaves_more : (k : ℕ) (ms more : List Move) → leaves_in k ms ≡ true
    → leaves_in k (ms ++ more) ≡ true
leaves_more k [] more is = absurd (let never : false ≡ true = is in cc)
leaves_more k (m ∷ ms) more is = by_first (is_leave k m) (leaves_more k ms more) is
  where
    by_first : (b : Bool) → (leaves_in k ms ≡ true → leaves_in k (ms ++ more) ≡ true)
        → (b || leaves_in k ms) ≡ true → (b || leaves_in k (ms ++ more)) ≡ true
    by_first true later is = refl
    by_first false later is = later is

leaves_behind : (k : ℕ) (ms more : List Move) → leaves_in k more ≡ true
    → leaves_in k (ms ++ more) ≡ true
leaves_behind k [] more is = is
leaves_behind k (m ∷ ms) more is = by_first (is_leave k m) (leaves_behind k ms more is)
  where
    by_first : (b : Bool) → leaves_in k (ms ++ more) ≡ true
        → (b || leaves_in k (ms ++ more)) ≡ true
    by_first true later = refl
    by_first false later = later

leaves_first : (k : ℕ) (allowed : Move → StationState → Type 0) (s t u : StoredState)
    (one : ReachesBy allowed s t) (two : ReachesBy allowed t u)
    → leaves_in k one.moves ≡ true
    → leaves_in k (reaches_then allowed s t u one two).moves ≡ true
leaves_first k allowed s t u one two is =
    ap (leaves_in k) (moves_of_both allowed s t u one two)
    ∙ leaves_more k one.moves two.moves is

leaves_last : (k : ℕ) (allowed : Move → StationState → Type 0) (s t u : StoredState)
    (one : ReachesBy allowed s t) (two : ReachesBy allowed t u)
    → leaves_in k two.moves ≡ true
    → leaves_in k (reaches_then allowed s t u one two).moves ≡ true
leaves_last k allowed s t u one two is =
    ap (leaves_in k) (moves_of_both allowed s t u one two)
    ∙ leaves_behind k one.moves two.moves is

leaves_alone : (k j : ℕ) → k ≡ j → leaves_in k (Leaves j ∷ []) ≡ true
leaves_alone k j same = by_test (j == k) refl
  where
    by_test : (b : Bool) → (j == k) ≡ b → (b || false) ≡ true
    by_test true is = refl
    by_test false is =
        let apart : j ≢ k = grind (arith, nat_tests) in absurd (apart (sym same))

-- no connection goes where they stay
none_went : {L : Type 0} (k : ℕ) (links links' : List (Option L))
    → get_or links' k None ≡ get_or links k None → has_link links k ≡ true
    → has_link links' k ≡ false → ⊥
none_went k links links' same was gone =
    let never : true ≡ false = sym was ∙ sym (ap is_some same) ∙ gone in cc

gone_at : {L : Type 0} (k j : ℕ) (links : List (Option L)) → k ≡ j → has_link links j ≡ false
    → get_or links k None ≡ None
gone_at k j links same gone =
    none_there (get_or links k None) (ap (λ (i : ℕ). has_link links i) same ∙ gone)

-- ---- .. for another one

pub dismisses_none : {L : Type 0} (door : Option ℕ) (links links' : List (Option L))
    (s t : StoredState) → links' ≡ links → t ≡ s → Dismisses door links links' s t
dismisses_none door links links' s t same stays = record {
  moves = reaches_same (IsDismissal door) s t stays;
  stay = stay_same links links' same;
  gone = λ k leaves. absurd (leaves_none k _ (moves_of_same (IsDismissal door) s t stays) leaves);
  went = λ k was gone. absurd (none_went k links links'
      (ap (λ (l : List (Option _)). get_or l k None) same) was gone);
}

pub dismisses_one : {L : Type 0} (door : Option ℕ) (key : ℕ) (links links' : List (Option L))
    (s t : StoredState) → is_place_of door key ≡ true → is_served_at s.station key ≡ false
    → t ≡ with_station (without_peer key s.station) s → OthersStay key links links'
    → has_link links' key ≡ false → Dismisses door links links' s t
dismisses_one door key links links' s t place unserved left others gone = record {
  moves = reaches_dismissed door key s t place unserved left;
  stay = one_goes key links links' others gone;
  gone = λ k leaves. gone_at k key links'
      (leaves_one k key _ (moves_of_dismissed door key s t place unserved left) leaves) gone;
  went = λ k was goes. ap (leaves_in k) (moves_of_dismissed door key s t place unserved left)
      ∙ leaves_alone k key (at_key k was goes);
}
  where
    at_key : (k : ℕ) → has_link links k ≡ true → has_link links' k ≡ false → k ≡ key
    at_key k was goes = by_key (k == key) refl
      where
        by_key : (b : Bool) → (k == key) ≡ b → k ≡ key
        by_key true here = grind (arith, nat_tests)
        by_key false other =
            let apart : k ≢ key = grind (arith, nat_tests) in
            absurd (none_went k links links' (others.1 k apart) was goes)

pub moves_of_dismisses : {L : Type 0} (door : Option ℕ) (links links' : List (Option L))
    (s t : StoredState) → Dismisses door links links' s t → ReachesBy (IsDismissal door) s t
moves_of_dismisses door links links' s t by = by.moves

-- .. whoever may come
pub welcomes_dismissed : {S : Type 0} (left got : S → Option (List ℕ)) (door : Option ℕ) (stream : S)
    (links links' : List (Option (Link S))) (s t : StoredState) → Dismisses door links links' s t
    → Welcomes left got door stream links links' s t
welcomes_dismissed left got door stream links links' s t by = record {
  moves = reaches_welcome door s t by.moves;
  comes = comes_none left got stream links links' by.stay;
  gone = λ k leaves. inl (by.gone k
      (sym (ap (leaves_in k) (moves_of_welcome door s t by.moves)) ∙ leaves));
  went = λ k was goes. ap (leaves_in k) (moves_of_welcome door s t by.moves) ∙ by.went k was goes;
  fresh = λ k. inl (by.stay k);
}

pub welcomes_way : {S : Type 0} (left got : S → Option (List ℕ)) (door : Option ℕ) (stream : S)
    (links links' : List (Option (Link S))) (s t : StoredState) → Dismisses None links links' s t
    → Welcomes left got door stream links links' s t
welcomes_way left got door stream links links' s t by = record {
  moves = reaches_way door s t by.moves;
  comes = comes_none left got stream links links' by.stay;
  gone = λ k leaves. inl (by.gone k
      (sym (ap (leaves_in k) (moves_of_way door s t by.moves)) ∙ leaves));
  went = λ k was goes. ap (leaves_in k) (moves_of_way door s t by.moves) ∙ by.went k was goes;
  fresh = λ k. inl (by.stay k);
}

-- ---- a peer comes

-- nobody gets a place
pub welcomes_nobody : {S : Type 0} (left got : S → Option (List ℕ)) (door : Option ℕ) (stream : S)
    (links links' : List (Option (Link S))) (s t : StoredState) → ReachesBy (IsArrival door) s t
    → links' ≡ links → Welcomes left got door stream links links' s t
welcomes_nobody left got door stream links links' s t by same = record {
  moves = reaches_arriving door s t by;
  comes = comes_none left got stream links links' (stay_same links links' same);
  gone = λ k leaves.
      absurd (let never : false ≡ true = sym (arriving_stay door k s t by) ∙ leaves in cc);
  went = λ k was goes. absurd (none_went k links links'
      (ap (λ (l : List (Option _)). get_or l k None) same) was goes);
  fresh = λ k. inl (stay_same links links' same k);
}

-- it gets one, and its connection, or leaves
pub welcomes_arrived : {S : Type 0} (left got : S → Option (List ℕ)) (door : Option ℕ) (stream : S)
    (key : ℕ) (links links' : List (Option (Link S))) (s t u : StoredState)
    → ReachesBy (IsArrival door) s t → is_place_of door key ≡ true
    → is_served_at t.station key ≡ false → IsSameOrLeft key t u → has_link links key ≡ false
    → OthersStay key links links'
    → (StaysOrGoes links links' key) ⊎ (IsOver left got stream links' key)
    → Welcomes left got door stream links links' s u
welcomes_arrived {S = S} left got door stream key links links' s t u by place unserved leaves none
    others came = record {
      moves = reaches_then (IsWelcome door) s t u (reaches_arriving door s t by)
          (reaches_unlinked door key t u place unserved leaves);
      comes = comes_at left got stream key links links' others came;
      gone = λ k is. by_part k
          (leaves_then k (IsWelcome door) s t u (reaches_arriving door s t by)
          (reaches_unlinked door key t u place unserved leaves) is);
      went = λ k was goes. absurd (stays_there k (k == key) refl was goes);
      fresh = λ k. is_fresh k (k == key) refl;
    }
  where
    stays_there : (k : ℕ) (b : Bool) → (k == key) ≡ b → has_link links k ≡ true
        → has_link links' k ≡ false → ⊥
    stays_there k true here was goes =
        let same : k ≡ key = grind (arith, nat_tests) in
        let never : true ≡ false = sym was ∙ ap (λ (i : ℕ). has_link links i) same ∙ none in cc
    stays_there k false other was goes =
        let apart : k ≢ key = grind (arith, nat_tests) in
        none_went k links links' (others.1 k apart) was goes

    is_fresh : (k : ℕ) (b : Bool) → (k == key) ≡ b
        → (StaysOrGoes links links' k) ⊎ (has_link links k ≡ false)
        ⊎ (leaves_in k (reaches_then (IsWelcome door) s t u (reaches_arriving door s t by)
        (reaches_unlinked door key t u place unserved leaves)).moves ≡ true)
    is_fresh k true here =
        let same : k ≡ key = grind (arith, nat_tests) in
        inr (inl (ap (λ (i : ℕ). has_link links i) same ∙ none))
    is_fresh k false other =
        let apart : k ≢ key = grind (arith, nat_tests) in inl (inl (others.1 k apart))

    there : (StaysOrGoes links links' key) ⊎ (IsOver left got stream links' key)
        → (get_or links' key None ≡ None) ⊎ (IsOver left got stream links' key)
    there (inl (inl stays)) = inl (stays ∙ none_there (get_or links key None) none)
    there (inl (inr goes)) = inl goes
    there (inr over) = inr over

    at : (k : ℕ) → k ≡ key
        → (get_or links' k None ≡ None) ⊎ (IsOver left got stream links' k)
    at k same =
        subst (λ (i : ℕ). (get_or links' i None ≡ None) ⊎ (IsOver left got stream links' i))
        (sym same) (there came)

    by_moves : (k : ℕ) → leaves_in k (reaches_unlinked door key t u place unserved leaves).moves
        ≡ true
        → ((reaches_unlinked door key t u place unserved leaves).moves ≡ [])
        ⊎ ((reaches_unlinked door key t u place unserved leaves).moves ≡ Leaves key ∷ [])
        → (get_or links' k None ≡ None) ⊎ (IsOver left got stream links' k)
    by_moves k is (inl nothing) = absurd (leaves_none k _ nothing is)
    by_moves k is (inr one) = at k (leaves_one k key _ one is)

    by_part : (k : ℕ) → (leaves_in k (reaches_arriving door s t by).moves ≡ true)
        ⊎ (leaves_in k (reaches_unlinked door key t u place unserved leaves).moves ≡ true)
        → (get_or links' k None ≡ None) ⊎ (IsOver left got stream links' k)
    by_part k (inl is) =
        absurd (let never : false ≡ true = sym (arriving_stay door k s t by) ∙ is in cc)
    by_part k (inr is) = by_moves k is (moves_of_unlinked door key t u place unserved leaves)

-- .. and nothing else is changed
pub welcomes_as : {S : Type 0} (left got : S → Option (List ℕ)) (door : Option ℕ) (stream : S)
    (links a b : List (Option (Link S))) (s t u : StoredState) → b ≡ a → u ≡ t
    → Welcomes left got door stream links a s t → Welcomes left got door stream links b s u
welcomes_as {S = S} left got door stream links a b s t u same stays by =
    subst (λ (l : List (Option (Link S))). Welcomes left got door stream links l s u) (sym same)
    (subst (λ (v : StoredState). Welcomes left got door stream links a s v) (sym stays) by)

-- .. over this very stream
pub welcomes_by : {S : Type 0} (left got : S → Option (List ℕ)) (door : Option ℕ) (stream back : S)
    (links links' : List (Option (Link S))) (s t : StoredState) → back ≡ stream
    → Welcomes left got door back links links' s t → Welcomes left got door stream links links' s t
welcomes_by left got door stream back links links' s t same by =
    subst (λ (x : _). Welcomes left got door x links links' s t) same by

-- what has gone doesn't come again, but over this stream
gone_then : {S : Type 0} (left got : S → Option (List ℕ)) (stream : S) (k : ℕ)
    (a b : List (Option (Link S))) → OneComes left got stream a b
    → (get_or a k None ≡ None) ⊎ (IsOver left got stream a k)
    → (get_or b k None ≡ None) ⊎ (IsOver left got stream b k)
gone_then {S = S} left got stream k a b comes was = by_key (k == comes.key) refl
  where
    still : (get_or a k None ≡ None) ⊎ (IsOver left got stream a k) → StaysOrGoes a b k
        → (get_or b k None ≡ None) ⊎ (IsOver left got stream b k)
    still w (inr goes) = inl goes
    still (inl none) (inl stays) = inl (stays ∙ none)
    still (inr over) (inl stays) =
        inr (ap (known_of left) stays ∙ over.0, ap (known_of got) stays ∙ over.1)

    own : (i : ℕ) → i ≡ k → (StaysOrGoes a b i) ⊎ (IsOver left got stream b i)
        → (get_or b k None ≡ None) ⊎ (IsOver left got stream b k)
    own i same (inl stays) = still was (subst (λ (j : ℕ). StaysOrGoes a b j) same stays)
    own i same (inr over) = inr (subst (λ (j : ℕ). IsOver left got stream b j) same over)

    by_key : (is : Bool) → (k == comes.key) ≡ is
        → (get_or b k None ≡ None) ⊎ (IsOver left got stream b k)
    by_key true here =
        let same : k ≡ comes.key = grind (arith, nat_tests) in own comes.key (sym same) comes.came
    by_key false other =
        let apart : k ≢ comes.key = grind (arith, nat_tests) in still was (comes.others k apart)

-- one thing after another, in which one comes
pub welcomes_then : {S : Type 0} (left got : S → Option (List ℕ)) (door : Option ℕ) (stream : S)
    (a b c : List (Option (Link S))) (s t u : StoredState)
    → Welcomes left got door stream a b s t → Welcomes left got door stream b c t u
    → OneComes left got stream a c → Welcomes left got door stream a c s u
welcomes_then {S = S} left got door stream a b c s t u one two comes = record {
  moves = reaches_then (IsWelcome door) s t u one.moves two.moves;
  comes = comes;
  gone = λ k is. by_part k (leaves_then k (IsWelcome door) s t u one.moves two.moves is);
  went = λ k was goes. by_there k was goes (has_link b k) refl;
  fresh = λ k. by_fresh k (one.fresh k) (two.fresh k);
}
  where
    by_there : (k : ℕ) → has_link a k ≡ true → has_link c k ≡ false → (is : Bool)
        → has_link b k ≡ is
        → leaves_in k (reaches_then (IsWelcome door) s t u one.moves two.moves).moves ≡ true
    by_there k was goes true there =
        leaves_last k (IsWelcome door) s t u one.moves two.moves (two.went k there goes)
    by_there k was goes false there =
        leaves_first k (IsWelcome door) s t u one.moves two.moves (one.went k was there)

    by_was : (k : ℕ) (is : Bool) → has_link a k ≡ is → has_link b k ≡ false
        → (StaysOrGoes a c k) ⊎ (has_link a k ≡ false)
        ⊎ (leaves_in k (reaches_then (IsWelcome door) s t u one.moves two.moves).moves ≡ true)
    by_was k true was free =
        inr (inr (leaves_first k (IsWelcome door) s t u one.moves two.moves (one.went k was free)))
    by_was k false was free = inr (inl was)

    by_fresh : (k : ℕ)
        → (StaysOrGoes a b k) ⊎ (has_link a k ≡ false) ⊎ (leaves_in k one.moves.moves ≡ true)
        → (StaysOrGoes b c k) ⊎ (has_link b k ≡ false) ⊎ (leaves_in k two.moves.moves ≡ true)
        → (StaysOrGoes a c k) ⊎ (has_link a k ≡ false)
        ⊎ (leaves_in k (reaches_then (IsWelcome door) s t u one.moves two.moves).moves ≡ true)
    by_fresh k first (inr (inr left)) =
        inr (inr (leaves_last k (IsWelcome door) s t u one.moves two.moves left))
    by_fresh k first (inr (inl free)) = by_was k (has_link a k) refl free
    by_fresh k (inl stays) (inl too) = inl (stay_then_at a b c k stays too)
    by_fresh k (inr (inl free)) (inl too) = inr (inl free)
    by_fresh k (inr (inr left)) (inl too) =
        inr (inr (leaves_first k (IsWelcome door) s t u one.moves two.moves left))

    by_part : (k : ℕ) → (leaves_in k one.moves.moves ≡ true) ⊎ (leaves_in k two.moves.moves ≡ true)
        → (get_or c k None ≡ None) ⊎ (IsOver left got stream c k)
    by_part k (inl is) = gone_then left got stream k b c two.comes (one.gone k is)
    by_part k (inr is) = two.gone k is

pub ruleset coming = (
  dismisses_none,
  welcomes_nobody,
  stay_same,
  one_goes,
  comes_none,
  comes_at,
  comes_then,
)
