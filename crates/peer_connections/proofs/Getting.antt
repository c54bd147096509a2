-- What is known of all connections, as something is done with one, and then with another.
use Rattle.std.proofs.Common.{◌≡◌, ◌≢◌, ℕ, ◌==◌, ◌++◌, Bool, true, false, List, [], Option, None}
use Rattle.std.proofs.Common.{ap, append-nil, append_assoc, arith, get_or, refl, subst, sym, ◌∙◌}
use Rattle.std.proofs.lemmas.Bool.Decides.{nat_tests}
use Rattle.std.specs.Io.KnownBytes.{Appends}
use Rattle.std.specs.Prelude.{is_some}
use Rattle.devices.proofs.KnownBytes.{Appends-none, Appends-then}
use Rattle.journal.specs.Stored.{StoredState}
use Rattle.peer_connections.specs.declared.link.Link.{Link}
use Rattle.station.specs.Moves.{StationState}
use Rattle.station.specs.Reads.{owed_at}
use Rattle.peer_connections.specs.Allowed.{IsClosing}
use Rattle.peer_connections.specs.Links.{OthersStay, has_link}
use Rattle.peer_connections.specs.Reaches.{ReachesBy}
use Rattle.peer_connections.specs.Streams.{AllGetMore, AllStayKnown, GetsMore, SendsAndFollows}
use Rattle.peer_connections.specs.Streams.{StaysKnownAt, known_at, known_of}
use Rattle.peer_connections.proofs.Others.{owed_more}

-- a connection that is one still
there_by : {S : Type 0} (k : ℕ) (a b : List (Option (Link S)))
    → get_or b k None ≡ get_or a k None → has_link b k ≡ true → has_link a k ≡ true
there_by k a b same there = ap is_some (sym same) ∙ there

-- ---- what is known of them stays

pub all_known_same : {S : Type 0} (known : S → Option (List ℕ)) (links links' : List (Option (Link S)))
    → links' ≡ links → AllStayKnown known links links'
all_known_same {S = S} known links links' same k there =
    let kept : get_or links' k None ≡ get_or links k None =
    ap (λ (l : List (Option (Link S))). get_or l k None) same in
    (there_by k links links' kept there, ap (known_of known) kept)

-- .. of all but one, and of that one
pub all_known_by : {S : Type 0} (known : S → Option (List ℕ)) (key : ℕ)
    (links links' : List (Option (Link S))) → OthersStay key links links'
    → StaysKnownAt known key links links' → AllStayKnown known links links'
all_known_by {S = S} known key links links' others own k = by_key (k == key) refl
  where
    by_key : (b : Bool) → (k == key) ≡ b → StaysKnownAt known k links links'
    by_key true here =
        let is_key : k ≡ key = grind (arith, nat_tests) in
        subst (λ (i : ℕ). StaysKnownAt known i links links') (sym is_key) own
    by_key false other = λ there.
        let apart : k ≢ key = grind (arith, nat_tests) in
        (there_by k links links' (others.1 k apart) there, ap (known_of known) (others.1 k apart))

pub all_known_then : {S : Type 0} (known : S → Option (List ℕ)) (a b c : List (Option (Link S)))
    → AllStayKnown known a b → AllStayKnown known b c → AllStayKnown known a c
all_known_then known a b c one two k there =
    let later = two k there in
    let first = one k later.0 in
    (first.0, later.1 ∙ first.1)

-- ---- they get more

appends_none : (u v : Option (List ℕ)) → v ≡ u → Appends u v []
appends_none u v same =
    subst (λ (w : Option (List ℕ)). Appends u w []) (sym same) (Appends-none u)

pub more_same : {S : Type 0} (got : S → Option (List ℕ)) (links links' : List (Option (Link S)))
    (s t : StationState) → links' ≡ links → t ≡ s → AllGetMore got links links' s t
more_same {S = S} got links links' s t same still k there =
    let kept : get_or links' k None ≡ get_or links k None =
    ap (λ (l : List (Option (Link S))). get_or l k None) same in
    record {
      was = there_by k links links' kept there;
      sent = [];
      written = appends_none (known_at got links k) (known_at got links' k)
          (ap (known_of got) kept);
      added = [];
      owed = append-nil (owed_at s k) ∙ ap (λ (u : StationState). owed_at u k) (sym still);
    }

pub more_then : {S : Type 0} (got : S → Option (List ℕ)) (a b c : List (Option (Link S)))
    (s t u : StationState) → AllGetMore got a b s t → AllGetMore got b c t u
    → AllGetMore got a c s u
more_then got a b c s t u one two k there =
    let later : GetsMore got k b c t u = two k there in
    let first : GetsMore got k a b s t = one k later.was in
    record {
      was = first.was;
      sent = first.sent ++ later.sent;
      written = Appends-then (known_at got a k) (known_at got b k) (known_at got c k) first.sent
          later.sent first.written later.written;
      added = first.added ++ later.added;
      owed = sym (append_assoc (owed_at s k) first.added later.added)
          ∙ ap (λ (l : List ℕ). l ++ later.added) first.owed
          ∙ append_assoc first.sent (owed_at t k) later.added
          ∙ ap (λ (l : List ℕ). first.sent ++ l) later.owed
          ∙ sym (append_assoc first.sent later.sent (owed_at u k));
    }

-- .. where one of them is sent to, and follows its session
more_by : {S : Type 0} (got : S → Option (List ℕ)) (j : ℕ) (a b : List (Option (Link S)))
    (s t : StoredState) → OthersStay j a b → ReachesBy (IsClosing j) s t
    → (has_link b j ≡ true → GetsMore got j a b s.station t.station)
    → AllGetMore got a b s.station t.station
more_by {S = S} got j a b s t others by own k = by_key (k == j) refl
  where
    by_key : (is : Bool) → (k == j) ≡ is → has_link b k ≡ true
        → GetsMore got k a b s.station t.station
    by_key true here =
        let is_key : k ≡ j = grind (arith, nat_tests) in
        subst (λ (i : ℕ). has_link b i ≡ true → GetsMore got i a b s.station t.station)
        (sym is_key) own
    by_key false other = λ there.
        let apart : k ≢ j = grind (arith, nat_tests) in
        let longer = owed_more j k s t apart by in
        record {
          was = there_by k a b (others.1 k apart) there;
          sent = [];
          written = appends_none (known_at got a k) (known_at got b k)
              (ap (known_of got) (others.1 k apart));
          added = longer.added;
          owed = sym longer.owed;
        }

pub more_followed : {S : Type 0} (got : S → Option (List ℕ)) (j : ℕ) (a b : List (Option (Link S)))
    (s t : StoredState) → SendsAndFollows got j a b s t → OthersStay j a b
    → ReachesBy (IsClosing j) s t → AllGetMore got a b s.station t.station
more_followed {S = S} got j a b s t sends others by =
    more_by got j a b s t others by (λ there. record {
      was = sends.there there;
      sent = sends.sends.sent;
      written = subst (λ (u : Option (List ℕ)). Appends (known_at got a j) u sends.sends.sent)
          (sym (sends.no_more there).1) sends.sends.written;
      added = [];
      owed = append-nil (owed_at s.station j) ∙ sends.sends.owed
          ∙ ap (λ (u : StoredState). sends.sends.sent ++ owed_at u.station j)
          (sym (sends.stays there));
    })
