-- What is known of a key's own connection, as something is done with it.
use Rattle.std.proofs.Common.{◌≡◌, ℕ, true, false, List, Option, Some, None, get_or, ap, sym}
use Rattle.std.proofs.Common.{[], ◌∷◌, ◌∙◌, ◌≢◌, Bool, arith, inl, inr, refl, suc, subst}
use Rattle.std.proofs.lemmas.Bool.Decides.{nat_tests}
use Rattle.std.proofs.lemmas.List.{get_or-set_other}
use Rattle.std.proofs.Math.ListN.{set}
use Rattle.std.specs.Prelude.{◌==◌, is_some, length, not}
use Rattle.station.specs.declared.peer_end.PeerEnd.TheVariants.{Behind}
use Rattle.station.specs.Moves.{StationState, without_peer}
use Rattle.station.specs.Peers.{peer_at}
use Rattle.station.specs.Reads.{end_at, owed_at}
use Rattle.journal.specs.Stored.{StoredState}
use Rattle.peer_connections.specs.declared.link.Channel.TheVariants.{Failed}
use Rattle.peer_connections.specs.declared.link.Link.{Link}
use Rattle.peer_connections.specs.Allowed.{IsSending}
use Rattle.peer_connections.specs.Links.{ArePaired, has_link, has_peer}
use Rattle.peer_connections.specs.Sending.{FailsAt, IsLetGo, WorksAt}
use Rattle.peer_connections.specs.Streams.{StaysKnownAt, HearsStream, SendsStream, known_at}
use Rattle.peer_connections.specs.Streams.{StayKnown, known_of}
use Rattle.peer_connections.proofs.Leaving.{left_gone}
use Rattle.peer_connections.proofs.Linking.{others_same, others_set}
use Rattle.peer_connections.proofs.Pairing.{gone_link, reach_same, sending_still}
use Rattle.peer_connections.proofs.Sent.{set_there}
use Rattle.peer_connections.proofs.Streaming.{heard_none, sent_none}

-- what is known of a connection that is there
known_there : {S : Type 0} (known : S → Option (List ℕ)) (key : ℕ) (links : List (Option (Link S)))
    (link : Link S) → get_or links key None ≡ Some link
    → known_at known links key ≡ known link.stream
known_there known key links link is = ap (known_of known) is

-- .. that is another one now
known_set : {S : Type 0} (known : S → Option (List ℕ)) (key : ℕ) (links : List (Option (Link S)))
    (old link : Link S) → get_or links key None ≡ Some old
    → known_at known (set links key (Some link)) key ≡ known link.stream
known_set known key links old link is = ap (known_of known) (set_there key links old link is)

-- ---- what is known of it stays

pub no_more_same : {S : Type 0} (got : S → Option (List ℕ)) (key : ℕ)
    (links links' : List (Option (Link S))) → links' ≡ links → StaysKnownAt got key links links'
no_more_same got key links links' same is = (
  ap (λ (l : List (Option (Link _))). has_link l key) (sym same) ∙ is,
  ap (λ (l : List (Option (Link _))). known_at got l key) same,
)

pub no_more_set : {S : Type 0} (got : S → Option (List ℕ)) (key : ℕ)
    (links : List (Option (Link S))) (old link : Link S) → get_or links key None ≡ Some old
    → got link.stream ≡ got old.stream → StaysKnownAt got key links (set links key (Some link))
no_more_set got key links old link is same there =
    (ap is_some is, known_set got key links old link is ∙ same ∙ sym (known_there got key links old is))

pub no_more_gone : {S : Type 0} (got : S → Option (List ℕ)) (key : ℕ)
    (links : List (Option (Link S))) → StaysKnownAt got key links (set links key None)
no_more_gone got key links there =
    absurd (let never : false ≡ true = sym (ap is_some (gone_link key links)) ∙ there in cc)

-- .. in one thing after another
pub no_more_then : {S : Type 0} (got : S → Option (List ℕ)) (key : ℕ)
    (a b c : List (Option (Link S))) → StaysKnownAt got key a b → StaysKnownAt got key b c
    → StaysKnownAt got key a c
no_more_then got key a b c one two there =
    ((one (two there).0).0, (two there).1 ∙ (one (two there).0).1)

-- ---- of each connection it is what it was

pub known_same : {S : Type 0} (known : S → Option (List ℕ)) (links links' : List (Option (Link S)))
    → links' ≡ links → StayKnown known links links'
known_same {S = S} known links links' same k =
    ap (λ (l : List (Option (Link S))). known_at known l k) same

pub known_still : {S : Type 0} (known : S → Option (List ℕ)) (key : ℕ)
    (links : List (Option (Link S))) (old link : Link S) → get_or links key None ≡ Some old
    → known link.stream ≡ known old.stream
    → StayKnown known links (set links key (Some link))
known_still known key links old link is same k = by_key (k == key) refl
  where
    by_key : (b : Bool) → (k == key) ≡ b
        → known_at known (set links key (Some link)) k ≡ known_at known links k
    by_key true here =
        let is_key : k ≡ key = grind (arith, nat_tests) in
        subst (λ (i : ℕ). known_at known (set links key (Some link)) i ≡ known_at known links i)
        (sym is_key)
        (known_set known key links old link is ∙ same ∙ sym (known_there known key links old is))
    by_key false other =
        let apart : k ≢ key = grind (arith, nat_tests) in
        ap (known_of known) (get_or-set_other links key k (Some link) None apart)

pub known_then : {S : Type 0} (known : S → Option (List ℕ)) (a b c : List (Option (Link S)))
    → StayKnown known a b → StayKnown known b c → StayKnown known a c
known_then known a b c one two k = two k ∙ one k

-- ---- it was heard, and sent to

pub heard_there : {S : Type 0} (left : S → Option (List ℕ)) (key : ℕ)
    (links : List (Option (Link S))) (old link : Link S) (s t : StoredState)
    → get_or links key None ≡ Some old
    → HearsStream key (left old.stream) (left link.stream) s t
    → HearsStream key (known_at left links key) (known_at left (set links key (Some link)) key) s t
heard_there left key links old link s t is heard =
    subst (λ (u : Option (List ℕ)). HearsStream key u
    (known_at left (set links key (Some link)) key) s t) (sym (known_there left key links old is))
    (subst (λ (u : Option (List ℕ)). HearsStream key (left old.stream) u s t)
    (sym (known_set left key links old link is)) heard)

pub heard_nothing : {S : Type 0} (left : S → Option (List ℕ)) (key : ℕ)
    (links : List (Option (Link S))) (old link : Link S) (s t : StoredState)
    → get_or links key None ≡ Some old → left link.stream ≡ left old.stream → t ≡ s
    → HearsStream key (known_at left links key) (known_at left (set links key (Some link)) key) s t
heard_nothing left key links old link s t is same stays =
    heard_there left key links old link s t is
    (heard_none key (left old.stream) (left link.stream) s t same stays)

pub heard_nobody : {S : Type 0} (left : S → Option (List ℕ)) (key : ℕ)
    (links links' : List (Option (Link S))) (s t : StoredState) → links' ≡ links → t ≡ s
    → HearsStream key (known_at left links key) (known_at left links' key) s t
heard_nobody left key links links' s t same stays =
    heard_none key (known_at left links key) (known_at left links' key) s t
    (ap (λ (l : List (Option (Link _))). known_at left l key) same) stays

-- .. and nothing else is changed
pub heard_kept : {S : Type 0} (left : S → Option (List ℕ)) (key : ℕ)
    (a b c : List (Option (Link S))) (s t u : StoredState) → c ≡ b → u ≡ t
    → HearsStream key (known_at left a key) (known_at left b key) s t
    → HearsStream key (known_at left a key) (known_at left c key) s u
heard_kept {S = S} left key a b c s t u same stays heard =
    subst (λ (l : List (Option (Link S))). HearsStream key (known_at left a key)
    (known_at left l key) s u) (sym same)
    (subst (λ (v : StoredState). HearsStream key (known_at left a key) (known_at left b key) s v)
    (sym stays) heard)

pub sent_there : {S : Type 0} (got : S → Option (List ℕ)) (key : ℕ)
    (links : List (Option (Link S))) (old link : Link S) (s t : StoredState)
    → get_or links key None ≡ Some old
    → SendsStream key (got old.stream) (got link.stream) s t
    → SendsStream key (known_at got links key) (known_at got (set links key (Some link)) key) s t
sent_there got key links old link s t is sent =
    subst (λ (u : Option (List ℕ)). SendsStream key u
    (known_at got (set links key (Some link)) key) s t) (sym (known_there got key links old is))
    (subst (λ (u : Option (List ℕ)). SendsStream key (got old.stream) u s t)
    (sym (known_set got key links old link is)) sent)

pub sent_nothing : {S : Type 0} (got : S → Option (List ℕ)) (key : ℕ)
    (links links' : List (Option (Link S))) (s t : StoredState) → links' ≡ links → t ≡ s
    → SendsStream key (known_at got links key) (known_at got links' key) s t
sent_nothing got key links links' s t same stays =
    sent_none key (known_at got links key) (known_at got links' key) s t
    (ap (λ (l : List (Option (Link _))). known_at got l key) same) stays

-- ---- a peer is let go

-- whoever is there still isn't
pub let_go_not : {L : Type 0} (key : ℕ) (s t : StationState) (links links' : List (Option L))
    → ArePaired links s.peers → ArePaired links' t.peers → t ≡ s → IsLetGo key s links links'
let_go_not key s t links links' before after same was gone =
    absurd (let never : true ≡ false =
    sym was ∙ before key ∙ sym (ap (λ (u : StationState). has_peer u.peers key) same)
    ∙ sym (after key) ∙ gone in cc)

pub let_go_behind : {L : Type 0} (key : ℕ) (s : StationState) (links links' : List (Option L))
    → end_at s key ≡ Some Behind → IsLetGo key s links links'
let_go_behind key s links links' behind was gone = inl behind

pub unowed : (octets : List ℕ) → not (length octets == 0) ≡ false → octets ≡ []
unowed [] is = refl
unowed (x ∷ octets) is = by_test (length (x ∷ octets) == 0) refl is
  where
    by_test : (b : Bool) → (length (x ∷ octets) == 0) ≡ b → not b ≡ false → x ∷ octets ≡ []
    by_test true zero_long owes =
        let long : length (x ∷ octets) ≡ 0 = grind (arith, nat_tests) in
        absurd (let no : suc (length octets) ≡ 0 = long in omega (arith, no))
    by_test false some owes = absurd (let never : true ≡ false = owes in cc)

pub let_go_unowed : {L : Type 0} (key : ℕ) (s : StationState) (links links' : List (Option L))
    → not (length (owed_at s key) == 0) ≡ false → IsLetGo key s links links'
let_go_unowed key s links links' none was gone = inr (unowed (owed_at s key) none)

-- the station stays: whoever is there was
pub still_there : {L : Type 0} (key : ℕ) (s t : StationState) (links links' : List (Option L))
    → ArePaired links s.peers → ArePaired links' t.peers → t ≡ s
    → has_link links' key ≡ true → has_link links key ≡ true
still_there key s t links links' before after same there =
    before key ∙ sym (ap (λ (u : StationState). has_peer u.peers key) same) ∙ sym (after key)
    ∙ there

-- .. and so was whoever is there behind what was sent
pub was_there : {L : Type 0} (key : ℕ) (got got' : Option (List ℕ)) (links links' : List (Option L))
    (s t : StoredState) → ArePaired links s.station.peers → ArePaired links' t.station.peers
    → SendsStream key got got' s t → has_link links' key ≡ true → has_link links key ≡ true
was_there key got got' links links' s t before after sent there =
    before key ∙ sym (reach_same (IsSending key) (sending_still key) s t sent.moves key)
    ∙ sym (after key) ∙ there

pub let_go_then : {L : Type 0} (key : ℕ) (s t u : StationState) (a b c : List (Option L))
    → ArePaired b t.peers → ArePaired c u.peers → u ≡ t → IsLetGo key s a b → IsLetGo key s a c
let_go_then key s t u a b c before after same go was gone =
    go was (before key ∙ sym (ap (λ (v : StationState). has_peer v.peers key) same)
    ∙ sym (after key) ∙ gone)

-- whoever has left isn't there
pub gone_there : {L : Type 0} (key : ℕ) (s t : StationState) (links : List (Option L))
    → ArePaired links t.peers → t ≡ without_peer key s → has_link links key ≡ true → ⊥
gone_there key s t links paired left there =
    let never : false ≡ true =
    sym (ap is_some (ap (λ (u : StationState). peer_at u.peers key) left ∙ left_gone key s))
    ∙ sym (paired key) ∙ there in cc

-- a connection has failed
pub fails_there : {S : Type 0} (key : ℕ) (links : List (Option (Link S))) (old link : Link S)
    → get_or links key None ≡ Some old → link.channel ≡ Failed
    → FailsAt (get_or (set links key (Some link)) key None)
fails_there {S = S} key links old link is failed =
    subst (λ (l : Option (Link S)). FailsAt l) (sym (set_there key links old link is)) failed

-- .. or it hasn't
pub works_there : {S : Type 0} (key : ℕ) (links : List (Option (Link S))) (old link : Link S)
    → get_or links key None ≡ Some old → link.channel ≢ Failed
    → WorksAt (get_or (set links key (Some link)) key None)
works_there {S = S} key links old link is works failed =
    works (subst (λ (l : Option (Link S)). FailsAt l) (set_there key links old link is) failed)

pub works_none : {S : Type 0} (key : ℕ) (links : List (Option (Link S)))
    → get_or links key None ≡ None → WorksAt (get_or links key None)
works_none {S = S} key links none failed =
    subst (λ (l : Option (Link S)). FailsAt l) none failed

-- it stays so, while something else is done
pub works_same : {S : Type 0} (key : ℕ) (links links' : List (Option (Link S))) → links' ≡ links
    → WorksAt (get_or links key None) → WorksAt (get_or links' key None)
works_same {S = S} key links links' same works =
    subst (λ (l : List (Option (Link S))). WorksAt (get_or l key None)) (sym same) works

pub works_set : {S : Type 0} (key : ℕ) (links : List (Option (Link S))) (old link : Link S)
    → get_or links key None ≡ Some old → link.channel ≡ old.channel
    → WorksAt (get_or links key None) → WorksAt (get_or (set links key (Some link)) key None)
works_set {S = S} key links old link is same works =
    works_there key links old link is
    (λ failed. works (subst (λ (l : Option (Link S)). FailsAt l) (sym is) (sym same ∙ failed)))

pub works_gone : {S : Type 0} (key : ℕ) (links : List (Option (Link S)))
    → has_link links key ≡ false → WorksAt (get_or links key None)
works_gone {S = S} key links = by_link (get_or links key None)
  where
    by_link : (l : Option (Link S)) → is_some l ≡ false → WorksAt l
    by_link None gone failed = failed
    by_link (Some link) gone failed = absurd (let never : true ≡ false = gone in cc)

-- a connection of which nothing is read, and that is sent nothing
pub ruleset known_as_before = (
  known_same,
  known_still,
  known_then,
)

-- a peer that is heard
pub ruleset heard = (
  others_same,
  others_set,
  heard_kept,
)

-- .. and what else is done with a connection
pub ruleset known = (
  no_more_same,
  no_more_set,
  no_more_gone,
  heard_there,
  heard_nothing,
  heard_nobody,
  sent_there,
  sent_nothing,
  let_go_not,
  let_go_behind,
  let_go_unowed,
  unowed,
  fails_there,
  works_there,
  works_none,
  works_same,
  works_set,
  works_gone,
)
