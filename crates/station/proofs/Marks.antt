-- The marks of slots: that each move of the slots keeps them, and whom they find.
use Rattle.std.proofs.Common.{◌≡◌, ◌≢◌, ℕ, zero, suc, ◌+◌, ◌-◌, ◌*◌, ◌%◌, ◌<◌, ◌≤◌, ◌==◌}
use Rattle.std.proofs.Common.{◌&&◌, Bool, true, false}
use Rattle.std.proofs.Common.{List, [], ◌∷◌, ◌++◌, map, length, drop, take, Option, Some, None}
use Rattle.std.proofs.Common.{refl, ap, sym, subst, ◌∙◌, arith}
use Rattle.std.proofs.Math.ListN.{length-set, set}
use Rattle.std.proofs.lemmas.Bool.{eq-eqb}
use Rattle.std.proofs.lemmas.Bool.Decides.{nat_tests}
use Rattle.std.proofs.lemmas.List.{get_or-set_other, get_or-set_same}
use Rattle.std.specs.Prelude.{IfNone, IfSome, if◌then◌else◌, is_none, nat_lt, option_map}
use Rattle.std.specs.Prelude.{slice_index}
use Rattle.memchr.specs.Find.{Nowhere, Passes, is_byte}
use Rattle.device_map.proofs.Results.{equal}
use Rattle.peer_talk.specs.Talks.{without_on}
use Rattle.peer_talk.specs.Text.{is_same_node}
use Rattle.station.specs.declared.peer.Peer.{Peer}
use Rattle.station.specs.declared.peer_end.PeerEnd.{PeerEnd}
use Rattle.station.specs.declared.peer_end.PeerEnd.TheVariants as ends
use Rattle.station.specs.declared.sizes.TheConstants.{NOTICE_LIMIT, PEERS, SUBNET_MARKS}
use Rattle.station.specs.Listening.{is_at, listener}
use Rattle.station.specs.Marks.{AreMarked, HasOtherMark, IsNodeMark, IsOwedMark, mark_of}
use Rattle.station.specs.Peers.{forget_till, peer_at, tell_notice, with_peer}
use Rattle.station.specs.PeerViews.{session_noticed, session_of, slot_forgotten, slot_noticed}
use Rattle.station.specs.PeerViews.{without_key}
use Rattle.station.specs.Reads.{owed_to}
use Rattle.station.specs.Sessions.{Session}
use Rattle.station.proofs.Peers.{at_slot, map_size, peer_at-map, peer_at-other}
use Rattle.station.proofs.Peers.{slots_size}

-- ---- slots as a list

-- what holds of no peer, holds beyond the slots
beyond_slots : (R : Option Session → Type 0) (k : ℕ) (peers : List (Option Session)) → R None
    → (k < length peers → R (peer_at peers k)) → R (peer_at peers k)
beyond_slots R k [] none within = none
beyond_slots R zero (p ∷ peers) none within = within (omega arith)
beyond_slots R (suc k) (p ∷ peers) none within =
    beyond_slots R k peers none (λ less. within (omega (arith, less)))

lists_same : (xs ys : List (Option Session)) → length xs ≡ length ys
    → ((k : ℕ) → peer_at xs k ≡ peer_at ys k) → xs ≡ ys
lists_same [] [] size same = refl
lists_same [] (y ∷ ys) size same = absurd (omega (arith, size))
lists_same (x ∷ xs) [] size same = absurd (omega (arith, size))
lists_same (x ∷ xs) (y ∷ ys) size same =
    ap (λ z. z ∷ xs) (same 0)
    ∙ ap (λ zs. y ∷ zs) (lists_same xs ys (omega (arith, size)) (λ k. same (suc k)))

-- ---- marks are kept

pub no_slots : AreMarked [] [] []
no_slots = record {
  nodes_size = omega arith;
  owed_size = omega arith;
  nodes_most = omega arith;
  owed_most = omega arith;
  of_node = λ k. tt;
  of_owed = λ k isnt. absurd (isnt refl);
}

mark_at : (j k m : ℕ) (marks : List ℕ) → k < length marks → k ≡ j
    → m ≡ slice_index (set marks k m) j
mark_at j k m marks within same =
    subst (λ i. m ≡ slice_index (set marks k m) i) same
    (sym (get_or-set_same marks k m 0 within))

-- a slot gets a peer, or another one, with its marks
pub put : (k m w : ℕ) (y : Option Session) (nodes owed : List ℕ) (peers : List (Option Session))
    → k < length peers → AreMarked nodes owed peers → IsNodeMark m y → IsOwedMark w y
    → AreMarked (set nodes k m) (set owed k w) (with_peer k y peers)
put k m w y nodes owed peers within marked end is_owed = record {
  nodes_size = omega (arith, length-set nodes k m, marked.nodes_size, slots_size k y peers within);
  owed_size = omega (arith, length-set owed k w, marked.owed_size, slots_size k y peers within);
  nodes_most = omega (arith, length-set nodes k m, marked.nodes_most);
  owed_most = omega (arith, length-set owed k w, marked.owed_most);
  of_node = λ j.
      at_slot (λ s. IsNodeMark (slice_index (set nodes k m) j) s) k j y peers
      (λ same. subst (λ v. IsNodeMark v y)
      (mark_at j k m nodes (omega (arith, within, marked.nodes_size)) same) end)
      (λ apart. subst (λ v. IsNodeMark v (peer_at peers j))
      (sym (get_or-set_other nodes k j m 0 apart)) (marked.of_node j));
  of_owed = λ j.
      at_slot (λ s. IsOwedMark (slice_index (set owed k w) j) s) k j y peers
      (λ same. subst (λ v. IsOwedMark v y)
      (mark_at j k w owed (omega (arith, within, marked.owed_size)) same) is_owed)
      (λ apart. subst (λ v. IsOwedMark v (peer_at peers j))
      (sym (get_or-set_other owed k j w 0 apart)) (marked.of_owed j));
}

same_slot : (k : ℕ) (peers : List (Option Session)) → k < length peers → peer_at peers k ≡ None
    → with_peer k None peers ≡ peers
same_slot k [] within none = absurd (omega (arith, within))
same_slot zero (p ∷ peers) within none = ap (λ q. q ∷ peers) (sym none)
same_slot (suc k) (p ∷ peers) within none =
    ap (λ ps. p ∷ ps) (same_slot k peers (omega (arith, within)) none)

-- a slot is emptied, and its marks
emptied : (k : ℕ) (nodes owed : List ℕ) (peers : List (Option Session)) → k < length peers
    → AreMarked nodes owed peers → AreMarked (set nodes k 0) (set owed k 0) (with_peer k None peers)
emptied k nodes owed peers within marked =
    put k 0 0 None nodes owed peers within marked tt (λ isnt. absurd (isnt refl))

pub taken : (k : ℕ) (r : Option Peer) (nodes owed : List ℕ) (peers : List (Option Session))
    → k < length peers → option_map session_of r ≡ peer_at peers k → AreMarked nodes owed peers
    → AreMarked (set nodes k 0) (set owed k 0) (without_key k r peers)
taken k None nodes owed peers within there marked =
    subst (AreMarked (set nodes k 0) (set owed k 0)) (same_slot k peers within (sym there))
    (emptied k nodes owed peers within marked)
taken k (Some p) nodes owed peers within there marked = emptied k nodes owed peers within marked

-- other marks, which are the same where slots are
pub remarked : (nodes owed nodes' owed' : List ℕ) (peers : List (Option Session))
    → AreMarked nodes owed peers → length peers ≤ length nodes' → length peers ≤ length owed'
    → length nodes' ≤ PEERS → length owed' ≤ PEERS
    → ((k : ℕ) → k < length peers → slice_index nodes' k ≡ slice_index nodes k)
    → ((k : ℕ) → k < length peers → slice_index owed' k ≡ slice_index owed k)
    → AreMarked nodes' owed' peers
remarked nodes owed nodes' owed' peers marked long_nodes long_owed most_nodes most_owed same_nodes
    same_owed = record {
      nodes_size = long_nodes;
      owed_size = long_owed;
      nodes_most = most_nodes;
      owed_most = most_owed;
      of_node = λ k.
          beyond_slots (IsNodeMark (slice_index nodes' k)) k peers tt
          (λ within. subst (λ v. IsNodeMark v (peer_at peers k)) (sym (same_nodes k within))
          (marked.of_node k));
      of_owed = λ k.
          beyond_slots (IsOwedMark (slice_index owed' k)) k peers (λ isnt. absurd (isnt refl))
          (λ within. subst (λ v. IsOwedMark v (peer_at peers k)) (sym (same_owed k within))
          (marked.of_owed k));
    }

pub front_at : (n k : ℕ) (xs ys : List ℕ) → k < length xs → k < n
    → slice_index (take n xs ++ ys) k ≡ slice_index xs k
front_at n k [] ys within front = absurd (omega (arith, within))
front_at zero k (x ∷ xs) ys within front = absurd (omega (arith, front))
front_at (suc n) zero (x ∷ xs) ys within front = refl
front_at (suc n) (suc k) (x ∷ xs) ys within front =
    front_at n k xs ys (omega (arith, within)) (omega (arith, front))

-- empty slots more
pub grown : (nodes owed : List ℕ) (peers peers' : List (Option Session))
    → AreMarked nodes owed peers → ((k : ℕ) → peer_at peers' k ≡ peer_at peers k)
    → length peers' ≤ length nodes → length peers' ≤ length owed → AreMarked nodes owed peers'
grown nodes owed peers peers' marked same long_nodes long_owed = record {
  nodes_size = long_nodes;
  owed_size = long_owed;
  nodes_most = marked.nodes_most;
  owed_most = marked.owed_most;
  of_node = λ k. subst (IsNodeMark (slice_index nodes k)) (sym (same k)) (marked.of_node k);
  of_owed = λ k. subst (IsOwedMark (slice_index owed k)) (sym (same k)) (marked.of_owed k);
}

-- ---- a notice, and a till that is forgotten

-- a change of sessions that leaves whom they are of, and what they are owed
abbrev KeepsNode : (Session → Session) → Type 0
KeepsNode f = (x : Session) → (f x).talk.peer ≡ x.talk.peer

mark_kept : (f : Session → Session) → KeepsNode f → (mark : ℕ) (slot : Option Session)
    → IsNodeMark mark slot → IsNodeMark mark (option_map f slot)
mark_kept f keeps mark None end = tt
mark_kept f keeps mark (Some x) end =
    subst (λ o. IfSome o (λ node. mark ≡ mark_of node)) (sym (keeps x)) end

notice_keeps : (node octets : List ℕ) → KeepsNode (session_noticed node octets)
notice_keeps node octets x = by_test (is_at (listener x.end x.talk.peer) node)
  where
    told : (many : Bool)
        → (if many
        then record x { end = Some ends.Behind }
        else record x { owed = x.owed ++ octets }).talk.peer
        ≡ x.talk.peer
    told true = refl
    told false = refl

    by_test : (b : Bool)
        → (if b then tell_notice (Some octets) x else x).talk.peer ≡ x.talk.peer
    by_test true = told (nat_lt NOTICE_LIMIT (length x.owed))
    by_test false = refl

forget_keeps : (t : ℕ) → KeepsNode (forget_till (Some t))
forget_keeps t x = by_test (is_none x.end)
  where
    by_test : (b : Bool)
        → (if b
        then record x { talk = record x.talk { on = without_on t x.talk.on } }
        else x).talk.peer
        ≡ x.talk.peer
    by_test true = refl
    by_test false = refl

pub noticed : (k : ℕ) (node octets nodes owed : List ℕ) (peers : List (Option Session))
    → k < length peers → AreMarked nodes owed peers
    → AreMarked nodes (set owed k 1)
    (with_peer k (slot_noticed node octets (peer_at peers k)) peers)
noticed k node octets nodes owed peers within marked = record {
  nodes_size = omega (arith, marked.nodes_size, slots_size k y peers within);
  owed_size = omega (arith, length-set owed k 1, marked.owed_size, slots_size k y peers within);
  nodes_most = marked.nodes_most;
  owed_most = omega (arith, length-set owed k 1, marked.owed_most);
  of_node = λ j.
      at_slot (λ s. IsNodeMark (slice_index nodes j) s) k j y peers
      (λ same. subst (λ i. IsNodeMark (slice_index nodes i) y) same
      (mark_kept (session_noticed node octets) (notice_keeps node octets) _ (peer_at peers k)
      (marked.of_node k)))
      (λ apart. marked.of_node j);
  of_owed = λ j.
      at_slot (λ s. IsOwedMark (slice_index (set owed k 1) j) s) k j y peers
      (λ same isnt. sym (mark_at j k 1 owed (omega (arith, within, marked.owed_size)) same))
      (λ apart. subst (λ v. IsOwedMark v (peer_at peers j))
      (sym (get_or-set_other owed k j 1 0 apart)) (marked.of_owed j));
}
  where
    y : Option Session
    y = slot_noticed node octets (peer_at peers k)

forgotten_owed : (t : ℕ) (slot : Option Session) → owed_to (slot_forgotten t slot) ≡ owed_to slot
forgotten_owed t None = refl
forgotten_owed t (Some x) = by_test (is_none x.end)
  where
    by_test : (b : Bool)
        → (if b
        then record x { talk = record x.talk { on = without_on t x.talk.on } }
        else x).owed
        ≡ x.owed
    by_test true = refl
    by_test false = refl

pub forgotten : (t : ℕ) (nodes owed : List ℕ) (peers : List (Option Session))
    → AreMarked nodes owed peers → AreMarked nodes owed (map (slot_forgotten t) peers)
forgotten t nodes owed peers marked = record {
  nodes_size = omega (arith, marked.nodes_size, map_size (slot_forgotten t) peers);
  owed_size = omega (arith, marked.owed_size, map_size (slot_forgotten t) peers);
  nodes_most = marked.nodes_most;
  owed_most = marked.owed_most;
  of_node = λ k.
      subst (IsNodeMark (slice_index nodes k)) (sym (peer_at-map (slot_forgotten t) k peers refl))
      (mark_kept (forget_till (Some t)) (forget_keeps t) _ (peer_at peers k) (marked.of_node k));
  of_owed = λ k some.
      marked.of_owed k (λ none. some (ap owed_to (peer_at-map (slot_forgotten t) k peers refl)
      ∙ forgotten_owed t (peer_at peers k) ∙ none));
}

-- ---- whom marks find

-- a slot whose mark is another one
other_mark : (end mark : ℕ) (slot : Option Session) → IsNodeMark mark slot → mark ≢ end
    → HasOtherMark end slot
other_mark end mark None is apart = tt
other_mark end mark (Some x) is apart = of_peer x.talk.peer is
  where
    of_peer : (o : Option (List ℕ)) → IfSome o (λ node. mark ≡ mark_of node)
        → IfSome o (λ node. mark_of node ≢ end)
    of_peer None same = tt
    of_peer (Some node) same = λ end_is. apart (same ∙ end_is)

not_owed : (mark : ℕ) (slot : Option Session) → IsOwedMark mark slot → mark ≢ 1
    → owed_to slot ≡ []
not_owed mark slot is apart = by_octets (owed_to slot) is
  where
    by_octets : (octets : List ℕ) → (octets ≢ [] → mark ≡ 1) → octets ≡ []
    by_octets [] some = refl
    by_octets (b ∷ octets) some = absurd (apart (some (λ isnt. cc)))

marks_between : (end from to : ℕ) (nodes owed : List ℕ) (peers : List (Option Session))
    → AreMarked nodes owed peers
    → ((k : ℕ) → from ≤ k → k < to → slice_index nodes k ≢ end)
    → (k : ℕ) → from ≤ k → k < to → HasOtherMark end (peer_at peers k)
marks_between end from to nodes owed peers marked others k low high =
    other_mark end (slice_index nodes k) (peer_at peers k) (marked.of_node k) (others k low high)

marks_beyond : (end from : ℕ) (nodes owed : List ℕ) (peers : List (Option Session))
    → AreMarked nodes owed peers
    → ((k : ℕ) → from ≤ k → k < length peers → slice_index nodes k ≢ end)
    → (k : ℕ) → from ≤ k → HasOtherMark end (peer_at peers k)
marks_beyond end from nodes owed peers marked others k low =
    beyond_slots (HasOtherMark end) k peers tt
    (λ within. other_mark end (slice_index nodes k) (peer_at peers k) (marked.of_node k)
    (others k low within))

owed_between : (from to : ℕ) (nodes owed : List ℕ) (peers : List (Option Session))
    → AreMarked nodes owed peers
    → ((k : ℕ) → from ≤ k → k < to → slice_index owed k ≢ 1)
    → (k : ℕ) → from ≤ k → k < to → owed_to (peer_at peers k) ≡ []
owed_between from to nodes owed peers marked others k low high =
    not_owed (slice_index owed k) (peer_at peers k) (marked.of_owed k) (others k low high)

owed_beyond : (from : ℕ) (nodes owed : List ℕ) (peers : List (Option Session))
    → AreMarked nodes owed peers
    → ((k : ℕ) → from ≤ k → k < length peers → slice_index owed k ≢ 1)
    → (k : ℕ) → from ≤ k → owed_to (peer_at peers k) ≡ []
owed_beyond from nodes owed peers marked others k low =
    beyond_slots (λ s. owed_to s ≡ []) k peers refl
    (λ within. not_owed (slice_index owed k) (peer_at peers k) (marked.of_owed k)
    (others k low within))

-- ---- the first place of a mark

dropped : (from j : ℕ) (xs : List ℕ) → slice_index (drop from xs) j ≡ slice_index xs (from + j)
dropped zero j xs =
    let same : j ≡ 0 + j = omega arith in
    ap (slice_index xs) same
dropped (suc from) j [] = refl
dropped (suc from) j (x ∷ xs) =
    let next : suc (from + j) ≡ suc from + j = omega arith in
    dropped from j xs ∙ ap (slice_index (x ∷ xs)) next

taken_at : (n k : ℕ) (xs : List ℕ) → k < n → slice_index (take n xs) k ≡ slice_index xs k
taken_at zero k xs front = absurd (omega (arith, front))
taken_at (suc n) k [] front = refl
taken_at (suc n) zero (x ∷ xs) front = refl
taken_at (suc n) (suc k) (x ∷ xs) front = taken_at n k xs (omega (arith, front))

passes : (mark from k : ℕ) (xs : List ℕ) → from ≤ k → slice_index xs k ≡ mark
    → Passes (is_byte mark) (drop from xs) (k - from)
passes mark from k xs low is =
    let place : from + (k - from) ≡ k = omega (arith, low) in
    ap (λ x. x == mark) (dropped from (k - from) xs ∙ ap (slice_index xs) place ∙ is)
    ∙ eq-eqb mark mark refl

pub none_between : (mark from to : ℕ) (xs : List ℕ)
    → Nowhere (Passes (is_byte mark) (drop from xs)) 0 to
    → (k : ℕ) → from ≤ k → k < from + to → slice_index xs k ≢ mark
none_between mark from to xs nowhere k low high = λ is.
    nowhere (k - from) (omega arith) (omega (arith, low, high)) (passes mark from k xs low is)

all_taken : (xs : List ℕ) → take (length xs) xs ≡ xs
all_taken [] = refl
all_taken (x ∷ xs) = ap (λ ys. x ∷ ys) (all_taken xs)

-- what is left of marks, as a slice
pub rest_whole : (from : ℕ) (xs : List ℕ) → take (length xs - from) (drop from xs) ≡ drop from xs
rest_whole zero xs =
    let same : length xs - 0 ≡ length xs = omega arith in
    ap (λ n. take n xs) same ∙ all_taken xs
rest_whole (suc from) [] =
    let none : 0 - suc from ≡ 0 = omega arith in
    ap (λ n. take n []) none
rest_whole (suc from) (x ∷ xs) =
    let same : suc (length xs) - suc from ≡ length xs - from = omega arith in
    ap (λ n. take n (drop from xs)) same ∙ rest_whole from xs

pub rest_size : (from : ℕ) (xs : List ℕ) → from ≤ length xs
    → length (drop from xs) + from ≡ length xs
rest_size zero xs low = omega arith
rest_size (suc from) [] low = absurd (omega (arith, low))
rest_size (suc from) (x ∷ xs) low =
    let rest = rest_size from xs (omega (arith, low)) in
    omega (arith, rest)

-- ---- marks of slots alone

take_short : (n : ℕ) (xs : List ℕ) → length (take n xs) ≤ n
take_short zero xs = omega arith
take_short (suc n) [] = omega arith
take_short (suc n) (x ∷ xs) = let rest = take_short n xs in omega (arith, rest)

take_long : (n : ℕ) (xs : List ℕ) → n ≤ length xs → length (take n xs) ≡ n
take_long zero xs long = refl
take_long (suc n) [] long = absurd (omega (arith, long))
take_long (suc n) (x ∷ xs) long = ap suc (take_long n xs (omega (arith, long)))

-- where another mark stands among the first ones, it stands among all
others_within : (mark from n at : ℕ) (xs : List ℕ) → at < length (take n xs)
    → ((k : ℕ) → from ≤ k → k < at → slice_index (take n xs) k ≢ mark)
    → (k : ℕ) → from ≤ k → k < at → slice_index xs k ≢ mark
others_within mark from n at xs within others k low high = λ is.
    let short = take_short n xs in
    others k low high (taken_at n k xs (omega (arith, high, within, short)) ∙ is)

others_beyond : (mark from n : ℕ) (xs : List ℕ) → n ≤ length xs
    → ((k : ℕ) → from ≤ k → k < length (take n xs) → slice_index (take n xs) k ≢ mark)
    → (k : ℕ) → from ≤ k → k < n → slice_index xs k ≢ mark
others_beyond mark from n xs long others k low within = λ is.
    let size = take_long n xs long in
    others k low (omega (arith, within, size)) (taken_at n k xs within ∙ is)

pub node_found : (mark from n : ℕ) (r : Option ℕ) (nodes owed : List ℕ)
    (peers : List (Option Session)) → AreMarked nodes owed peers
    → IfSome r (λ at. (from ≤ at) × (at < length (take n nodes)))
    → IfSome r (λ at. (k : ℕ) → from ≤ k → k < at → slice_index (take n nodes) k ≢ mark)
    → IfSome r (λ key. (k : ℕ) → from ≤ k → k < key → HasOtherMark mark (peer_at peers k))
node_found mark from n None nodes owed peers marked within others = tt
node_found mark from n (Some at) nodes owed peers marked within others =
    marks_between mark from at nodes owed peers marked
    (others_within mark from n at nodes within.1 others)

pub node_absent : (mark from n : ℕ) (r : Option ℕ) (nodes owed : List ℕ)
    (peers : List (Option Session)) → AreMarked nodes owed peers → n ≡ length peers
    → IfNone r ((k : ℕ) → from ≤ k → k < length (take n nodes)
    → slice_index (take n nodes) k ≢ mark)
    → IfNone r ((k : ℕ) → from ≤ k → HasOtherMark mark (peer_at peers k))
node_absent mark from n None nodes owed peers marked size others =
    marks_beyond mark from nodes owed peers marked
    (λ k low within. others_beyond mark from n nodes (omega (arith, size, marked.nodes_size)) others
    k low (omega (arith, size, within)))
node_absent mark from n (Some at) nodes owed peers marked size others = tt

pub owed_found : (from n : ℕ) (r : Option ℕ) (nodes owed : List ℕ)
    (peers : List (Option Session)) → AreMarked nodes owed peers
    → IfSome r (λ at. (from ≤ at) × (at < length (take n owed)))
    → IfSome r (λ at. (k : ℕ) → from ≤ k → k < at → slice_index (take n owed) k ≢ 1)
    → IfSome r (λ key. (k : ℕ) → from ≤ k → k < key → owed_to (peer_at peers k) ≡ [])
owed_found from n None nodes owed peers marked within others = tt
owed_found from n (Some at) nodes owed peers marked within others =
    owed_between from at nodes owed peers marked (others_within 1 from n at owed within.1 others)

pub owed_absent : (from n : ℕ) (r : Option ℕ) (nodes owed : List ℕ)
    (peers : List (Option Session)) → AreMarked nodes owed peers → n ≡ length peers
    → IfNone r ((k : ℕ) → from ≤ k → k < length (take n owed)
    → slice_index (take n owed) k ≢ 1)
    → IfNone r ((k : ℕ) → from ≤ k → owed_to (peer_at peers k) ≡ [])
owed_absent from n None nodes owed peers marked size others =
    owed_beyond from nodes owed peers marked
    (λ k low within. others_beyond 1 from n owed (omega (arith, size, marked.owed_size)) others k
    low (omega (arith, size, within)))
owed_absent from n (Some at) nodes owed peers marked size others = tt

-- ---- each peer that listens at a node is told

-- those of the keys before this one are told
pub record AreToldBefore (f : Option Session → Option Session) (from : ℕ)
    (old new : List (Option Session)) : Type 0 where
  pub size : length new ≡ length old
  pub before : (k : ℕ) → k < from → peer_at new k ≡ f (peer_at old k)
  pub later : (k : ℕ) → from ≤ k → peer_at new k ≡ peer_at old k

both : (a b : Bool) → (a && b) ≡ true → (a ≡ true) × (b ≡ true)
both true true is = (refl, refl)
both true false is = absurd (let never : false ≡ true = is in cc)
both false b is = absurd (let never : false ≡ true = is in cc)

-- the same node has the same mark
same_node_mark : (a b : List ℕ) → is_same_node a b ≡ true → mark_of a ≡ mark_of b
same_node_mark a b is =
    let parts =
    both (slice_index a 0 == slice_index b 0) (slice_index a 1 == slice_index b 1) is in
    ap (λ n. (n * SUBNET_MARKS + slice_index a 1) % 256)
    (equal (slice_index a 0) (slice_index b 0) parts.0)
    ∙ ap (λ n. (slice_index b 0 * SUBNET_MARKS + n) % 256)
    (equal (slice_index a 1) (slice_index b 1) parts.1)

-- a slot whose peer's node has another mark isn't told
pub slot_untold : (node octets : List ℕ) (slot : Option Session)
    → HasOtherMark (mark_of node) slot → slot_noticed node octets slot ≡ slot
slot_untold node octets None other = refl
slot_untold node octets (Some x) other =
    ap (λ b. Some (if b then tell_notice (Some octets) x else x))
    (not_at x.end x.talk.peer other)
  where
    not_same : (n : List ℕ) → mark_of n ≢ mark_of node → (b : Bool) → is_same_node n node ≡ b
        → b ≡ false
    not_same n isnt false is = refl
    not_same n isnt true is = absurd (isnt (same_node_mark n node is))

    not_at : (e : Option PeerEnd) (o : Option (List ℕ))
        → IfSome o (λ n. mark_of n ≢ mark_of node) → is_at (listener e o) node ≡ false
    not_at (Some end) o isnt = refl
    not_at None None isnt = refl
    not_at None (Some n) isnt = not_same n isnt (is_same_node n node) refl

pub told_more : (f : Option Session → Option Session) (from key : ℕ)
    (old new new' : List (Option Session)) → AreToldBefore f from old new → from ≤ key
    → key < length new
    → ((k : ℕ) → from ≤ k → k < key → f (peer_at new k) ≡ peer_at new k)
    → new' ≡ with_peer key (f (peer_at new key)) new → AreToldBefore f (key + 1) old new'
told_more f from key old new new' told low within between is = record {
  size = ap length is ∙ slots_size key _ new within ∙ told.size;
  before = λ k less.
      ap (λ ps. peer_at ps k) is
      ∙ at_slot (λ s. s ≡ f (peer_at old k)) key k (f (peer_at new key)) new
      (λ same. ap f (ap (peer_at new) same ∙ told.later k (omega (arith, low, same))))
      (λ apart. one k (omega (arith, less, apart)));
  later = λ k more.
      ap (λ ps. peer_at ps k) is
      ∙ peer_at-other key k (f (peer_at new key)) new (λ same. absurd (omega (arith, more, same)))
      ∙ told.later k (omega (arith, low, more));
}
  where
    one : (k : ℕ) → k < key → peer_at new k ≡ f (peer_at old k)
    one k less = by_side (nat_lt k from) refl
      where
        by_side : (b : Bool) → nat_lt k from ≡ b → peer_at new k ≡ f (peer_at old k)
        by_side true is = told.before k (grind (arith, nat_tests))
        by_side false is =
            let high : from ≤ k = grind (arith, nat_tests) in
            sym (between k high less) ∙ ap f (told.later k high)

pub all_told : (f : Option Session → Option Session) (from : ℕ)
    (old new : List (Option Session)) → f None ≡ None → AreToldBefore f from old new
    → ((k : ℕ) → from ≤ k → f (peer_at new k) ≡ peer_at new k) → new ≡ map f old
all_told f from old new none told rest =
    lists_same new (map f old) (told.size ∙ sym (map_size f old))
    (λ k. one k ∙ sym (peer_at-map f k old none))
  where
    one : (k : ℕ) → peer_at new k ≡ f (peer_at old k)
    one k = by_side (nat_lt k from) refl
      where
        by_side : (b : Bool) → nat_lt k from ≡ b → peer_at new k ≡ f (peer_at old k)
        by_side true is = told.before k (grind (arith, nat_tests))
        by_side false is =
            let high : from ≤ k = grind (arith, nat_tests) in
            sym (rest k high) ∙ ap f (told.later k high)

-- nobody is beyond the slots
pub none_left : (f : Option Session → Option Session) (from k : ℕ) (peers : List (Option Session))
    → f None ≡ None → length peers ≤ from → from ≤ k → f (peer_at peers k) ≡ peer_at peers k
none_left f from k peers none all low =
    beyond_slots (λ s. f s ≡ s) k peers none (λ within. absurd (omega (arith, within, all, low)))

-- ---- what holds of the keys before one, and from that one on

pub parted : (P : ℕ → Type 0) (from mid : ℕ) → ((k : ℕ) → from ≤ k → k < mid → P k)
    → ((k : ℕ) → mid ≤ k → P k) → (k : ℕ) → from ≤ k → P k
parted P from mid before behind k low = by_side (nat_lt k mid) refl
  where
    by_side : (b : Bool) → nat_lt k mid ≡ b → P k
    by_side true is = before k low (grind (arith, nat_tests))
    by_side false is = behind k (grind (arith, nat_tests))
