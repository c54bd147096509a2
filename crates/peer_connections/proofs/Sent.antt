-- What is left at a connection when its peer was sent to.
use Rattle.std.proofs.Common.{◌≡◌, ℕ, zero, suc, Bool, true, false, List, []}
use Rattle.std.proofs.Common.{◌∷◌, Option, Some, None, get_or, refl, ap, sym, subst, ◌∙◌, inl, inr}
use Rattle.std.proofs.Math.ListN.{set}
use Rattle.std.specs.Prelude.{◌⊎◌, is_some, if◌then◌else◌}
use Rattle.station.specs.Moves.{without_peer}
use Rattle.station.specs.Peers.{peer_at}
use Rattle.station.specs.Reads.{owed_at, owed_to}
use Rattle.station.specs.Sessions.{Session}
use Rattle.journal.specs.Stored.{StoredState, is_all_stored, told_at, with_station}
use Rattle.connection_calls.specs.declared.call.Call.{Call}
use Rattle.connection_calls.specs.declared.call.Call.TheVariants.{Ended, Failed, Interrupted}
use Rattle.connection_calls.specs.declared.call.Call.TheVariants.{Passed, Waits}
use Rattle.peer_connections.specs.declared.link.Link.{Link}
use Rattle.peer_connections.specs.Calls.{SendsCall}
use Rattle.peer_connections.specs.Links.{ArePaired}
use Rattle.peer_connections.specs.Sending.{HasStopped, IsSentTo, StopsAt}
use Rattle.peer_connections.proofs.Leaving.{left_gone}
use Rattle.peer_connections.proofs.Linking.{others_same, others_set}
use Rattle.peer_connections.proofs.Pairing.{paired_ended, paired_set}
use Rattle.peer_connections.proofs.Seeing.{seen_ended, seen_sent}

-- whoever isn't owed octets may be told none
pub told_none : (k : ℕ) (s : StoredState) → owed_at s.station k ≡ [] → told_at s k ≡ []
told_none k s none = by_test (is_all_stored s)
  where
    by_test : (b : Bool) → (if b then owed_at s.station k else []) ≡ []
    by_test true = none
    by_test false = refl

-- a write leaves the journal as it is
pub written_journal : (call : Call) (key : ℕ) (got got' : Option (List ℕ)) (s t : StoredState)
    → SendsCall call key got got' s t → t.journal ≡ s.journal
written_journal (Passed n) key got got' s t sends = ap (λ (u : StoredState). u.journal) sends.1
written_journal Ended key got got' s t sends = absurd sends
written_journal Interrupted key got got' s t sends = ap (λ (u : StoredState). u.journal) sends.1
written_journal Waits key got got' s t sends = ap (λ (u : StoredState). u.journal) sends.1
written_journal Failed key got got' s t sends = ap (λ (u : StoredState). u.journal) sends.1

-- nor is anybody without a connection
pub sent_nobody : {S : Type 0} (k : ℕ) (s : StoredState) (links : List (Option (Link S)))
    → ArePaired links s.station.peers → get_or links k None ≡ None → IsSentTo k s links
sent_nobody k s links paired none =
    inl (told_none k s (by_peer (peer_at s.station.peers k) (sym (paired k) ∙ ap is_some none)))
  where
    by_peer : (y : Option Session) → is_some y ≡ false → owed_to y ≡ []
    by_peer None is = refl
    by_peer (Some x) is = absurd (let never : true ≡ false = is in cc)

-- nor one that has left
pub sent_left : {S : Type 0} (k : ℕ) (s t : StoredState) (links : List (Option (Link S)))
    → t ≡ with_station (without_peer k s.station) s → IsSentTo k t links
sent_left k s t links left =
    inl (told_none k t
    (ap (λ (u : StoredState). owed_at u.station k) left ∙ ap owed_to (left_gone k s.station)))

-- a connection that has stopped
pub set_there : {L : Type 0} (k : ℕ) (links : List (Option L)) (old link : L)
    → get_or links k None ≡ Some old → get_or (set links k (Some link)) k None ≡ Some link
set_there k [] old link is = absurd (let never : None ≡ Some old = is in cc)
set_there zero (y ∷ links) old link is = refl
set_there (suc k) (y ∷ links) old link is = set_there k links old link is

pub sent_link : {S : Type 0} (k : ℕ) (s : StoredState) (links : List (Option (Link S)))
    (old link : Link S) → get_or links k None ≡ Some old
    → (told_at s k ≡ []) ⊎ HasStopped link → IsSentTo k s (set links k (Some link))
sent_link k s links old link is (inl none) = inl none
sent_link {S = S} k s links old link is (inr stopped) =
    inr (subst (λ (l : Option (Link S)). StopsAt l) (sym (set_there k links old link is)) stopped)

-- .. has still, where something else of it is changed
pub stays_sent : {S : Type 0} (k : ℕ) (s t : StoredState) (links : List (Option (Link S)))
    (old link : Link S) → get_or links k None ≡ Some old → t ≡ s
    → link.is_full ≡ old.is_full → link.is_unsent ≡ old.is_unsent
    → link.channel ≡ old.channel → IsSentTo k s links → IsSentTo k t (set links k (Some link))
stays_sent k s t links old link is same full unsent channel (inl none) =
    inl (ap (λ (u : StoredState). told_at u k) same ∙ none)
stays_sent {S = S} k s t links old link is same full unsent channel (inr stops) =
    inr (subst (λ (l : Option (Link S)). StopsAt l) (sym (set_there k links old link is))
    (still (subst (λ (l : Option (Link S)). StopsAt l) is stops)))
  where
    still : HasStopped old → HasStopped link
    still (inl is_full) = inl (full ∙ is_full)
    still (inr (inl is_unsent)) = inr (inl (unsent ∙ is_unsent))
    still (inr (inr failed)) = inr (inr (channel ∙ failed))

-- nothing is changed
pub sent_same : {S : Type 0} (k : ℕ) (s t : StoredState) (links links' : List (Option (Link S)))
    → t ≡ s → links' ≡ links → IsSentTo k s links → IsSentTo k t links'
sent_same k s t links links' same kept (inl none) =
    inl (ap (λ (u : StoredState). told_at u k) same ∙ none)
sent_same {S = S} k s t links links' same kept (inr stops) =
    inr (subst (λ (l : List (Option (Link S))). StopsAt (get_or l k None)) (sym kept) stops)

pub ruleset sent_to = (
  others_same,
  others_set,
  paired_set,
  paired_ended,
  seen_ended,
  seen_sent,
  sent_nobody,
  sent_left,
  sent_link,
  stays_sent,
  sent_same,
)
