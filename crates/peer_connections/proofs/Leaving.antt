-- A peer that leaves is gone, and nobody comes in its place.
use Rattle.std.proofs.Common.{◌≡◌, ◌≢◌, ℕ, ◌+◌, ◌<◌, ◌==◌, Bool, true, false, List, Option, Some}
use Rattle.std.proofs.Common.{None, refl, ap, ◌∙◌, arith}
use Rattle.std.proofs.lemmas.Bool.Decides.{nat_tests}
use Rattle.std.specs.Prelude.{◌≤◌, is_none, if◌then◌else◌, nat_lt, option_map}
use Rattle.station.specs.declared.sizes.TheConstants.{PEERS}
use Rattle.station.specs.Moves.{StationState, finish_at, free, rows_since, with_end}
use Rattle.station.specs.Moves.{with_turn, without_peer}
use Rattle.station.specs.Peers.{tell_rows, peer_at, with_notices}
use Rattle.station.specs.Sessions.{Session, Turn, finish}
use Rattle.station.proofs.Peers.{peer_at-map, peer_at-other, peer_at-same}

freed_gone : (k : ℕ) (s : StationState) → peer_at (free k (peer_at s.peers k) s).peers k ≡ None
freed_gone k s = by_peer (peer_at s.peers k) refl
  where
    by_peer : (o : Option Session) → peer_at s.peers k ≡ o → peer_at (free k o s).peers k ≡ None
    by_peer None is = is
    by_peer (Some x) is = peer_at-same k None s.peers

pub left_gone : (k : ℕ) (s : StationState) → peer_at (without_peer k s).peers k ≡ None
left_gone k s = freed_gone k (with_end k s)

freed_other : (k j : ℕ) (o : Option Session) (s : StationState) → j ≢ k
    → peer_at s.peers j ≡ None → peer_at (free k o s).peers j ≡ None
freed_other k j None s other none = none
freed_other k j (Some x) s other none = peer_at-other k j None s.peers other ∙ none

turn_other : (k j : ℕ) (t : Turn) (s : StationState) → j ≢ k → peer_at s.peers j ≡ None
    → peer_at (with_turn k t s).peers j ≡ None
turn_other k j t s other none =
    let rows = rows_since s.book t.book in
    peer_at-other k j (Some t.session) (with_notices rows s.peers) other
    ∙ peer_at-map (option_map (tell_rows rows)) j s.peers refl
    ∙ ap (option_map (tell_rows rows)) none

end_other : (k j : ℕ) (o : Option Session) (s : StationState) → j ≢ k
    → peer_at s.peers j ≡ None → peer_at (finish_at k o s).peers j ≡ None
end_other k j None s other none = none
end_other k j (Some x) s other none = by_test (is_none x.end)
  where
    by_test : (b : Bool)
        → peer_at (if b then with_turn k (finish (record { book = s.book; session = x })) s
        else s).peers j ≡ None
    by_test true =
        turn_other k j (finish (record { book = s.book; session = x })) s other none
    by_test false = none

-- where nobody was, nobody is
pub left_other : (k j : ℕ) (s : StationState) → j ≢ k → peer_at s.peers j ≡ None
    → peer_at (without_peer k s).peers j ≡ None
left_other k j s other none =
    freed_other k j (peer_at (with_end k s).peers k) (with_end k s) other
    (end_other k j (peer_at s.peers k) s other none)

-- one key more of which nobody is left
pub left_up_to : (key : ℕ) (s t : StationState) → t ≡ without_peer key s
    → ((k : ℕ) → k < key → peer_at s.peers k ≡ None) → (k : ℕ) → k < key + 1
    → peer_at t.peers k ≡ None
left_up_to key s t left gone k less =
    ap (λ (u : StationState). peer_at u.peers k) left ∙ by_test (k == key) refl
  where
    by_test : (b : Bool) → (k == key) ≡ b → peer_at (without_peer key s).peers k ≡ None
    by_test true at =
        ap (λ (n : ℕ). peer_at (without_peer key s).peers n) (grind (arith, nat_tests))
        ∙ left_gone key s
    by_test false at =
        let other : k ≢ key = grind (arith, nat_tests) in
        left_other key k s other (gone k (grind (arith, nat_tests)))

-- nobody has a key that is given, and no other is
pub nobody_left : (peers : List (Option Session))
    → ((k : ℕ) → k < PEERS → peer_at peers k ≡ None)
    → ((k : ℕ) → PEERS ≤ k → peer_at peers k ≡ None) → (k : ℕ) → peer_at peers k ≡ None
nobody_left peers below above k = by_test (nat_lt k PEERS) refl
  where
    by_test : (b : Bool) → nat_lt k PEERS ≡ b → peer_at peers k ≡ None
    by_test true is = below k (grind (arith, nat_tests))
    by_test false is = above k (grind (arith, nat_tests))
