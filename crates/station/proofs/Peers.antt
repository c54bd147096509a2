-- The peers of a station as a list.
use Rattle.std.proofs.Common.{◌≡◌, ◌≢◌, ℕ, zero, suc, ◌==◌, Bool, true, false, List, []}
use Rattle.std.proofs.Common.{◌∷◌, ◌<◌, map, length, Option, None, refl, ap, arith, sym, subst, ◌∙◌}
use Rattle.std.proofs.lemmas.Bool.{eq-eqb}
use Rattle.device_map.proofs.Results.{equal}
use Rattle.station.specs.Peers.{peer_at, with_peer}
use Rattle.station.specs.Sessions.{Session}

pub other_key : (j k : ℕ) → (j == k) ≡ false → k ≢ j
other_key j k is same =
    absurd (let true_is : (j == k) ≡ true = ap (λ n. j == n) same ∙ eq-eqb j j refl in
    let no : true ≡ false = sym true_is ∙ is in cc)

pub peer_at-same : (k : ℕ) (x : Option Session) (peers : List (Option Session))
    → peer_at (with_peer k x peers) k ≡ x
peer_at-same zero x [] = refl
peer_at-same zero x (p ∷ peers) = refl
peer_at-same (suc k) x [] = peer_at-same k x []
peer_at-same (suc k) x (p ∷ peers) = peer_at-same k x peers

pub peer_at-other : (k j : ℕ) (x : Option Session) (peers : List (Option Session)) → j ≢ k
    → peer_at (with_peer k x peers) j ≡ peer_at peers j
peer_at-other zero zero x peers other = absurd (other refl)
peer_at-other zero (suc j) x [] other = refl
peer_at-other zero (suc j) x (p ∷ peers) other = refl
peer_at-other (suc k) zero x [] other = refl
peer_at-other (suc k) zero x (p ∷ peers) other = refl
peer_at-other (suc k) (suc j) x [] other = peer_at-other k j x [] (λ is. other (ap suc is))
peer_at-other (suc k) (suc j) x (p ∷ peers) other =
    peer_at-other k j x peers (λ is. other (ap suc is))

-- .. so each slot is the one of the key, or as it was
pub at_slot : (R : Option Session → Type 0) (k j : ℕ) (y : Option Session)
    (peers : List (Option Session)) → (k ≡ j → R y) → (j ≢ k → R (peer_at peers j))
    → R (peer_at (with_peer k y peers) j)
at_slot R k j y peers same other = by_key (k == j) refl
  where
    by_key : (b : Bool) → (k == j) ≡ b → R (peer_at (with_peer k y peers) j)
    by_key true is =
        subst (λ i. R (peer_at (with_peer k y peers) i)) (equal k j is)
        (subst R (sym (peer_at-same k y peers)) (same (equal k j is)))
    by_key false is =
        let apart = other_key k j is in
        subst R (sym (peer_at-other k j y peers apart)) (other apart)

pub with_peer-twice : (k : ℕ) (x y : Option Session) (peers : List (Option Session))
    → with_peer k x (with_peer k y peers) ≡ with_peer k x peers
with_peer-twice zero x y [] = refl
with_peer-twice zero x y (p ∷ peers) = refl
with_peer-twice (suc k) x y [] = ap (λ ps. None ∷ ps) (with_peer-twice k x y [])
with_peer-twice (suc k) x y (p ∷ peers) = ap (λ ps. p ∷ ps) (with_peer-twice k x y peers)

-- a change of each peer, where none stays none
pub map-with_peer : (f : Option Session → Option Session) (k : ℕ) (x : Option Session)
    (peers : List (Option Session)) → f None ≡ None
    → map f (with_peer k x peers) ≡ with_peer k (f x) (map f peers)
map-with_peer f zero x [] none = refl
map-with_peer f zero x (p ∷ peers) none = refl
map-with_peer f (suc k) x [] none = rw none (ap (λ ps. None ∷ ps) (map-with_peer f k x [] none))
map-with_peer f (suc k) x (p ∷ peers) none =
    ap (λ ps. f p ∷ ps) (map-with_peer f k x peers none)

pub peer_at-map : (f : Option Session → Option Session) (k : ℕ) (peers : List (Option Session))
    → f None ≡ None → peer_at (map f peers) k ≡ f (peer_at peers k)
peer_at-map f k [] none = sym none
peer_at-map f zero (p ∷ peers) none = refl
peer_at-map f (suc k) (p ∷ peers) none = peer_at-map f k peers none

pub slots_size : (k : ℕ) (x : Option Session) (peers : List (Option Session)) → k < length peers
    → length (with_peer k x peers) ≡ length peers
slots_size k x [] within = absurd (omega (arith, within))
slots_size zero x (p ∷ peers) within = refl
slots_size (suc k) x (p ∷ peers) within = ap suc (slots_size k x peers (omega (arith, within)))

pub map_size : (f : Option Session → Option Session) (peers : List (Option Session))
    → length (map f peers) ≡ length peers
map_size f [] = refl
map_size f (p ∷ peers) = ap suc (map_size f peers)
