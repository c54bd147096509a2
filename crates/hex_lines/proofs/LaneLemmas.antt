-- Sixteen octets side by side.
use Rattle.std.proofs.Common.{◌≡◌, ℕ, zero, suc, ◌%◌, ◌^◌, ◌<◌, ◌==◌, Bool, true, false}
use Rattle.std.proofs.Common.{◌&&◌, cond, List, [], ◌∷◌, length, map, refl, ap, ap₂, ◌∙◌}
use Rattle.std.proofs.Common.{Fits, w8, arith, inl, inr}
use Rattle.std.specs.Bool.{beq}
use Rattle.std.proofs.lemmas.Bool.{and_parts, cases_lt, eqb-true}
use Rattle.std.proofs.lemmas.List.{length-map}
use Rattle.std.proofs.lemmas.Simd.{map-map, mask_l-mod}
use lib.Lanes.{Each1, sel_l, mask_l, top}

-- a test of all numbers below n
abbrev pub all_below : (ℕ → Bool) → ℕ → Bool
all_below test zero = true
all_below test (suc n) = test n && all_below test n

pub at_below : (test : ℕ → Bool) (n k : ℕ) → all_below test n ≡ true → k < n → test k ≡ true
at_below test zero k all lt = absurd (omega arith)
at_below test (suc n) k all lt =
    let parts = and_parts (test n) (all_below test n) all in
    elim (cases_lt k n) [
      | inl below ↦ at_below test n k parts.1 below
      | inr top ↦
          let e : k ≡ n = omega arith in
          rw e parts.0
    ]

beq-true : (a b : Bool) → beq a b ≡ true → a ≡ b
beq-true true true e = refl
beq-true false false e = refl
beq-true true false e = cc
beq-true false true e = cc

-- two functions of octets that agree at each of them
pub numbers_agree : (f g : ℕ → ℕ) (v : List ℕ) → Each1 (Fits w8) v
    → all_below (λ c. f c == g c) 256 ≡ true → map f v ≡ map g v
numbers_agree f g [] fit all = refl
numbers_agree f g (c ∷ v) fit all =
    ap₂ (λ x xs. x ∷ xs) (eqb-true (f c) (g c) (at_below (λ c. f c == g c) 256 c all fit.0.fits))
    (numbers_agree f g v fit.1 all)

pub tests_agree : (f g : ℕ → Bool) (v : List ℕ) → Each1 (Fits w8) v
    → all_below (λ c. beq (f c) (g c)) 256 ≡ true → map f v ≡ map g v
tests_agree f g [] fit all = refl
tests_agree f g (c ∷ v) fit all =
    ap₂ (λ x xs. x ∷ xs)
    (beq-true (f c) (g c) (at_below (λ c. beq (f c) (g c)) 256 c all fit.0.fits))
    (tests_agree f g v fit.1 all)

-- a choice lane by lane
chosen : (m n l : ℕ → ℕ) (v : List ℕ)
    → sel_l (map (top 7) (map m v)) (map n v) (map l v)
    ≡ map (λ c. cond (top 7 (m c)) (n c) (l c)) v
chosen m n l [] = refl
chosen m n l (c ∷ v) = ap (λ xs. cond (top 7 (m c)) (n c) (l c) ∷ xs) (chosen m n l v)

pub selected : (m n l : ℕ → ℕ) (v : List ℕ) {ms ns ls : List ℕ} → ms ≡ map m v → ns ≡ map n v
    → ls ≡ map l v → sel_l (map (top 7) ms) ns ls ≡ map (λ c. cond (top 7 (m c)) (n c) (l c)) v
selected m n l v {ms} {ns} {ls} p q r =
    ap (λ (xs : List ℕ). sel_l (map (top 7) xs) ns ls) p
    ∙ ap₂ (λ xs ys. sel_l (map (top 7) (map m v)) xs ys) q r
    ∙ chosen m n l v

-- the mask of a test lane by lane
pub masked : (o : ℕ → ℕ) (test : ℕ → Bool) (v : List ℕ) {zs : List ℕ} → length v ≡ 16
    → Each1 (Fits w8) v → zs ≡ map o v
    → all_below (λ c. beq (top 7 (o c)) (test c)) 256 ≡ true
    → mask_l (map (top 7) zs) % 2 ^ 64 ≡ mask_l (map test v)
masked o test v {zs} long fit is all =
    ap (λ (xs : List ℕ). mask_l (map (top 7) xs) % 2 ^ 64) is
    ∙ ap (λ (xs : List Bool). mask_l xs % 2 ^ 64)
    (map-map (top 7) o v ∙ tests_agree (λ c. top 7 (o c)) test v fit all)
    ∙ mask_l-mod (map test v) 64 (omega (arith, length-map v test, long))
