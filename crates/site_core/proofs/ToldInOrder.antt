-- What is told of the numbers from 1 on, one by one.
use Rattle.std.proofs.Common.{◌≡◌, ◌+◌, ◌<◌, ◌++◌, ◌∷◌, [], List, ℕ, map, take, length, get_or, sym}
use Rattle.std.proofs.Common.{ap, ◌∙◌, arith}
use Rattle.std.proofs.Math.ListN.{set}
use Rattle.std.proofs.lemmas.List.{take_all, take_more, take_more_set}
use Rattle.std.proofs.lemmas.List.FromFn.{length-map-range_with_len, take-map-range_with_len}
use Rattle.std.proofs.lemmas.List.FromFn.{get_or-map-range_with_len}
use Rattle.std.specs.List.{range_with_len}

-- one number more
pub one_more : {X : Type 0} (f : ℕ → X) (n : ℕ)
    → map f (range_with_len 1 (n + 1)) ≡ map f (range_with_len 1 n) ++ f (n + 1) ∷ []
one_more {X} f n =
    let whole : List X = map f (range_with_len 1 (n + 1)) in
    let count : length whole ≡ n + 1 = length-map-range_with_len f 1 (n + 1) in
    sym (take_all (n + 1) whole (omega (arith, count)))
    ∙ take_more whole n (f (n + 1)) (omega (arith, count))
    ∙ ap (λ (xs : List X). xs ++ get_or whole n (f (n + 1)) ∷ [])
    (take-map-range_with_len f 1 (n + 1) n (omega arith))
    ∙ ap (λ (x : X). map f (range_with_len 1 n) ++ x ∷ [])
    (get_or-map-range_with_len f 1 (n + 1) n (n + 1) (f (n + 1)) (omega arith) (omega arith))

-- the same in an array, in which the cells up to one are filled
pub filled : {X : Type 0} (f : ℕ → X) (xs : List X) (n : ℕ) (x : X) → n < length xs → x ≡ f (n + 1)
    → take n xs ≡ map f (range_with_len 1 n)
    → take (n + 1) (set xs n x) ≡ map f (range_with_len 1 (n + 1))
filled {X} f xs n x within is told =
    take_more_set xs n x within
    ∙ ap (λ (ys : List X). ys ++ x ∷ []) told
    ∙ ap (λ (y : X). map f (range_with_len 1 n) ++ y ∷ []) is
    ∙ sym (one_more f n)
