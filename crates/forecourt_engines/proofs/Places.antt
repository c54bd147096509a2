-- Words by their places in a line.
use Rattle.std.proofs.Common.{◌≡◌, ℕ, zero, suc, ◌+◌, ◌<◌, ◌==◌, List, [], ◌∷◌, ◌++◌, length}
use Rattle.std.proofs.Common.{refl, ap, ◌∙◌, arith, append-nil, false, slice_get, Option}
use Rattle.std.proofs.Common.{Some, None}
use Rattle.std.specs.Prelude.{IfNone}
use Rattle.std.proofs.lemmas.Bool.{ne_eqb}
use Rattle.forecourt_engines.specs.LineWords.{before_comma, behind_comma, line_words, words_in}
use Rattle.forecourt_engines.specs.Numbers.{IsWithout}

-- the elements of two lists, one behind the other
pub in_front : {A : Type 0} (xs ys : List A) (n : ℕ) → n < length xs
    → slice_get (xs ++ ys) n ≡ slice_get xs n
in_front [] ys n low = absurd (omega (arith, low))
in_front (x ∷ xs) ys zero low = refl
in_front (x ∷ xs) ys (suc n) low = in_front xs ys n (omega arith)

pub in_back : {A : Type 0} (xs ys : List A) (n k : ℕ) → n ≡ length xs + k
    → slice_get (xs ++ ys) n ≡ slice_get ys k
in_back [] ys n k is = let same : n ≡ k = omega (arith, is) in ap (slice_get ys) same
in_back (x ∷ xs) ys zero k is = absurd (omega (arith, is))
in_back (x ∷ xs) ys (suc n) k is = in_back xs ys n k (omega arith)

-- a line with a comma has the words before it, and those behind it
not_first : (x : ℕ) (xs : List ℕ) → IsWithout 44 (x ∷ xs) → (x == 44) ≡ false
not_first x xs none = ne_eqb x 44 (none 0 (omega arith))

parted : (front back : List ℕ) → IsWithout 44 front
    → (before_comma (front ++ (44 ∷ back)) ≡ front) × (behind_comma (front ++ (44 ∷ back)) ≡ back)
parted [] back none = (refl, refl)
parted (x ∷ front) back none =
    let rest = parted front back (λ k low. none (suc k) (omega arith)) in
    let first : (x == 44) ≡ false = not_first x front none in
    (rw first (ap (λ (t : List ℕ). x ∷ t) rest.0), rw first rest.1)

unparted : (line : List ℕ) → IsWithout 44 line
    → (before_comma line ≡ line) × (behind_comma line ≡ [])
unparted [] none = (refl, refl)
unparted (x ∷ line) none =
    let rest = unparted line (λ k low. none (suc k) (omega arith)) in
    let first : (x == 44) ≡ false = not_first x line none in
    (rw first (ap (λ (t : List ℕ). x ∷ t) rest.0), rw first rest.1)

pub words_parted : (line front back : List ℕ) → line ≡ front ++ (44 ∷ back) → IsWithout 44 front
    → line_words line ≡ words_in front ++ words_in back
words_parted line front back is none =
    let parts = parted front back none in
    ap (λ (t : List ℕ). words_in t ++ words_in (behind_comma line))
    (ap before_comma is ∙ parts.0)
    ∙ ap (λ (t : List ℕ). words_in front ++ words_in t) (ap behind_comma is ∙ parts.1)

pub words_unparted : (line : List ℕ) → IsWithout 44 line → line_words line ≡ words_in line
words_unparted line none =
    let parts = unparted line none in
    ap (λ (t : List ℕ). words_in t ++ words_in (behind_comma line)) parts.0
    ∙ ap (λ (t : List ℕ). words_in line ++ words_in t) parts.1
    ∙ append-nil (words_in line)

pub none_weaker : {A : Type 0} (o : Option A) (P Q : Type 0) → (P → Q) → IfNone o P → IfNone o Q
none_weaker None P Q weaker is = weaker is
none_weaker (Some x) P Q weaker is = tt
