-- Words between spaces.
use Rattle.std.proofs.Common.{◌≡◌, ◌≢◌, ℕ, zero, suc, ◌<◌, ◌≤◌, List, [], ◌∷◌, length, take}
use Rattle.std.proofs.Common.{drop, refl, sym, ap, ◌∙◌, arith, true, false, get_or}
use Rattle.forecourt_engines.specs.LineWords.{BeginsNoSpace, begun_by, is_comment}
use Rattle.forecourt_engines.specs.LineWords.{is_space, lengthen_first}
use Rattle.forecourt_engines.specs.LineWords.{words_in}

-- the first octets are spaces
abbrev pub AreSpaces : ℕ → List ℕ → Type 0
AreSpaces n text = (k : ℕ) → k < n → is_space (get_or text k 0) ≡ true

-- the first octets are none
abbrev pub AreNoSpaces : ℕ → List ℕ → Type 0
AreNoSpaces n text = (k : ℕ) → k < n → is_space (get_or text k 0) ≡ false

pub skipped : (n : ℕ) (text : List ℕ) → n ≤ length text → AreSpaces n text
    → words_in (drop n text) ≡ words_in text
skipped zero text few spaces = refl
skipped (suc n) [] few spaces = absurd (omega (arith, few))
skipped (suc n) (x ∷ text) few spaces =
    let first : is_space x ≡ true = spaces 0 (omega arith) in
    skipped n text (omega arith) (λ k low. spaces (suc k) (omega arith))
    ∙ (rw first refl)

-- so many octets without a space, then a space or the end
pub first_word : (n : ℕ) (text : List ℕ) → suc n ≤ length text → AreNoSpaces (suc n) text
    → (suc n < length text → is_space (get_or text (suc n) 0) ≡ true)
    → words_in text ≡ take (suc n) text ∷ words_in (drop (suc n) text)
first_word zero [] few none ends = absurd (omega (arith, few))
first_word zero (x ∷ []) few none ends = rw (none 0 (omega arith)) refl
first_word zero (x ∷ y ∷ text) few none ends =
    let next : is_space y ≡ true = ends (omega arith) in
    rw (none 0 (omega arith), next) refl
first_word (suc n) [] few none ends = absurd (omega (arith, few))
first_word (suc n) (x ∷ []) few none ends = absurd (omega (arith, few))
first_word (suc n) (x ∷ y ∷ text) few none ends =
    let first : is_space x ≡ false = none 0 (omega arith) in
    let next : is_space y ≡ false = none 1 (omega arith) in
    let rest =
    first_word n (y ∷ text) (omega arith) (λ k low. none (suc k) (omega arith))
    (λ more. ends (omega arith)) in
    let begun : words_in (y ∷ text) ≡ begun_by y text (words_in text) = rw next refl in
    rw (first, next) (ap (lengthen_first x) (sym begun ∙ rest))

-- nothing but spaces has no word
pub all_skipped : (text : List ℕ) → AreSpaces (length text) text → [] ≡ words_in text
all_skipped [] spaces = refl
all_skipped (x ∷ text) spaces =
    let first : is_space x ≡ true = spaces 0 (omega arith) in
    rw first (all_skipped text (λ k low. spaces (suc k) (omega arith)))

-- a word that ends with the first space
pub split_there : (text : List ℕ) (at : ℕ) → at < length text → AreNoSpaces at text
    → BeginsNoSpace text → is_space (get_or text at 0) ≡ true
    → words_in text ≡ take at text ∷ words_in (drop at text)
split_there [] at within none begins ends = absurd (omega (arith, within))
split_there (x ∷ text) zero within none begins ends =
    let clash : false ≡ true = sym begins ∙ ends in cc
split_there (x ∷ text) (suc n) within none begins ends =
    first_word n (x ∷ text) (omega (arith, within)) none (λ more. ends)

-- a word that goes on to the end
pub all_word : (text : List ℕ) → text ≢ [] → AreNoSpaces (length text) text
    → words_in text ≡ text ∷ []
all_word [] some none = absurd (some refl)
all_word (x ∷ []) some none = rw (none 0 (omega arith)) refl
all_word (x ∷ y ∷ text) some none =
    let first : is_space x ≡ false = none 0 (omega arith) in
    let next : is_space y ≡ false = none 1 (omega arith) in
    let rest = all_word (y ∷ text) (λ e. cc) (λ k low. none (suc k) (omega arith)) in
    let begun : words_in (y ∷ text) ≡ begun_by y text (words_in text) = rw next refl in
    rw (first, next) (ap (lengthen_first x) (sym begun ∙ rest))

-- spaces in front make no comment, and take none away
pub comment_skipped : (n : ℕ) (text : List ℕ) → n ≤ length text → AreSpaces n text
    → is_comment (drop n text) ≡ is_comment text
comment_skipped zero text few spaces = refl
comment_skipped (suc n) [] few spaces = absurd (omega (arith, few))
comment_skipped (suc n) (x ∷ text) few spaces =
    let first : is_space x ≡ true = spaces 0 (omega arith) in
    comment_skipped n text (omega arith) (λ k low. spaces (suc k) (omega arith))
    ∙ (rw first refl)

pub all_comment : (text : List ℕ) → AreSpaces (length text) text → true ≡ is_comment text
all_comment [] spaces = refl
all_comment (x ∷ text) spaces =
    let first : is_space x ≡ true = spaces 0 (omega arith) in
    rw first (all_comment text (λ k low. spaces (suc k) (omega arith)))
