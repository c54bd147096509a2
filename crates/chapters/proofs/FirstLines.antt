-- The lines that a text begins with.
use Rattle.std.proofs.Common.{◌≡◌, ℕ, Bool, true, false, List, [], ◌∷◌, ◌++◌, length, drop, take}
use Rattle.std.proofs.Common.{refl}
use Rattle.std.proofs.lemmas.Bool.{eq-eqb, eqb-true}
use Rattle.std.proofs.Common.{arith, eqb, sym, ap, ◌∙◌, ◌≤◌}
use Rattle.std.specs.Prelude.{◌&&◌}
use Rattle.std.specs.List.{starts_with}
use Rattle.std.proofs.lemmas.Grind.{flat_map-append}
use Rattle.chapters.specs.declared.fault.HistoryFault.TheVariants.{Line}
use Rattle.chapters.specs.ChapterText.{text_of_lines}
use Rattle.chapters.specs.Readers.{begins_so, first_fault, third_fault}

pub texts_both : (a b : List (List ℕ)) → text_of_lines (a ++ b) ≡ text_of_lines a ++ text_of_lines b
texts_both a b = flat_map-append (λ line. line ++ 10 ∷ []) a b

-- octets that don't begin with a front don't begin with a longer one
pub begins_less : (text a b : List ℕ) → starts_with (λ x y. eqb x y) text a ≡ false
    → starts_with (λ x y. eqb x y) text (a ++ b) ≡ false
begins_less text [] b none = absurd cc
begins_less [] (x ∷ a) b none = refl
begins_less (y ∷ text) (x ∷ a) b none = by_first (eqb x y) none (begins_less text a b)
  where
    by_first : (t : Bool) → (t && starts_with (λ x y. eqb x y) text a) ≡ false
        → (starts_with (λ x y. eqb x y) text a ≡ false
        → starts_with (λ x y. eqb x y) text (a ++ b) ≡ false)
        → (t && starts_with (λ x y. eqb x y) text (a ++ b)) ≡ false
    by_first true none longer = longer none
    by_first false none longer = refl

pub begins_itself : (a b : List ℕ) → starts_with (λ x y. eqb x y) (a ++ b) a ≡ true
begins_itself [] b = refl
begins_itself (x ∷ a) b = rw (eq-eqb x x refl) (begins_itself a b)

-- a front is no longer
pub begins_within : (text a : List ℕ) → starts_with (λ x y. eqb x y) text a ≡ true
    → length a ≤ length text
begins_within text [] is = omega arith
begins_within [] (x ∷ a) is = absurd cc
begins_within (y ∷ text) (x ∷ a) is = by_first (eqb x y) is (begins_within text a)
  where
    by_first : (t : Bool) → (t && starts_with (λ x y. eqb x y) text a) ≡ true
        → (starts_with (λ x y. eqb x y) text a ≡ true → length a ≤ length text)
        → length (x ∷ a) ≤ length (y ∷ text)
    by_first true is less = let short = less is in omega (arith, short)
    by_first false is less = absurd cc

-- what begins with a front is the front, and the rest
pub begins_parts : (text a : List ℕ) → starts_with (λ x y. eqb x y) text a ≡ true
    → text ≡ a ++ drop (length a) text
begins_parts text [] is = refl
begins_parts [] (x ∷ a) is = absurd cc
begins_parts (y ∷ text) (x ∷ a) is = by_first (eqb x y) refl is (begins_parts text a)
  where
    by_first : (t : Bool) → eqb x y ≡ t → (t && starts_with (λ x y. eqb x y) text a) ≡ true
        → (starts_with (λ x y. eqb x y) text a ≡ true → text ≡ a ++ drop (length a) text)
        → y ∷ text ≡ x ∷ (a ++ drop (length a) text)
    by_first true same is rest =
        ap (λ (z : ℕ). z ∷ text) (sym (eqb-true x y same))
        ∙ ap (λ (xs : List ℕ). x ∷ xs) (rest is)
    by_first false same is rest = absurd cc

-- ---- lines that are put one behind another

pub one_put : (empty text line : List ℕ) → empty ≡ []
    → text ≡ empty ++ text_of_lines (line ∷ []) → text ≡ text_of_lines (line ∷ [])
one_put empty text line none put =
    put ∙ ap (λ (xs : List ℕ). xs ++ text_of_lines (line ∷ [])) none

pub more_put : (old text line : List ℕ) (lines : List (List ℕ)) → old ≡ text_of_lines lines
    → text ≡ old ++ text_of_lines (line ∷ []) → text ≡ text_of_lines (lines ++ line ∷ [])
more_put old text line lines before put =
    put ∙ ap (λ (xs : List ℕ). xs ++ text_of_lines (line ∷ [])) before
    ∙ sym (texts_both lines (line ∷ []))

pub begun : (text front : List ℕ) (lines : List (List ℕ)) (t : Bool) → front ≡ text_of_lines lines
    → starts_with (λ x y. eqb x y) text front ≡ t → begins_so text lines ≡ t
begun text front lines t is starts =
    ap (λ (xs : List ℕ). starts_with (λ x y. eqb x y) text xs) (sym is) ∙ starts

pub not_begun : (text : List ℕ) (lines more : List (List ℕ)) → begins_so text lines ≡ false
    → begins_so text (lines ++ more) ≡ false
not_begun text lines more none =
    ap (λ (xs : List ℕ). starts_with (λ x y. eqb x y) text xs) (texts_both lines more)
    ∙ begins_less text (text_of_lines lines) (text_of_lines more) none

-- ---- faults

pub second_fault : (n : ℕ) (lines : List (List ℕ)) (text : List ℕ)
    → begins_so text (take 1 lines) ≡ true → begins_so text (take 2 lines) ≡ false
    → Line n 2 ≡ first_fault n lines text
second_fault n lines text one two = rw (one, two) refl

pub last_fault : (n : ℕ) (lines : List (List ℕ)) (text : List ℕ)
    → begins_so text (take 1 lines) ≡ true → begins_so text (take 2 lines) ≡ true
    → third_fault n ≡ first_fault n lines text
last_fault n lines text one two = rw (one, two) refl
