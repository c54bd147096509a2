-- Where the row of a point stands among rows of which no number stands twice.
use Rattle.std.proofs.Common.{◌≡◌, ℕ, zero, suc, ◌<◌, ◌==◌, not, Bool, true, false, List, [], ◌∷◌}
use Rattle.std.proofs.Common.{length, get_or, refl, sym, ap, ◌∙◌, arith}
use Rattle.std.proofs.lemmas.Bool.{and_parts, false≢true}
use Rattle.std.proofs.lemmas.Bool.Decides.{nat_tests}
use Rattle.std.specs.List.{list_any}
use Rattle.std.specs.Prelude.{nat_eq}
use Rattle.site_base.specs.Configured.{none_alike}
use Rattle.site_base.specs.Table.{IsPlace}
use Rattle.fuelling_point.specs.KeptPoints.{Facts}
use Rattle.written_site.specs.Sound.{numbers_of}

-- the row of point p stands first, or one further on than in the rest
here : (x : ℕ × Facts) (xs : List (ℕ × Facts)) (p : ℕ) → x.0 ≡ p → IsPlace (λ n. n) p (x ∷ xs) 0
here x xs p is =
    let at : (x.0 == p) ≡ true = grind (arith, nat_tests) in
    record {
      within = omega arith;
      same = λ d. is;
      row = λ d. rw at refl;
      write = λ v d. rw at refl;
    }

later : (x : ℕ × Facts) (xs : List (ℕ × Facts)) (p i : ℕ) → (x.0 == p) ≡ false
    → IsPlace (λ n. n) p xs i → IsPlace (λ n. n) p (x ∷ xs) (suc i)
later x xs p i at behind = record {
  within = let within : i < length xs = behind.within in omega arith;
  same = behind.same;
  row = λ d. rw at (behind.row d);
  write = λ v d. rw at (ap (λ ys. x ∷ ys) (behind.write v d));
}

-- a number that a row has is among the numbers
among : (p : ℕ) (es : List (ℕ × Facts)) (i : ℕ) (d : ℕ × Facts) → i < length es
    → (get_or es i d).0 ≡ p → list_any (λ q. nat_eq p q) (numbers_of es) ≡ true
among p [] i d within is = absurd (omega (arith, within))
among p (x ∷ xs) zero d within is =
    let at : (p == x.0) ≡ true = grind (arith, nat_tests) in
    rw at refl
among p (x ∷ xs) (suc i) d within is =
    let rest : list_any (λ q. nat_eq p q) (numbers_of xs) ≡ true =
    among p xs i d (omega (arith, within)) is in
    by_test (p == x.0) refl rest
  where
    by_test : (b : Bool) → (p == x.0) ≡ b → list_any (λ q. nat_eq p q) (numbers_of xs) ≡ true
        → list_any (λ q. nat_eq p q) (numbers_of (x ∷ xs)) ≡ true
    by_test true at rest = rw at refl
    by_test false at rest = rw at rest

-- where no number stands twice, a row with the number is the number's row
pub alone_place : (p : ℕ) (es : List (ℕ × Facts)) (i : ℕ) (d : ℕ × Facts)
    → none_alike nat_eq (numbers_of es) ≡ true → i < length es → (get_or es i d).0 ≡ p
    → IsPlace (λ n. n) p es i
alone_place p [] i d alone within is = absurd (omega (arith, within))
alone_place p (x ∷ xs) zero d alone within is = here x xs p is
alone_place p (x ∷ xs) (suc i) d alone within is =
    by_test (x.0 == p) refl (alone_place p xs i d parts.1 (omega (arith, within)) is)
  where
    parts : (not (list_any (λ q. nat_eq x.0 q) (numbers_of xs)) ≡ true)
        × (none_alike nat_eq (numbers_of xs) ≡ true)
    parts = and_parts (not (list_any (λ q. nat_eq x.0 q) (numbers_of xs)))
        (none_alike nat_eq (numbers_of xs)) alone

    by_test : (b : Bool) → (x.0 == p) ≡ b → IsPlace (λ n. n) p xs i
        → IsPlace (λ n. n) p (x ∷ xs) (suc i)
    by_test true at behind =
        let same : x.0 ≡ p = grind (arith, nat_tests) in
        let twice : list_any (λ q. nat_eq x.0 q) (numbers_of xs) ≡ true =
        among x.0 xs i d (omega (arith, within)) (is ∙ sym same) in
        let no : not true ≡ true = sym (ap not twice) ∙ parts.0 in
        absurd (false≢true no)
    by_test false at behind = later x xs p i at behind
