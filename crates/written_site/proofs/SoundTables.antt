-- Rows found by a number, once one of them is replaced.
use Rattle.std.proofs.Common.{◌≡◌, ℕ, ◌==◌, Bool, true, false, List, [], ◌∷◌, Option, Some, None}
use Rattle.std.proofs.Common.{is_some, refl, sym, ap, ◌∙◌, arith}
use Rattle.std.proofs.lemmas.Bool.Decides.{nat_tests}
use Rattle.std.proofs.lemmas.Bool.{false≢true}
use Rattle.site_base.specs.Table.{row_of, with_row}
use Rattle.site_base.proofs.Places.{with_row_by-absent}
use Rattle.fuelling_point.specs.declared.event.PointEvent.{PointEvent}
use Rattle.fuelling_point.specs.KeptPoints.{Facts}
use Rattle.fuelling_point.specs.Step.{after}
use Rattle.written_site.specs.SiteState.{facts_in}
use Rattle.written_site.specs.SiteStep.{with_event}
use Rattle.written_site.specs.Sound.{numbers_of}

pub same : (n m : ℕ) → (n == m) ≡ true → n ≡ m
same n m is = grind (arith, nat_tests)

pub turned : (n m : ℕ) → (n == m) ≡ (m == n)
turned n m = grind (arith, nat_tests)

pub itself : (n : ℕ) → (n == n) ≡ true
itself n = grind (arith, nat_tests)

pub told_once : {A : Type 0} (a b : A) → Some a ≡ Some b → a ≡ b
told_once a b is = cc

-- the row that was written
pub row_of-same : {V : Type 0} (p : ℕ) (new old : V) (es : List (ℕ × V)) → row_of p es ≡ Some old
    → row_of p (with_row p new es) ≡ Some new
row_of-same p new old [] is = cc
row_of-same p new old (e ∷ es) is = by_test (e.0 == p) refl (row_of-same p new old es)
  where
    by_test : (b : Bool) → (e.0 == p) ≡ b
        → (row_of p es ≡ Some old → row_of p (with_row p new es) ≡ Some new)
        → row_of p (with_row p new (e ∷ es)) ≡ Some new
    by_test true at behind = rw (at, at) refl
    by_test false at behind =
        let later : row_of p (e ∷ es) ≡ row_of p es = rw at refl in
        rw (at, at) (behind (sym later ∙ is))

-- a row that wasn't
pub row_of-other : {V : Type 0} (p q : ℕ) (new : V) (es : List (ℕ × V)) → (q == p) ≡ false
    → row_of q (with_row p new es) ≡ row_of q es
row_of-other p q new [] other = refl
row_of-other p q new (e ∷ es) other = by_test (e.0 == p) refl (row_of-other p q new es other)
  where
    apart : (e.0 == p) ≡ true → (e.0 == q) ≡ false
    apart at = grind (arith, nat_tests)

    by_test : (b : Bool) → (e.0 == p) ≡ b → row_of q (with_row p new es) ≡ row_of q es
        → row_of q (with_row p new (e ∷ es)) ≡ row_of q (e ∷ es)
    by_test true at rest = rw (at, apart at) refl
    by_test false at rest = rw (at, rest) refl

-- without a row, none is written
pub row_of-absent : {V : Type 0} (p : ℕ) (new : V) (es : List (ℕ × V)) → row_of p es ≡ None
    → with_row p new es ≡ es
row_of-absent p new es none = with_row_by-absent (λ n. n) p new es (ap is_some none)

-- the numbers stay
pub numbers_kept : (p : ℕ) (new : Facts) (es : List (ℕ × Facts))
    → numbers_of (with_row p new es) ≡ numbers_of es
numbers_kept p new [] = refl
numbers_kept p new (e ∷ es) = by_test (e.0 == p) refl (numbers_kept p new es)
  where
    by_test : (b : Bool) → (e.0 == p) ≡ b → numbers_of (with_row p new es) ≡ numbers_of es
        → numbers_of (with_row p new (e ∷ es)) ≡ numbers_of (e ∷ es)
    by_test true at rest = rw at refl
    by_test false at rest = rw at (ap (λ (ns : List ℕ). e.0 ∷ ns) rest)

-- the facts of a row
pub facts_there : (points : List (ℕ × Facts)) (p : ℕ) (f : Facts) → row_of p points ≡ Some f
    → facts_in points p ≡ f
facts_there points p f is = rw is refl

pub row_there : (points : List (ℕ × Facts)) (p : ℕ) → is_some (row_of p points) ≡ true
    → row_of p points ≡ Some (facts_in points p)
row_there points p there = by_row (row_of p points) refl there
  where
    by_row : (o : Option Facts) → row_of p points ≡ o → is_some o ≡ true
        → row_of p points ≡ Some (facts_in points p)
    by_row None is there = cc
    by_row (Some f) is there = is ∙ ap (λ (g : Facts). Some g) (sym (facts_there points p f is))

-- What a row is after an event: as it was, where the event isn't its point's own; else what the
-- point makes of the event.
pub data RowAfter (points : List (ℕ × Facts)) (own : Option (ℕ × PointEvent)) (q : ℕ)
    (f : Facts) : Type 0 where
  kept : row_of q points ≡ Some f → ((event : PointEvent) → own ≡ Some (q, event) → ⊥)
      → RowAfter points own q f
  done : (event : PointEvent) (old : Facts) → own ≡ Some (q, event) → row_of q points ≡ Some old
      → f ≡ after event old → RowAfter points own q f

pub row_after : (points : List (ℕ × Facts)) (own : Option (ℕ × PointEvent)) (q : ℕ) (f : Facts)
    → row_of q (with_event points own) ≡ Some f → RowAfter points own q f
row_after points None q f is = kept is (λ event own. cc)
row_after points (Some (p, event)) q f is = by_test (q == p) refl
  where
    no_one : row_of p points ≡ None
        → row_of p (with_row p (after event (facts_in points p)) points) ≡ None
    no_one none = rw (row_of-absent p (after event (facts_in points p)) points none) none

    by_row : (o : Option Facts) → row_of p points ≡ o → q ≡ p
        → RowAfter points (Some (p, event)) q f
    by_row None none one =
        let gone : row_of p (with_event points (Some (p, event))) ≡ Some f =
        ap (λ (r : ℕ). row_of r (with_event points (Some (p, event)))) (sym one) ∙ is in
        let both : None ≡ Some f = sym (no_one none) ∙ gone in absurd cc
    by_row (Some old) there one =
        let made : row_of p (with_event points (Some (p, event))) ≡ Some f =
        ap (λ (r : ℕ). row_of r (with_event points (Some (p, event)))) (sym one) ∙ is in
        let written : row_of p (with_event points (Some (p, event)))
        ≡ Some (after event (facts_in points p)) =
        row_of-same p (after event (facts_in points p)) old points there in
        let found : Some f ≡ Some (after event (facts_in points p)) = sym made ∙ written in
        let facts : facts_in points p ≡ old = facts_there points p old there in
        done event old (ap (λ (r : ℕ). Some (r, event)) (sym one))
        (ap (λ (r : ℕ). row_of r points) one ∙ there)
        (let known : f ≡ after event (facts_in points p) = cc in
        known ∙ ap (after event) facts)

    by_test : (b : Bool) → (q == p) ≡ b → RowAfter points (Some (p, event)) q f
    by_test true at = by_row (row_of p points) refl (same q p at)
    by_test false at =
        kept (sym (row_of-other p q (after event (facts_in points p)) points at) ∙ is)
        (λ other own.
        let name : p ≡ q = ap (λ (x : ℕ × PointEvent). x.0) (told_once (p, event) (q, other) own) in
        let one : (q == p) ≡ true = ap (λ (r : ℕ). q == r) name ∙ itself q in
        false≢true (sym at ∙ one))
