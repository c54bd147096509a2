-- Times never fall.
use Rattle.std.proofs.Common.{◌≡◌, ℕ, Bool, true, false, List, [], ◌∷◌, Option, Some, None, inl, inr}
use Rattle.std.proofs.Common.{refl, sym, ◌∙◌, arith, subst}
use Rattle.std.specs.Prelude.{◌⊎◌, if◌then◌else◌}
use Rattle.std.proofs.lemmas.Bool.Decides.{nat_tests}
use Rattle.std.proofs.lemmas.Grind.{common_steps}
use Rattle.stamps.specs.Laws.{IsLater, TimesNeverFall}
use Rattle.stamps.specs.Stamps.{is_before, is_later, later_of, stamp_in, time_after, time_of_lines}

-- a time before one that is before another is before that
before_then : (a b c : List ℕ) → is_before a b ≡ true → is_before b c ≡ true
    → is_before a c ≡ true
before_then [] [] c one two = absurd cc
before_then [] (y ∷ ys) [] one two = absurd cc
before_then [] (y ∷ ys) (z ∷ zs) one two = refl
before_then (x ∷ xs) [] c one two = absurd cc
before_then (x ∷ xs) (y ∷ ys) [] one two = absurd cc
before_then (x ∷ xs) (y ∷ ys) (z ∷ zs) one two =
    let rest = before_then xs ys zs in
    grind (arith, nat_tests, common_steps)

later_then : (last : Option (List ℕ)) (a b : List ℕ) → is_later last a ≡ true
    → is_later (Some a) b ≡ true → is_later last b ≡ true
later_then None a b one two = refl
later_then (Some t) a b one two = before_then t a b one two

-- a line tells no time, or a later one, or leaves the last one
line_after : (line : List ℕ) (last : Option (List ℕ))
    → (time_after line last ≡ last) ⊎ IsLater last (time_after line last)
line_after line last = by_stamp (stamp_in line)
  where
    by_test : (time : List ℕ) (t : Bool) → is_later last time ≡ t
        → ((if t then Some time else last) ≡ last) ⊎ IsLater last (if t then Some time else last)
    by_test time true is = inr (record { time = time; some = refl; later = is })
    by_test time false is = inl refl

    by_stamp : (o : Option (List ℕ))
        → (later_of last o ≡ last) ⊎ IsLater last (later_of last o)
    by_stamp None = inl refl
    by_stamp (Some time) = by_test time (is_later last time) refl

pub times_never_fall : TimesNeverFall
times_never_fall [] last = inl refl
times_never_fall (line ∷ lines) last =
    by_line (line_after line last) (times_never_fall lines (time_after line last))
  where
    behind : Option (List ℕ)
    behind = time_of_lines lines (time_after line last)

    then_later : IsLater last (time_after line last) → IsLater (time_after line last) behind
        → IsLater last behind
    then_later one two = record {
      time = two.time;
      some = two.some;
      later = later_then last one.time two.time one.later
          (subst (λ (t : Option (List ℕ)). is_later t two.time ≡ true) one.some two.later);
    }

    by_line : (time_after line last ≡ last) ⊎ IsLater last (time_after line last)
        → (behind ≡ time_after line last) ⊎ IsLater (time_after line last) behind
        → (behind ≡ last) ⊎ IsLater last behind
    by_line (inl same) (inl still) = inl (still ∙ same)
    by_line (inl same) (inr later) =
        inr (subst (λ (t : Option (List ℕ)). IsLater t behind) same later)
    by_line (inr one) (inl still) =
        inr (subst (λ (t : Option (List ℕ)). IsLater last t) (sym still) one)
    by_line (inr one) (inr two) = inr (then_later one two)
