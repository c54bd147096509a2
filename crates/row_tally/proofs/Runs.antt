-- The open run of a nozzle, by its place.
use Rattle.std.proofs.Common.{◌≡◌, ℕ, ◌+◌, ◌<◌, Bool, true, false, List, [], ◌∷◌, ◌++◌, length}
use Rattle.std.proofs.Common.{get_or, Option, Some, None, option_map, refl, ap, ◌∙◌, arith, set, suc}
use Rattle.std.proofs.Common.{remove, subst}
use Rattle.std.specs.Prelude.{if◌then◌else◌}
use Rattle.site_base.specs.declared.refusal.Refusal.{Refusal}
use Rattle.row_tally.specs.declared.meter_reading.MeterReading.{MeterReading}
use Rattle.row_tally.specs.declared.refused_run.RefusedRun.{RefusedRun}
use Rattle.row_tally.specs.declared.refused_run.RowPlace.{RowPlace}
use Rattle.row_tally.specs.Runs.{is_of_nozzle, run_begun, run_longer, run_place, run_settled}
use Rattle.row_tally.specs.Runs.{settled_run, with_refused, without_run}

-- a nozzle's run stands at i: what a reading does to the runs is done there
pub record IsRunAt (p n : ℕ) (runs : List RefusedRun) (i : ℕ) : Type 0 where
  pub within : i < length runs
  pub settles : (row : ℕ) (d : RefusedRun)
      → settled_run row p n runs ≡ run_settled row (get_or runs i d) ∷ []
  pub leaves : without_run p n runs ≡ remove runs i
  pub longer : (place : RowPlace) (x : MeterReading) (expected : ℕ) (refusal : Refusal)
      (d : RefusedRun) → x.point ≡ p → x.nozzle ≡ n
      → with_refused place x expected refusal runs
      ≡ set runs i (run_longer place x refusal (get_or runs i d))

named_so : (p n q m : ℕ) (run : RefusedRun) → q ≡ p → m ≡ n
    → is_of_nozzle q m run ≡ is_of_nozzle p n run
named_so p n q m run point nozzle =
    ap (λ (k : ℕ). is_of_nozzle k m run) point ∙ ap (λ (k : ℕ). is_of_nozzle p k run) nozzle

run_first : (p n : ℕ) (run : RefusedRun) (runs : List RefusedRun) → is_of_nozzle p n run ≡ true
    → IsRunAt p n (run ∷ runs) 0
run_first p n run runs own = record {
  within = omega arith;
  settles = λ row d. ap (λ (b : Bool).
      if b then run_settled row run ∷ [] else settled_run row p n runs) own;
  leaves = ap (λ (b : Bool). if b then runs else run ∷ without_run p n runs) own;
  longer = λ place x expected refusal d point nozzle. ap (λ (b : Bool).
      if b then run_longer place x refusal run ∷ runs
      else run ∷ with_refused place x expected refusal runs)
      (named_so p n x.point x.nozzle run point nozzle ∙ own);
}

run_behind : (p n : ℕ) (run : RefusedRun) (runs : List RefusedRun) (i : ℕ)
    → is_of_nozzle p n run ≡ false → IsRunAt p n runs i → IsRunAt p n (run ∷ runs) (suc i)
run_behind p n run runs i other at = record {
  within = omega (arith, at.within);
  settles = λ row d. ap (λ (b : Bool).
      if b then run_settled row run ∷ [] else settled_run row p n runs) other ∙ at.settles row d;
  leaves = ap (λ (b : Bool). if b then runs else run ∷ without_run p n runs) other
      ∙ ap (λ (xs : List RefusedRun). run ∷ xs) at.leaves;
  longer = λ place x expected refusal d point nozzle. ap (λ (b : Bool).
      if b then run_longer place x refusal run ∷ runs
      else run ∷ with_refused place x expected refusal runs)
      (named_so p n x.point x.nozzle run point nozzle ∙ other)
      ∙ ap (λ (xs : List RefusedRun). run ∷ xs)
      (at.longer place x expected refusal d point nozzle);
}

same_some : (a b : ℕ) → ◌≡◌ {A = Option ℕ} (Some a) (Some b) → a ≡ b
same_some a b is = cc

pub run_at : (p n : ℕ) (runs : List RefusedRun) (i : ℕ) → run_place p n runs ≡ Some i
    → IsRunAt p n runs i
run_at p n [] i is = cc
run_at p n (run ∷ runs) i is =
    by_test (is_of_nozzle p n run) refl is (run_at p n runs)
  where
    by_place : (o : Option ℕ) → run_place p n runs ≡ o → is_of_nozzle p n run ≡ false
        → option_map (λ k. k + 1) o ≡ Some i
        → ((k : ℕ) → run_place p n runs ≡ Some k → IsRunAt p n runs k)
        → IsRunAt p n (run ∷ runs) i
    by_place None found other is behind = cc
    by_place (Some k) found other is behind =
        subst (IsRunAt p n (run ∷ runs))
        (omega (arith, same_some (k + 1) i is))
        (run_behind p n run runs k other (behind k found))

    by_test : (b : Bool) → is_of_nozzle p n run ≡ b
        → (if b then Some 0 else option_map (λ k. k + 1) (run_place p n runs)) ≡ Some i
        → ((k : ℕ) → run_place p n runs ≡ Some k → IsRunAt p n runs k)
        → IsRunAt p n (run ∷ runs) i
    by_test true own is behind =
        subst (IsRunAt p n (run ∷ runs)) (same_some 0 i is) (run_first p n run runs own)
    by_test false other is behind = by_place (run_place p n runs) refl other is behind

-- a nozzle has no open run: a refused reading begins one
pub record HasNoRun (p n : ℕ) (runs : List RefusedRun) : Type 0 where
  pub settles : (row : ℕ) → settled_run row p n runs ≡ []
  pub leaves : without_run p n runs ≡ runs
  pub begins : (place : RowPlace) (x : MeterReading) (expected : ℕ) (refusal : Refusal)
      → x.point ≡ p → x.nozzle ≡ n
      → with_refused place x expected refusal runs
      ≡ runs ++ run_begun place x expected refusal ∷ []

none_behind : (p n : ℕ) (run : RefusedRun) (runs : List RefusedRun)
    → is_of_nozzle p n run ≡ false → HasNoRun p n runs → HasNoRun p n (run ∷ runs)
none_behind p n run runs other none = record {
  settles = λ row. ap (λ (b : Bool).
      if b then run_settled row run ∷ [] else settled_run row p n runs) other ∙ none.settles row;
  leaves = ap (λ (b : Bool). if b then runs else run ∷ without_run p n runs) other
      ∙ ap (λ (xs : List RefusedRun). run ∷ xs) none.leaves;
  begins = λ place x expected refusal point nozzle. ap (λ (b : Bool).
      if b then run_longer place x refusal run ∷ runs
      else run ∷ with_refused place x expected refusal runs)
      (named_so p n x.point x.nozzle run point nozzle ∙ other)
      ∙ ap (λ (xs : List RefusedRun). run ∷ xs) (none.begins place x expected refusal point nozzle);
}

pub no_run : (p n : ℕ) (runs : List RefusedRun) → run_place p n runs ≡ None
    → HasNoRun p n runs
no_run p n [] is = record {
  settles = λ row. refl;
  leaves = refl;
  begins = λ place x expected refusal point nozzle. refl;
}
no_run p n (run ∷ runs) is = by_test (is_of_nozzle p n run) refl is (no_run p n runs)
  where
    by_place : (o : Option ℕ) → run_place p n runs ≡ o → is_of_nozzle p n run ≡ false
        → option_map (λ k. k + 1) o ≡ None → (run_place p n runs ≡ None → HasNoRun p n runs)
        → HasNoRun p n (run ∷ runs)
    by_place None found other is behind = none_behind p n run runs other (behind found)
    by_place (Some k) found other is behind = cc

    by_test : (b : Bool) → is_of_nozzle p n run ≡ b
        → (if b then Some 0 else option_map (λ k. k + 1) (run_place p n runs)) ≡ None
        → (run_place p n runs ≡ None → HasNoRun p n runs) → HasNoRun p n (run ∷ runs)
    by_test true own is behind = cc
    by_test false other is behind = by_place (run_place p n runs) refl other is behind
