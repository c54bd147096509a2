-- Each gap has its line, and keeps it.
use Rattle.std.proofs.Common.{◌≡◌, inl, inr, ℕ, Bool, true, false, List, [], ◌∷◌, ◌++◌, Option}
use Rattle.std.proofs.Common.{Some, None, refl, ap, sym, ◌∙◌, append-nil, subst, ◌==◌}
use Rattle.std.specs.Prelude.{if◌then◌else◌}
use Rattle.std.specs.List.{cons_option}
use Rattle.std.proofs.lemmas.Bool.{and_parts}
use Rattle.site_base.specs.declared.actor.Actor.{Actor}
use Rattle.site_base.specs.declared.actor.Actor.TheVariants.{Till}
use Rattle.site_base.specs.declared.event.Event.{Event}
use Rattle.site_base.specs.declared.refusal.Refusal.{Refusal}
use Rattle.site_base.specs.declared.row.Row.{Row}
use Rattle.meters.specs.Nozzles.{reading_of}
use Rattle.written_site.specs.SiteChecks.{first_refusal}
use Rattle.written_site.specs.SiteState.{SiteState}
use Rattle.written_site.proofs.SoundTables.{same}
use Rattle.row_tally.specs.Readings.{is_of_meter, reading_told}
use Rattle.row_tally.specs.Runs.{is_of_nozzle, run_longer, run_settled, settled_run, with_refused}
use Rattle.row_tally.specs.Runs.{without_run}
use Rattle.row_tally.specs.declared.meter_reading.MeterReading.{MeterReading}
use Rattle.row_tally.specs.declared.refused_run.RefusedRun.{RefusedRun}
use Rattle.row_tally.specs.declared.refused_run.RowPlace.{RowPlace}
use Rattle.meter_table.specs.Gaps.{Gaps, gaps_accepted, gaps_read, gaps_refused, gaps_told}
use Rattle.meter_table.specs.Gaps.{gaps_with, replacement_told}
use Rattle.meter_table.specs.Laws.{AnyRun, EachRefusedReadingHasARun, EachReplacementHasALine}
use Rattle.meter_table.specs.Laws.{EndsWith, GoesOn, NoGapIsLost, NoLineIsLost, StaysOrIsSettled}

-- ---- a row with a reading

gaps_of : (place : RowPlace) (s : SiteState) (r : Row) (g : Gaps) (x : MeterReading)
    (o : Option Refusal) → reading_told r.event ≡ Some x → first_refusal s r.actor r.event ≡ o
    → gaps_with place s r g ≡ gaps_read place (reading_of x.point x.nozzle s.nozzles) r x o g
gaps_of place s r g x o told is =
    ap (λ (m : Option MeterReading). gaps_told place s r m g) told
    ∙ ap (λ (k : Option Refusal).
    gaps_read place (reading_of x.point x.nozzle s.nozzles) r x k g) is

-- ---- replacements

pub each_replacement_has_a_line : EachReplacementHasALine
each_replacement_has_a_line = λ place s r g t p n new actor event accepted.
    let told : reading_told r.event ≡ Some (record { point = p; nozzle = n; reading = new }) =
    ap reading_told event in
    ap (λ (h : Gaps). h.replaced)
    (gaps_of place s r g (record { point = p; nozzle = n; reading = new }) None told accepted)
    ∙ ap (λ (a : Actor). g.replaced ++ cons_option
    (replacement_told place (reading_of p n s.nozzles) a r.event) []) actor
    ∙ ap (λ (e : Event). g.replaced ++ cons_option
    (replacement_told place (reading_of p n s.nozzles) (Till t) e) []) event

-- ---- refused readings

run_ends : (place : RowPlace) (x : MeterReading) (expected : ℕ) (refusal : Refusal)
    (runs : List RefusedRun)
    → AnyRun (EndsWith place.row x) (with_refused place x expected refusal runs)
run_ends place x expected refusal [] =
    inl (record { point = refl; nozzle = refl; last = refl; reported = refl })
run_ends place x expected refusal (run ∷ runs) =
    by_test (is_of_nozzle x.point x.nozzle run) refl (run_ends place x expected refusal runs)
  where
    by_test : (b : Bool) → is_of_nozzle x.point x.nozzle run ≡ b
        → AnyRun (EndsWith place.row x) (with_refused place x expected refusal runs)
        → AnyRun (EndsWith place.row x) (if b then run_longer place x refusal run ∷ runs
        else run ∷ with_refused place x expected refusal runs)
    by_test true own behind =
        let names = and_parts (run.point == x.point) (run.nozzle == x.nozzle) own in
        inl (record {
          point = same run.point x.point names.0;
          nozzle = same run.nozzle x.nozzle names.1;
          last = refl;
          reported = refl;
        })
    by_test false other behind = inr behind

pub each_refused_reading_has_a_run : EachRefusedReadingHasARun
each_refused_reading_has_a_run = λ place s r g x refusal told refused of_meter.
    let old = reading_of x.point x.nozzle s.nozzles in
    subst (λ (h : Gaps). AnyRun (EndsWith place.row x) h.unsettled)
    (sym (gaps_of place s r g x (Some refusal) told refused
    ∙ ap (λ (b : Bool). record g {
      unsettled = if b then with_refused place x old refusal g.unsettled else g.unsettled;
    }) of_meter))
    (run_ends place x old refusal g.unsettled)

-- ---- no line is lost

goes_on_itself : (run : RefusedRun) → GoesOn run run
goes_on_itself run = record { first = refl; point = refl; nozzle = refl }

any_itself : (run : RefusedRun) (runs : List RefusedRun) → AnyRun (λ x. x ≡ run) runs
    → AnyRun (GoesOn run) runs
any_itself run [] there = there
any_itself run (x ∷ runs) (inl is) =
    inl (record {
      first = ap (λ (y : RefusedRun). y.first) is;
      point = ap (λ (y : RefusedRun). y.point) is;
      nozzle = ap (λ (y : RefusedRun). y.nozzle) is;
    })
any_itself run (x ∷ runs) (inr there) = inr (any_itself run runs there)

longer_or_there : (place : RowPlace) (x : MeterReading) (expected : ℕ) (refusal : Refusal)
    (run : RefusedRun) (runs : List RefusedRun) → AnyRun (λ y. y ≡ run) runs
    → AnyRun (GoesOn run) (with_refused place x expected refusal runs)
longer_or_there place x expected refusal run [] there = absurd there
longer_or_there place x expected refusal run (y ∷ runs) there =
    by_test (is_of_nozzle x.point x.nozzle y) there
    (longer_or_there place x expected refusal run runs)
  where
    by_test : (b : Bool) → AnyRun (λ z. z ≡ run) (y ∷ runs)
        → (AnyRun (λ z. z ≡ run) runs
        → AnyRun (GoesOn run) (with_refused place x expected refusal runs))
        → AnyRun (GoesOn run) (if b then run_longer place x refusal y ∷ runs
        else y ∷ with_refused place x expected refusal runs)
    by_test true (inl is) behind =
        inl (record {
          first = ap (λ (z : RefusedRun). z.first) is;
          point = ap (λ (z : RefusedRun). z.point) is;
          nozzle = ap (λ (z : RefusedRun). z.nozzle) is;
        })
    by_test true (inr later) behind = inr (any_itself run runs later)
    by_test false (inl is) behind =
        inl (record {
          first = ap (λ (z : RefusedRun). z.first) is;
          point = ap (λ (z : RefusedRun). z.point) is;
          nozzle = ap (λ (z : RefusedRun). z.nozzle) is;
        })
    by_test false (inr later) behind = inr (behind later)

settled_or_there : (row p n : ℕ) (run : RefusedRun) (runs : List RefusedRun)
    → AnyRun (λ y. y ≡ run) runs
    → StaysOrIsSettled row run (settled_run row p n runs) (without_run p n runs)
settled_or_there row p n run [] there = absurd there
settled_or_there row p n run (y ∷ runs) there =
    by_test (is_of_nozzle p n y) there (settled_or_there row p n run runs)
  where
    later_one : StaysOrIsSettled row run (settled_run row p n runs) (without_run p n runs)
        → StaysOrIsSettled row run (settled_run row p n runs) (y ∷ without_run p n runs)
    later_one (inl stays) = inl (inr stays)
    later_one (inr settled) = inr settled

    by_test : (b : Bool) → AnyRun (λ z. z ≡ run) (y ∷ runs)
        → (AnyRun (λ z. z ≡ run) runs
        → StaysOrIsSettled row run (settled_run row p n runs) (without_run p n runs))
        → StaysOrIsSettled row run (if b then run_settled row y ∷ [] else settled_run row p n runs)
        (if b then runs else y ∷ without_run p n runs)
    by_test true (inl is) behind = inr (inl (ap (run_settled row) is))
    by_test true (inr later) behind = inl (any_itself run runs later)
    by_test false (inl is) behind =
        inl (inl (record {
          first = ap (λ (z : RefusedRun). z.first) is;
          point = ap (λ (z : RefusedRun). z.point) is;
          nozzle = ap (λ (z : RefusedRun). z.nozzle) is;
        }))
    by_test false (inr later) behind = later_one (behind later)

any_joined : (P : RefusedRun → Type 0) (xs ys : List RefusedRun) → AnyRun P ys
    → AnyRun P (xs ++ ys)
any_joined P [] ys any = any
any_joined P (x ∷ xs) ys any = inr (any_joined P xs ys any)

unchanged : (place : RowPlace) (s : SiteState) (r : Row) (g : Gaps)
    → gaps_with place s r g ≡ g → NoLineIsLost place s r g
unchanged place s r g is = record {
  replaced = ([], ap (λ (h : Gaps). h.replaced) is ∙ sym (append-nil g.replaced));
  settled = ([], ap (λ (h : Gaps). h.settled) is ∙ sym (append-nil g.settled));
  unsettled = λ run there. inl (subst (λ (h : Gaps). AnyRun (GoesOn run) h.unsettled) (sym is)
      (any_itself run g.unsettled there));
}

settled_joined : (row : ℕ) (run : RefusedRun) (before settled unsettled : List RefusedRun)
    → StaysOrIsSettled row run settled unsettled
    → StaysOrIsSettled row run (before ++ settled) unsettled
settled_joined row run before settled unsettled (inl stays) = inl stays
settled_joined row run before settled unsettled (inr any) =
    inr (any_joined (λ later. later ≡ run_settled row run) before settled any)

once_accepted : (place : RowPlace) (s : SiteState) (r : Row) (g : Gaps) (x : MeterReading)
    (old : ℕ) → gaps_with place s r g ≡ gaps_accepted place old r x g → NoLineIsLost place s r g
once_accepted place s r g x old is = record {
  replaced = (
    cons_option (replacement_told place old r.actor r.event) [],
    ap (λ (h : Gaps). h.replaced) is,
  );
  settled = (settled_run place.row x.point x.nozzle g.unsettled, ap (λ (h : Gaps). h.settled) is);
  unsettled = λ run there. subst (λ (h : Gaps).
      StaysOrIsSettled place.row run h.settled h.unsettled) (sym is)
      (settled_joined place.row run g.settled
      (settled_run place.row x.point x.nozzle g.unsettled)
      (without_run x.point x.nozzle g.unsettled)
      (settled_or_there place.row x.point x.nozzle run g.unsettled there));
}

once_refused : (place : RowPlace) (s : SiteState) (r : Row) (g : Gaps) (x : MeterReading)
    (old : ℕ) (refusal : Refusal) → gaps_with place s r g ≡ gaps_refused place old refusal x g
    → NoLineIsLost place s r g
once_refused place s r g x old refusal is = by_test (is_of_meter (Some refusal)) is
  where
    by_test : (b : Bool) → gaps_with place s r g ≡ record g {
      unsettled = if b then with_refused place x old refusal g.unsettled else g.unsettled;
    }
        → NoLineIsLost place s r g
    by_test true is = record {
      replaced = ([], ap (λ (h : Gaps). h.replaced) is ∙ sym (append-nil g.replaced));
      settled = ([], ap (λ (h : Gaps). h.settled) is ∙ sym (append-nil g.settled));
      unsettled = λ run there. inl (subst (λ (h : Gaps). AnyRun (GoesOn run) h.unsettled) (sym is)
          (longer_or_there place x old refusal run g.unsettled there));
    }
    by_test false is = unchanged place s r g is

by_refusal : (place : RowPlace) (s : SiteState) (r : Row) (g : Gaps) (x : MeterReading)
    (o : Option Refusal) → reading_told r.event ≡ Some x → first_refusal s r.actor r.event ≡ o
    → NoLineIsLost place s r g
by_refusal place s r g x None told is =
    once_accepted place s r g x (reading_of x.point x.nozzle s.nozzles)
    (gaps_of place s r g x None told is)
by_refusal place s r g x (Some refusal) told is =
    once_refused place s r g x (reading_of x.point x.nozzle s.nozzles) refusal
    (gaps_of place s r g x (Some refusal) told is)

by_reading : (place : RowPlace) (s : SiteState) (r : Row) (g : Gaps) (o : Option MeterReading)
    → reading_told r.event ≡ o → NoLineIsLost place s r g
by_reading place s r g None told =
    unchanged place s r g (ap (λ (m : Option MeterReading). gaps_told place s r m g) told)
by_reading place s r g (Some x) told =
    by_refusal place s r g x (first_refusal s r.actor r.event) told refl

pub no_gap_is_lost : NoGapIsLost
no_gap_is_lost = λ place s r g. by_reading place s r g (reading_told r.event) refl
