-- A point is a test from its test release until its fuelling ends or the release is taken back.
use Rattle.std.proofs.Common.{◌≡◌, ℕ, Bool, true, false, List, [], ◌∷◌, ◌++◌, ◌⊎◌, inl, inr, Option}
use Rattle.std.proofs.Common.{Ok, refl, ap, subst, arith}
use Rattle.std.specs.List.{list_any}
use Rattle.std.proofs.lemmas.Bool.{false≢true}
use Rattle.std.proofs.lemmas.Grind.{common_steps}
use Rattle.site_base.specs.declared.state.PointState.TheVariants.{Closed}
use Rattle.fuelling_point.specs.declared.event.PointEvent.{PointEvent}
use Rattle.fuelling_point.specs.declared.step.PointStep.TheVariants.{Sold, Drawn}
use Rattle.fuelling_point.specs.KeptPoints.{Facts, empty_point}
use Rattle.fuelling_point.specs.Whole.{IsWhole}
use Rattle.fuelling_point.specs.History.{Moment, history, facts_at_end, facts_after, reply_to}
use Rattle.fuelling_point.specs.History.{moments_of, point_after}
use Rattle.fuelling_point.specs.Laws.{ends_release, is_test_released, HasTestRelease, AreTestsDrawn}
use Rattle.fuelling_point.proofs.Whole.{stays_whole, whole_after}
use Rattle.fuelling_point.proofs.Suspension.{left_false, right_false}

mark_kept : (e : PointEvent) (f : Facts) → (facts_after e f).test ≡ true → f.test ≡ true
    → ends_release (record { before = f; event = e }) ≡ false
mark_kept e f after before = grind (arith, common_steps)

mark_taken : (e : PointEvent) (f : Facts) → (facts_after e f).test ≡ true → f.test ≡ false
    → is_test_released (record { before = f; event = e }) ≡ true
mark_taken e f after before = grind (arith, common_steps)

sold_unmarked : (e : PointEvent) (f : Facts) (nozzle volume price : ℕ) (prepaid : Option ℕ)
    → reply_to e f ≡ Ok (Sold nozzle volume price prepaid) → f.test ≡ false
sold_unmarked e f nozzle volume price prepaid is = grind (arith, common_steps)

drawn_marked : (e : PointEvent) (f : Facts) (nozzle volume : ℕ)
    → reply_to e f ≡ Ok (Drawn nozzle volume) → f.test ≡ true
drawn_marked e f nozzle volume is = grind (arith, common_steps)

-- f is a test, and at no moment since has its release ended
record StaysTest (f : Facts) (moments : List Moment) : Type 0 where
  is : f.test ≡ true
  lasts : list_any ends_release moments ≡ false

abbrev Stands : Facts → List Moment → Type 0
Stands f moments = StaysTest f moments ⊎ HasTestRelease moments

-- what is a test after an event was one before it, or the event is its test release
one_earlier : (e : PointEvent) (f : Facts) (ms : List Moment) → StaysTest (facts_after e f) ms
    → Stands f (record { before = f; event = e } ∷ ms)
one_earlier e f ms on = by_test f.test refl
  where
    by_test : (b : Bool) → f.test ≡ b → Stands f (record { before = f; event = e } ∷ ms)
    by_test true was = inl (record { is = was; lasts = rw (mark_kept e f on.is was) on.lasts })
    by_test false was = inr (record {
      before = [];
      release = record { before = f; event = e };
      since = ms;
      parts = refl;
      taken = mark_taken e f on.is was;
      goes_on = on.lasts;
    })

also_earlier : (m : Moment) (ms : List Moment) → HasTestRelease ms → HasTestRelease (m ∷ ms)
also_earlier m ms s = record {
  before = m ∷ s.before;
  release = s.release;
  since = s.since;
  parts = ap (λ (x : List Moment). m ∷ x) s.parts;
  taken = s.taken;
  goes_on = s.goes_on;
}

stands : (f : Facts) (events : List PointEvent) → (facts_at_end f events).test ≡ true
    → Stands f (history f events)
stands f [] is = inl (record { is = is; lasts = refl })
stands f (e ∷ es) is = elim (stands (facts_after e f) es is) [
  | inl on ↦ one_earlier e f (history (facts_after e f) es) on
  | inr s ↦ inr (also_earlier (record { before = f; event = e }) (history (facts_after e f) es) s)
]

-- a new point is no test, so one that is a test has had its test release
has_release : (events : List PointEvent) → (point_after events).test ≡ true
    → HasTestRelease (moments_of events)
has_release events is = elim (stands (empty_point Closed) events is)
    [ inl on ↦ absurd (false≢true on.is) | inr s ↦ s ]

marked_by : (e : PointEvent) (f : Facts)
    → is_test_released (record { before = f; event = e }) ≡ true → (facts_after e f).test ≡ true
marked_by e f is = grind (arith, common_steps)

mark_stays : (e : PointEvent) (f : Facts) → IsWhole f → f.test ≡ true
    → ends_release (record { before = f; event = e }) ≡ false → (facts_after e f).test ≡ true
mark_stays e f w is on =
    let test = w.test in
    grind (arith, common_steps)

-- a test stays one until its release ends
goes_on : (f : Facts) (events : List PointEvent) → IsWhole f → f.test ≡ true
    → list_any ends_release (history f events) ≡ false → (facts_at_end f events).test ≡ true
goes_on f [] w is on = is
goes_on f (e ∷ es) w is on =
    let now : ends_release (record { before = f; event = e }) ≡ false =
    left_false _ (list_any ends_release (history (facts_after e f) es)) on in
    let later : list_any ends_release (history (facts_after e f) es) ≡ false =
    right_false (ends_release (record { before = f; event = e })) _ on in
    goes_on (facts_after e f) es (stays_whole.keeps e f w) (mark_stays e f w is now) later

-- so a point with a test release that nothing has ended is a test
is_test : (f : Facts) (events : List PointEvent) (before since : List Moment) (m : Moment)
    → IsWhole f → history f events ≡ before ++ m ∷ since
    → is_test_released m ≡ true → list_any ends_release since ≡ false
    → (facts_at_end f events).test ≡ true
is_test f [] [] since m w parts taken on = cc
is_test f [] (x ∷ xs) since m w parts taken on = cc
is_test f (e ∷ es) [] since m w parts taken on =
    let here : m ≡ record { before = f; event = e } = cc in
    let rest : since ≡ history (facts_after e f) es = cc in
    let marked = marked_by e f (subst (λ x. is_test_released x ≡ true) here taken) in
    goes_on (facts_after e f) es (stays_whole.keeps e f w) marked
    (subst (λ x. list_any ends_release x ≡ false) rest on)
is_test f (e ∷ es) (x ∷ xs) since m w parts taken on =
    let rest : history (facts_after e f) es ≡ xs ++ m ∷ since = cc in
    is_test (facts_after e f) es xs since m (stays_whole.keeps e f w) rest taken on

pub tests_are_drawn : AreTestsDrawn
tests_are_drawn = record {
  released = λ events. (
    has_release events,
    λ r. is_test (empty_point Closed) events r.before r.since r.release stays_whole.begins r.parts
        r.taken
        r.goes_on,
  );
  unlimited = λ events is.
      let whole = whole_after events in
      (whole.unlimited is, whole.unpaid is);
  sold = λ events event nozzle volume price prepaid is.
      sold_unmarked event (point_after events) nozzle volume price prepaid is;
  drawn = λ events event nozzle volume is.
      drawn_marked event (point_after events) nozzle volume is;
}
