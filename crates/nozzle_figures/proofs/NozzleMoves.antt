-- What rows do at one nozzle.
use Rattle.std.proofs.Common.{◌≡◌, ◌⊎◌, inl, inr, ℕ, ◌+◌, ◌-◌, ◌≤◌, ◌==◌, ◌&&◌, Bool, true, false}
use Rattle.std.proofs.Common.{List, [], ◌∷◌, Option, Some, None, refl, ap, sym, ◌∙◌, arith}
use Rattle.std.specs.Prelude.{if◌then◌else◌, not, option_map, unwrap_or}
use Rattle.std.proofs.lemmas.Bool.{and_parts}
use Rattle.std.proofs.lemmas.Bool.Decides.{nat_tests}
use Rattle.std.proofs.lemmas.Grind.{common_steps}
use Rattle.site_base.specs.declared.actor.Actor.{Actor}
use Rattle.site_base.specs.declared.event.Event.{Event}
use Rattle.site_base.specs.declared.event.Event.TheVariants.{Flow, HangUp, Lift, ReplaceMeter}
use Rattle.site_base.specs.declared.refusal.Refusal.{Refusal}
use Rattle.site_base.specs.declared.row.Row.{Row}
use Rattle.fuelling_point.specs.declared.event.PointEvent.{PointEvent}
use Rattle.fuelling_point.specs.declared.event.PointEvent.TheVariants as points
use Rattle.site_base.specs.Table.{row_of}
use Rattle.site_base.specs.Checks.{value_or}
use Rattle.site_base.specs.Events.{nozzle_named, point_named, reading_carried}
use Rattle.site_base.specs.declared.refusal.Refusal.TheVariants.{MeterGap}
use Rattle.site_base.specs.declared.state.PointState.TheVariants as states
use Rattle.fuelling_point.specs.KeptPoints.{Facts, growth_of, is_under_way, volume_of}
use Rattle.fuelling_point.specs.Laws.{drawn_in, sold_in}
use Rattle.fuelling_point.specs.Step.{after, step_of}
use Rattle.fuelling_point.proofs.Whole.{conserved}
use Rattle.meters.specs.declared.report.Report.TheVariants.{Growing, Still}
use Rattle.meters.specs.Reports.{report_refusal}
use Rattle.meters.specs.Nozzles.{Nozzle, has_nozzle, reading_of, replaced_at, read_at, with_last}
use Rattle.meters.specs.Nozzles.{nozzle_of, with_meter, with_nozzle}
use Rattle.meters.proofs.Lookups.{KeepsName, nozzle_of-here, nozzle_of-other, there}
use Rattle.meters.proofs.Weights.{accepted_above}
use Rattle.written_site.specs.MeterLaws.{is_its}
use Rattle.written_site.specs.SiteChecks.{Passed, first_refusal, flow_since, own_event}
use Rattle.written_site.specs.SiteChecks.{put_back_at}
use Rattle.written_site.specs.SiteRun.{events_of, site_of_rows}
use Rattle.written_site.specs.SiteState.{SiteState, facts_in, facts_of}
use Rattle.written_site.specs.SiteStep.{accepted_site, nozzles_after, points_after, site_after}
use Rattle.written_site.specs.SiteStep.{step_by, with_event}
use Rattle.written_site.specs.Sound.{InRange, Sound}
use Rattle.written_site.specs.SoundRuns.{AreInRange}
use Rattle.written_site.specs.SoundSteps.{IsTaken, drawn_at, growth_at, growth_by, sold_at}
use Rattle.written_site.specs.Volumes.{nozzle_out, running_at}
use Rattle.written_site.proofs.PassedChecks.{passed}
use Rattle.written_site.proofs.PointAfter.{FactsAfter, facts_after, moves, stays}
use Rattle.written_site.proofs.Sound.{sound_after, taken_when_passed}
use Rattle.written_site.proofs.SoundMachine.{same_nozzle}
use Rattle.written_site.proofs.SoundMeters.{nozzle_after, read_keeps, replaced_keeps}
use Rattle.written_site.proofs.SoundPoints.{run_after, run_is_volume}
use Rattle.written_site.proofs.SoundTables.{itself, row_of-same, same}
use Rattle.written_site.proofs.SoundReports.{flow_is_out, hung_up_is_out}
use Rattle.written_site.proofs.SoundReports.{reading_elsewhere}
use Rattle.written_site.proofs.SoundSold.{own_point}
use Rattle.nozzle_figures.specs.Laws.{EachNozzleAddsUp, EachReadingIsCounted}
use Rattle.nozzle_figures.specs.NozzleMoves.{by_nozzle, drawing, falling, flowing, is_of_nozzle}
use Rattle.nozzle_figures.specs.NozzleMoves.{is_out, of_accepted, rising, running_by_nozzle}
use Rattle.nozzle_figures.specs.NozzleMoves.{selling, sum_over}

-- ---- an event at its nozzle

pub none_of : (b : Bool) → ◌≡◌ {A = ℕ} (if b then 0 else 0) 0
none_of true = refl
none_of false = refl

-- of the point's own event: of the nozzle that is out
of_own : (p n : ℕ) (s : SiteState) (e : Event) (event : PointEvent) (v : ℕ)
    → own_event s e ≡ Some (p, event)
    → by_nozzle p n s e v ≡ (if is_out p n s then v else 0)
of_own p n s e event v own =
    ap (λ (o : Option (ℕ × PointEvent)). if is_of_nozzle p n s o then v else 0) own
    ∙ ap (λ (b : Bool). if b && is_out p n s then v else 0) (itself p)

-- of another's: nothing
of_other : (p n : ℕ) (s : SiteState) (e : Event) (v : ℕ)
    → ((event : PointEvent) → own_event s e ≡ Some (p, event) → ⊥) → by_nozzle p n s e v ≡ 0
of_other p n s e v away = by_own (own_event s e) refl
  where
    by_own : (o : Option (ℕ × PointEvent)) → own_event s e ≡ o
        → ◌≡◌ {A = ℕ} (if is_of_nozzle p n s o then v else 0) 0
    by_own None is = refl
    by_own (Some x) is = by_test (x.0 == p) refl
      where
        by_test : (b : Bool) → (x.0 == p) ≡ b
            → ◌≡◌ {A = ℕ} (if b && is_out p n s then v else 0) 0
        by_test false other = refl
        by_test true own =
            absurd (away x.1 (is ∙ ap (λ (q : ℕ). Some (q, x.1)) (same x.0 p own)))

-- ---- volumes

weigh : (out : Bool) (flows was sold drawn left now : ℕ) → was + flows ≡ left + sold + drawn
    → now ≡ (if out then left else 0)
    → (if out then flows else 0) + (if out then was else 0)
    ≡ (if out then sold else 0) + (if out then drawn else 0) + now
weigh true flows was sold drawn left now is stands = omega (arith, is, stands)
weigh false flows was sold drawn left now is stands = omega (arith, stands)

-- what is left in a fuelling is of the nozzle that was out
left_out : (n left : ℕ) (old new : Facts) → (left ≡ 0) ⊎ (new.out ≡ old.out)
    → (if nozzle_out new == n then left else 0) ≡ (if nozzle_out old == n then left else 0)
left_out n left old new (inl none) =
    ap (λ (v : ℕ). if nozzle_out new == n then v else 0) none
    ∙ none_of (nozzle_out new == n) ∙ sym (none_of (nozzle_out old == n))
    ∙ ap (λ (v : ℕ). if nozzle_out old == n then v else 0) (sym none)
left_out n left old new (inr out) =
    ap (λ (o : Option ℕ). if unwrap_or o 0 == n then left else 0) out

-- at a point that only calls nothing flows
calling_still : (s : SiteState) (e : Event) (p : ℕ) (event : PointEvent) → IsTaken s e
    → own_event s e ≡ Some (p, event) → (facts_of s p).state ≡ states.Calling → growth_of event ≡ 0
calling_still s e p event taken own calling =
    let takes = taken.takes in
    let reads = taken.reads in
    grind (arith, common_steps, nat_tests)

own_volumes : (p n : ℕ) (s : SiteState) (a : Actor) (e : Event) (event : PointEvent) → Sound s
    → IsTaken s e → own_event s e ≡ Some (p, event)
    → facts_in (points_after s e) p ≡ after event (facts_of s p)
    → flowing p n s e + running_by_nozzle p n s
    ≡ selling p n s e + drawing p n s e + running_by_nozzle p n (accepted_site s a e)
own_volumes p n s a e event sound taken own facts =
    let f = facts_of s p in
    let new = after event f in
    let at = own_point s e p event sound taken own in
    let row : row_of p (points_after s e) ≡ Some new =
    ap (λ (o : Option (ℕ × PointEvent)). row_of p (with_event s.points o)) own
    ∙ row_of-same p new f s.points at.there in
    let was : running_at s.nozzles p f ≡ volume_of f = run_is_volume s.nozzles p f at.sound.flowed in
    let left : running_at (nozzles_after s e) p new ≡ volume_of new =
    run_after s e sound taken p new row in
    let grown : growth_at s e ≡ growth_of event = ap growth_by own in
    let sold : sold_at s e ≡ sold_in (step_of event f) =
    ap (λ (o : Option (ℕ × PointEvent)). sold_in (step_by s o)) own in
    let drawn : drawn_at s e ≡ drawn_in (step_of event f) =
    ap (λ (o : Option (ℕ × PointEvent)). drawn_in (step_by s o)) own in
    let all = conserved event f at.sound.whole at.taken (calling_still s e p event taken own) in
    let now : running_by_nozzle p n (accepted_site s a e)
    ≡ (if is_out p n s then running_at (nozzles_after s e) p new else 0) =
    ap (λ (g : Facts). if nozzle_out g == n then running_at (nozzles_after s e) p g else 0) facts
    ∙ left_out n (running_at (nozzles_after s e) p new) f new (nozzle_kept left) in
    ap (λ (v : ℕ). v + running_by_nozzle p n s) (of_own p n s e event (growth_at s e) own)
    ∙ weigh (is_out p n s) (growth_at s e) (running_at s.nozzles p f) (sold_at s e)
    (drawn_at s e) (running_at (nozzles_after s e) p new)
    (running_by_nozzle p n (accepted_site s a e))
    (omega (arith, was, left, grown, sold, drawn, all)) now
    ∙ ap (λ (v : ℕ). v + (if is_out p n s then drawn_at s e else 0)
    + running_by_nozzle p n (accepted_site s a e)) (sym (of_own p n s e event (sold_at s e) own))
    ∙ ap (λ (v : ℕ). selling p n s e + v + running_by_nozzle p n (accepted_site s a e))
    (sym (of_own p n s e event (drawn_at s e) own))
  where
    nozzle_kept : running_at (nozzles_after s e) p (after event (facts_of s p))
        ≡ volume_of (after event (facts_of s p))
        → (running_at (nozzles_after s e) p (after event (facts_of s p)) ≡ 0)
        ⊎ ((after event (facts_of s p)).out ≡ (facts_of s p).out)
    nozzle_kept left = by_kind (same_nozzle event (facts_of s p)
        (own_point s e p event sound taken own).taken)
      where
        by_kind : (volume_of (after event (facts_of s p)) ≡ 0)
            ⊎ ((after event (facts_of s p)).out ≡ (facts_of s p).out)
            → (running_at (nozzles_after s e) p (after event (facts_of s p)) ≡ 0)
            ⊎ ((after event (facts_of s p)).out ≡ (facts_of s p).out)
        by_kind (inl none) = inl (left ∙ none)
        by_kind (inr out) = inr out

other_volumes : (p n : ℕ) (s : SiteState) (a : Actor) (e : Event)
    → facts_in (points_after s e) p ≡ facts_of s p
    → ((event : PointEvent) → own_event s e ≡ Some (p, event) → ⊥)
    → flowing p n s e + running_by_nozzle p n s
    ≡ selling p n s e + drawing p n s e + running_by_nozzle p n (accepted_site s a e)
other_volumes p n s a e facts away =
    let f = facts_of s p in
    let stays : running_by_nozzle p n (accepted_site s a e) ≡ running_by_nozzle p n s =
    ap (λ (g : Facts). if nozzle_out g == n then running_at (nozzles_after s e) p g else 0) facts
    ∙ ap (λ (reading : ℕ). if nozzle_out f == n
    then (if is_under_way f.state then reading - f.start else 0) else 0)
    (reading_elsewhere s e p (nozzle_out f) away) in
    omega (
      arith,
      of_other p n s e (growth_at s e) away,
      of_other p n s e (sold_at s e) away,
      of_other p n s e (drawn_at s e) away,
      stays,
    )

pub volumes_step : (p n : ℕ) (s : SiteState) (a : Actor) (e : Event) → Sound s → IsTaken s e
    → Passed s a e
    → flowing p n s e + running_by_nozzle p n s
    ≡ selling p n s e + drawing p n s e + running_by_nozzle p n (accepted_site s a e)
volumes_step p n s a e sound taken passes = by_facts (facts_after s a e passes p)
  where
    by_facts : FactsAfter s e p
        → flowing p n s e + running_by_nozzle p n s
        ≡ selling p n s e + drawing p n s e + running_by_nozzle p n (accepted_site s a e)
    by_facts (stays facts away) = other_volumes p n s a e facts away
    by_facts (moves event own facts takes) =
        own_volumes p n s a e event sound taken own facts

-- ---- the counter

read_changed : (p n q m reading : ℕ) (change : Nozzle → Nozzle) (xs : List Nozzle)
    → KeepsName change → has_nozzle p n xs ≡ true
    → ((x : Nozzle) → (change x).last ≡ reading)
    → reading_of p n (with_nozzle q m change xs)
    ≡ (if is_its p n q m then reading else reading_of p n xs)
read_changed p n q m reading change xs keeps has reads = by_test (is_its p n q m) refl
  where
    by_test : (b : Bool) → (q == p && m == n) ≡ b
        → reading_of p n (with_nozzle q m change xs) ≡ (if b then reading else reading_of p n xs)
    by_test true is =
        let names = and_parts (q == p) (m == n) is in
        let x = there (nozzle_of p n xs) has in
        ap (λ (r : ℕ). reading_of p n (with_nozzle r m change xs)) (same q p names.0)
        ∙ ap (λ (r : ℕ). reading_of p n (with_nozzle p r change xs)) (same m n names.1)
        ∙ ap (λ (o : Option Nozzle). unwrap_or (option_map (λ y. y.last) o) 0)
        (nozzle_of-here p n change xs keeps ∙ ap (option_map change) x.is)
        ∙ reads x.nozzle
    by_test false is =
        ap (λ (o : Option Nozzle). unwrap_or (option_map (λ y. y.last) o) 0)
        (nozzle_of-other q m p n change xs is keeps)

-- a report of the nozzle that is out
pub reported : (p n q m : ℕ) (s : SiteState) (e : Event) (event : PointEvent) (v : ℕ)
    → own_event s e ≡ Some (q, event) → nozzle_out (facts_of s q) ≡ m
    → by_nozzle p n s e v ≡ (if is_its p n q m then v else 0)
reported p n q m s e event v own out =
    ap (λ (o : Option (ℕ × PointEvent)). if is_of_nozzle p n s o then v else 0) own
    ∙ by_test (q == p) refl
  where
    by_test : (b : Bool) → (q == p) ≡ b
        → ◌≡◌ {A = ℕ} (if b && is_out p n s then v else 0) (if b && m == n then v else 0)
    by_test false is = refl
    by_test true is =
        ap (λ (r : ℕ). if r == n then v else 0)
        (ap (λ (r : ℕ). nozzle_out (facts_of s r)) (sym (same q p is)) ∙ out)

same_reading : (p n q m : ℕ) (xs : List Nozzle) → is_its p n q m ≡ true
    → reading_of q m xs ≡ reading_of p n xs
same_reading p n q m xs is =
    let names = and_parts (q == p) (m == n) is in
    ap (λ (r : ℕ). reading_of r m xs) (same q p names.0)
    ∙ ap (λ (r : ℕ). reading_of p r xs) (same m n names.1)

-- what a reading adds is what flows
report_counts : (p n q m reading : ℕ) (s : SiteState) (e : Event) (event : PointEvent)
    → own_event s e ≡ Some (q, event) → growth_of event ≡ flow_since s q m reading
    → nozzle_out (facts_of s q) ≡ m → reading_of q m s.nozzles ≤ reading
    → has_nozzle p n s.nozzles ≡ true
    → reading_of p n (with_last q m reading s.nozzles) + 0
    ≡ reading_of p n s.nozzles + flowing p n s e + 0
report_counts p n q m reading s e event own growth out above has =
    by_test (is_its p n q m) refl
    (read_changed p n q m reading (read_at reading) s.nozzles (read_keeps reading) has (λ x. refl))
    (reported p n q m s e event (growth_at s e) own out
    ∙ ap (λ (v : ℕ). if is_its p n q m then v else 0) (ap growth_by own ∙ growth))
  where
    by_test : (b : Bool) → is_its p n q m ≡ b
        → reading_of p n (with_last q m reading s.nozzles)
        ≡ (if b then reading else reading_of p n s.nozzles)
        → flowing p n s e ≡ (if b then flow_since s q m reading else 0)
        → reading_of p n (with_last q m reading s.nozzles) + 0
        ≡ reading_of p n s.nozzles + flowing p n s e + 0
    by_test true is now flows =
        let last = same_reading p n q m s.nozzles is in
        omega (arith, above, last, now, flows)
    by_test false is now flows = omega (arith, now, flows)

jump_up : (b : Bool) (last reading now flows : ℕ) → now ≡ (if b then reading else last)
    → flows ≡ 0
    → now + (if b then last - reading else 0)
    ≡ last + flows + (if b then reading - last else 0)
jump_up true last reading now flows is none = omega (arith, is, none)
jump_up false last reading now flows is none = omega (arith, is, none)

pub nothing_by : (p n : ℕ) (s : SiteState) (e : Event) → by_nozzle p n s e 0 ≡ 0
nothing_by p n s e = none_of (is_of_nozzle p n s (own_event s e))

-- a meter takes the place of another
replaced_counts : (p n q m reading : ℕ) (s : SiteState) → has_nozzle p n s.nozzles ≡ true
    → reading_of p n (with_meter q m reading s.nozzles)
    + (if is_its p n q m then reading_of p n s.nozzles - reading else 0)
    ≡ reading_of p n s.nozzles + flowing p n s (ReplaceMeter q m reading)
    + (if is_its p n q m then reading - reading_of p n s.nozzles else 0)
replaced_counts p n q m reading s has =
    jump_up (is_its p n q m) (reading_of p n s.nozzles) reading
    (reading_of p n (with_meter q m reading s.nozzles)) (flowing p n s (ReplaceMeter q m reading))
    (read_changed p n q m reading (replaced_at reading) s.nozzles (replaced_keeps reading) has
    (λ x. refl)) (nothing_by p n s (ReplaceMeter q m reading))

still_counts : (last flows : ℕ) → flows ≡ 0 → last + 0 ≡ last + flows + 0
still_counts last flows none = omega (arith, none)

counter_step : (p n : ℕ) (s : SiteState) (e : Event) → Sound s → IsTaken s e
    → has_nozzle p n s.nozzles ≡ true
    → reading_of p n (nozzles_after s e) + falling p n s e
    ≡ reading_of p n s.nozzles + flowing p n s e + rising p n s e
counter_step p n s (Flow q m reading) sound taken has =
    let event = points.Flow m (flow_since s q m reading) in
    let at = own_point s (Flow q m reading) q event sound taken refl in
    report_counts p n q m reading s (Flow q m reading) event refl refl
    (flow_is_out m (flow_since s q m reading) (facts_of s q) at.sound.whole at.taken)
    (accepted_above Growing (reading_of q m s.nozzles) reading taken.reads) has
counter_step p n s (HangUp q m reading) sound taken has =
    let event = points.HangUp m (flow_since s q m reading) in
    let at = own_point s (HangUp q m reading) q event sound taken refl in
    report_counts p n q m reading s (HangUp q m reading) event refl refl
    (hung_up_is_out m (flow_since s q m reading) (facts_of s q) at.sound.whole at.taken)
    (accepted_above (put_back_at (facts_of s q).state) (reading_of q m s.nozzles) reading
    taken.reads) has
counter_step p n s (ReplaceMeter q m reading) sound taken has =
    replaced_counts p n q m reading s has
counter_step p n s e sound taken has =
    still_counts (reading_of p n s.nozzles) (flowing p n s e) (nothing_by p n s e)

-- ---- rows

-- one row's volumes, at this site
volumes_row : (p n : ℕ) (s : SiteState) (r : Row) → Sound s → InRange r.event
    → of_accepted (flowing p n) s r + running_by_nozzle p n s
    ≡ of_accepted (selling p n) s r + of_accepted (drawing p n) s r
    + running_by_nozzle p n (site_after s r.actor r.event)
volumes_row p n s r sound range = by_refusal (first_refusal s r.actor r.event) refl
  where
    by_refusal : (o : Option Refusal) → first_refusal s r.actor r.event ≡ o
        → of_accepted (flowing p n) s r + running_by_nozzle p n s
        ≡ of_accepted (selling p n) s r + of_accepted (drawing p n) s r
        + running_by_nozzle p n (site_after s r.actor r.event)
    by_refusal (Some refusal) is = rw is (omega arith)
    by_refusal None is =
        let passes = passed s r.actor r.event is in
        rw is
        (volumes_step p n s r.actor r.event sound
        (taken_when_passed s r.actor r.event range passes) passes)

pub volumes_over : (p n : ℕ) (s : SiteState) (rows : List Row) → Sound s
    → AreInRange (events_of rows)
    → sum_over (flowing p n) s rows + running_by_nozzle p n s
    ≡ sum_over (selling p n) s rows + sum_over (drawing p n) s rows
    + running_by_nozzle p n (site_of_rows s rows)
volumes_over p n s [] sound range = omega arith
volumes_over p n s (r ∷ rows) sound range =
    let one = volumes_row p n s r sound range.0 in
    let rest = volumes_over p n (site_after s r.actor r.event) rows
    (sound_after s r.actor r.event range.0 sound) range.1 in
    omega (arith, one, rest)

-- its counter
record Counts (p n : ℕ) (s : SiteState) (r : Row) : Type 0 where
  pub counter : reading_of p n (site_after s r.actor r.event).nozzles
      + of_accepted (falling p n) s r
      ≡ reading_of p n s.nozzles + of_accepted (flowing p n) s r + of_accepted (rising p n) s r
  pub there : has_nozzle p n (site_after s r.actor r.event).nozzles ≡ true

counts_row : (p n : ℕ) (s : SiteState) (r : Row) → Sound s → InRange r.event
    → has_nozzle p n s.nozzles ≡ true → Counts p n s r
counts_row p n s r sound range has =
    by_refusal (first_refusal s r.actor r.event) refl
  where
    by_refusal : (o : Option Refusal) → first_refusal s r.actor r.event ≡ o → Counts p n s r
    by_refusal (Some refusal) is = record { counter = rw is (omega arith); there = rw is has }
    by_refusal None is =
        let passes = passed s r.actor r.event is in
        let taken = taken_when_passed s r.actor r.event range passes in
        record {
          counter = rw is (counter_step p n s r.event sound taken has);
          there = rw is (nozzle_after s r.event p n ∙ has);
        }

counter_over : (p n : ℕ) (s : SiteState) (rows : List Row) → Sound s
    → AreInRange (events_of rows) → has_nozzle p n s.nozzles ≡ true
    → reading_of p n (site_of_rows s rows).nozzles + sum_over (falling p n) s rows
    ≡ reading_of p n s.nozzles + sum_over (flowing p n) s rows + sum_over (rising p n) s rows
counter_over p n s [] sound range has = omega arith
counter_over p n s (r ∷ rows) sound range has =
    let one = counts_row p n s r sound range.0 has in
    let rest = counter_over p n (site_after s r.actor r.event) rows
    (sound_after s r.actor r.event range.0 sound) range.1 one.there in
    omega (arith, one.counter, rest)

pub each_nozzle_adds_up : EachNozzleAddsUp
each_nozzle_adds_up = λ s rows p n sound range has. record {
  counter = counter_over p n s rows sound range has;
  volumes = volumes_over p n s rows sound range;
}

-- ---- a reading

named_reading : (p n q m r reading : ℕ) (xs : List Nozzle) (change : Nozzle → Nozzle)
    → KeepsName change → has_nozzle p n xs ≡ true → ((x : Nozzle) → (change x).last ≡ r)
    → q ≡ p → m ≡ n → r ≡ reading → reading_of p n (with_nozzle q m change xs) ≡ reading
named_reading p n q m r reading xs change keeps has reads point nozzle carried =
    read_changed p n q m r change xs keeps has reads
    ∙ ap (λ (b : Bool). if b then r else reading_of p n xs)
    (ap (λ (k : ℕ). k == p && m == n) point ∙ ap (λ (k : ℕ). p == p && k == n) nozzle
    ∙ ap (λ (b : Bool). b && n == n) (itself p) ∙ itself n)
    ∙ carried

-- a nozzle that is lifted reads what it read last
still_reading : (last reading : ℕ) → report_refusal Still last reading ≡ None → last ≡ reading
still_reading last reading accepted = by_test (reading == last) refl accepted
  where
    by_test : (b : Bool) → (reading == last) ≡ b
        → (if not b then Some (MeterGap last) else None) ≡ None → last ≡ reading
    by_test true is accepted = sym (same reading last is)
    by_test false is accepted = absurd (cc)

same_some : (a b : ℕ) → ◌≡◌ {A = Option ℕ} (Some a) (Some b) → a ≡ b
same_some a b is = cc

-- the reading of a row is the last one then
reads_last : (p n reading : ℕ) (s : SiteState) (e : Event) → IsTaken s e
    → has_nozzle p n s.nozzles ≡ true → point_named e ≡ Some p → nozzle_named e ≡ Some n
    → reading_carried e ≡ Some reading → reading_of p n (nozzles_after s e) ≡ reading
reads_last p n reading s (Flow q m r) taken has point nozzle carried =
    named_reading p n q m r reading s.nozzles (read_at r) (read_keeps r) has (λ x. refl)
    (same_some q p point) (same_some m n nozzle) (same_some r reading carried)
reads_last p n reading s (HangUp q m r) taken has point nozzle carried =
    named_reading p n q m r reading s.nozzles (read_at r) (read_keeps r) has (λ x. refl)
    (same_some q p point) (same_some m n nozzle) (same_some r reading carried)
reads_last p n reading s (ReplaceMeter q m r) taken has point nozzle carried =
    named_reading p n q m r reading s.nozzles (replaced_at r) (replaced_keeps r) has (λ x. refl)
    (same_some q p point) (same_some m n nozzle) (same_some r reading carried)
reads_last p n reading s (Lift q m r) taken has point nozzle carried =
    ap (λ (k : ℕ). reading_of k n s.nozzles) (sym (same_some q p point))
    ∙ ap (λ (k : ℕ). reading_of q k s.nozzles) (sym (same_some m n nozzle))
    ∙ still_reading (reading_of q m s.nozzles) r taken.reads ∙ same_some r reading carried
reads_last p n reading s e taken has point nozzle carried = absurd (cc)

pub each_reading_is_counted : EachReadingIsCounted
each_reading_is_counted = λ s r p n reading sound range has point nozzle carried accepted.
    let counts = counts_row p n s r sound range has in
    let passes = passed s r.actor r.event accepted in
    let taken = taken_when_passed s r.actor r.event range passes in
    let last : reading_of p n (site_after s r.actor r.event).nozzles ≡ reading =
    ap (λ (o : Option Refusal).
    reading_of p n (value_or o (accepted_site s r.actor r.event) s).nozzles) accepted
    ∙ reads_last p n reading s r.event taken has point nozzle carried in
    record { last = last; counted = omega (arith, counts.counter, last) }
