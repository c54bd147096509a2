-- A report that has passed its checks is ready.
use Rattle.std.proofs.Common.{◌≡◌, ℕ, ◌≤◌, ◌==◌, Bool, true, false, List, Some, None, refl, sym, ap}
use Rattle.std.proofs.Common.{subst, ◌∙◌, arith}
use Rattle.std.proofs.lemmas.Bool.Decides.{nat_tests}
use Rattle.std.proofs.lemmas.Grind.{common_steps}
use Rattle.site_base.specs.Checks.{unless}
use Rattle.site_base.specs.declared.actor.Actor.TheVariants.{Dispenser}
use Rattle.site_base.specs.declared.event.Event.TheVariants as events
use Rattle.site_base.specs.declared.amounts.TheConstants.{GREATEST_READING}
use Rattle.site_base.specs.declared.refusal.Refusal.{Refusal}
use Rattle.site_base.specs.declared.refusal.Refusal.TheVariants.{NotYourPoint}
use Rattle.site_base.specs.Table.{with_row}
use Rattle.fuelling_point.specs.declared.event.PointEvent.{PointEvent}
use Rattle.fuelling_point.specs.declared.event.PointEvent.TheVariants as points
use Rattle.fuelling_point.specs.KeptPoints.{Facts}
use Rattle.fuelling_point.specs.PointChecks.{refusal_of}
use Rattle.fuelling_point.specs.Step.{after, step_of}
use Rattle.meters.specs.Nozzles.{Nozzle, has_nozzle, reading_of, with_last}
use Rattle.meters.specs.Reports.{report_refusal}
use Rattle.meters.specs.declared.report.Report.{Report}
use Rattle.meters.specs.declared.report.Report.TheVariants.{Still, Growing}
use Rattle.written_site.specs.SiteState.{SiteState, facts_of}
use Rattle.written_site.specs.SiteChecks.{first_refusal, flow_since, is_nozzle_there, is_there}
use Rattle.written_site.specs.SiteChecks.{numbers}
use Rattle.written_site.specs.SiteChecks.{put_back_at}
use Rattle.written_site.specs.Sound.{Sound}
use Rattle.site_core.specs.declared.points.FoundPoint.{FoundPoint}
use Rattle.site_core.specs.declared.ready.Ready.TheVariants as ready
use Rattle.site_core.specs.FoundPoints.{IsFound}
use Rattle.site_core.specs.Ready.{IsReady}
use Rattle.site_core.proofs.Reports.{flow_fits, hang_up_ends, hang_up_fits, offline_ends}

passed : (b : Bool) (refusal : Refusal) → unless b refusal ≡ None → b ≡ true
passed true refusal is = refl
passed false refusal is = cc

-- the nozzle that the report names is there
nozzle_is : (s : SiteState) (p n : ℕ) → is_nozzle_there s (Some p) (Some n) ≡ None
    → has_nozzle p n s.nozzles ≡ true
nozzle_is s p n is = passed (has_nozzle p n s.nozzles) _ is

-- ---- a flow

flow_at : (s : SiteState) (d n reading : ℕ) (point : FoundPoint) → Sound s
    → IsFound point s.points → reading ≤ GREATEST_READING
    → refusal_of (points.Flow n (flow_since s point.number n reading)) (facts_of s point.number)
    ≡ None
    → is_there s (Some point.number) ≡ None
    → is_nozzle_there s (Some point.number) (Some n) ≡ None
    → unless (point.number == d) NotYourPoint ≡ None
    → report_refusal Growing (reading_of point.number n s.nozzles) reading ≡ None
    → IsReady s (Dispenser d) (events.Flow point.number n reading)
    (ready.Flow point n reading (flow_since s point.number n reading))
flow_at s d n reading point sound found top takes there nozzle own reads =
    let p = point.number in
    let names : numbers s (events.Flow p n reading) ≡ None = rw (there, nozzle) refl in
    record {
      accepted = rw (there, nozzle, own, takes, reads) refl;
      leads = refl;
      answers = refl;
      can = (
        record {
          found = found;
          takes = takes;
          fits = flow_fits s p n reading (flow_since s p n reading) sound names refl takes reads
              top;
        },
        nozzle_is s p n nozzle,
        reads,
      );
      fits = λ room has. tt;
      leaves = λ answer room. refl;
    }

pub flow_ready : (s : SiteState) (d p n reading growth : ℕ) (point : FoundPoint) → Sound s
    → is_there s (Some p) ≡ None → point.number ≡ p → IsFound point s.points
    → is_nozzle_there s (Some p) (Some n) ≡ None → unless (p == d) NotYourPoint ≡ None
    → growth ≡ flow_since s p n reading → reading ≤ GREATEST_READING
    → refusal_of (points.Flow n growth) (facts_of s point.number) ≡ None
    → report_refusal Growing (reading_of p n s.nozzles) reading ≡ None
    → IsReady s (Dispenser d) (events.Flow p n reading) (ready.Flow point n reading growth)
flow_ready s d p n reading growth point sound there number found nozzle own is top takes reads =
    subst (λ q. is_there s (Some q) ≡ None → is_nozzle_there s (Some q) (Some n) ≡ None
    → unless (q == d) NotYourPoint ≡ None
    → report_refusal Growing (reading_of q n s.nozzles) reading ≡ None
    → growth ≡ flow_since s q n reading
    → IsReady s (Dispenser d) (events.Flow q n reading) (ready.Flow point n reading growth))
    number
    (λ a b e r g. subst (λ k. refusal_of (points.Flow n k) (facts_of s point.number) ≡ None
    → IsReady s (Dispenser d) (events.Flow point.number n reading) (ready.Flow point n reading k))
    (sym g) (λ t. flow_at s d n reading point sound found top t a b e r) takes)
    there nozzle own reads is

-- ---- a hang up

grows : (report : Report) (last reading : ℕ) → report_refusal report last reading ≡ None
    → report_refusal Growing last reading ≡ None
grows Growing last reading reads = reads
grows Still last reading reads = grind (arith, common_steps, nat_tests)

hang_up_at : (s : SiteState) (d n reading : ℕ) (report : Report) (point : FoundPoint) → Sound s
    → IsFound point s.points → reading ≤ GREATEST_READING
    → report ≡ put_back_at (facts_of s point.number).state
    → refusal_of (points.HangUp n (flow_since s point.number n reading)) (facts_of s point.number)
    ≡ None
    → is_there s (Some point.number) ≡ None
    → is_nozzle_there s (Some point.number) (Some n) ≡ None
    → unless (point.number == d) NotYourPoint ≡ None
    → report_refusal report (reading_of point.number n s.nozzles) reading ≡ None
    → IsReady s (Dispenser d) (events.HangUp point.number n reading)
    (ready.HangUp point n reading (flow_since s point.number n reading))
hang_up_at s d n reading report point sound found top kind takes there nozzle own reads =
    let p = point.number in
    let growth = flow_since s p n reading in
    let names : numbers s (events.HangUp p n reading) ≡ None = rw (there, nozzle) refl in
    let agrees : report_refusal (put_back_at (facts_of s p).state) (reading_of p n s.nozzles)
    reading ≡ None =
    sym (ap (λ (r : Report). report_refusal r (reading_of p n s.nozzles) reading) kind) ∙ reads in
    let rows : List (ℕ × Facts) = with_row p (after (points.HangUp n growth) (facts_of s p))
    s.points in
    let before = hang_up_ends s s.points (with_last p n reading s.nozzles) p n reading growth report
    (step_of (points.HangUp n growth) (facts_of s p)) sound names refl takes kind reads top refl
    refl in
    let over = hang_up_ends s rows (with_last p n reading s.nozzles) p n reading growth report
    (step_of (points.HangUp n growth) (facts_of s p)) sound names refl takes kind reads top refl
    refl in
    record {
      accepted = rw (there, nozzle, own, takes, agrees) refl;
      leads = rw (over.sales, over.draws) refl;
      answers = refl;
      can = (
        record {
          found = found;
          takes = takes;
          fits = hang_up_fits s p n reading growth report sound names refl takes reads top;
        },
        nozzle_is s p n nozzle,
        grows report (reading_of p n s.nozzles) reading reads,
        before.place,
      );
      fits = λ room has. has;
      leaves = λ answer room. refl;
    }

pub hang_up_ready : (s : SiteState) (d p n reading growth : ℕ) (report : Report)
    (point : FoundPoint) → Sound s
    → is_there s (Some p) ≡ None → point.number ≡ p → IsFound point s.points
    → is_nozzle_there s (Some p) (Some n) ≡ None → unless (p == d) NotYourPoint ≡ None
    → growth ≡ flow_since s p n reading → reading ≤ GREATEST_READING
    → refusal_of (points.HangUp n growth) (facts_of s point.number) ≡ None
    → report ≡ put_back_at (facts_of s point.number).state
    → report_refusal report (reading_of p n s.nozzles) reading ≡ None
    → IsReady s (Dispenser d) (events.HangUp p n reading) (ready.HangUp point n reading growth)
hang_up_ready s d p n reading growth report point sound there number found nozzle own is top takes
    kind reads =
    subst (λ q. is_there s (Some q) ≡ None → is_nozzle_there s (Some q) (Some n) ≡ None
    → unless (q == d) NotYourPoint ≡ None
    → report_refusal report (reading_of q n s.nozzles) reading ≡ None
    → growth ≡ flow_since s q n reading
    → IsReady s (Dispenser d) (events.HangUp q n reading) (ready.HangUp point n reading growth))
    number
    (λ a b e r g. subst (λ k. refusal_of (points.HangUp n k) (facts_of s point.number) ≡ None
    → IsReady s (Dispenser d) (events.HangUp point.number n reading)
    (ready.HangUp point n reading k))
    (sym g) (λ t. hang_up_at s d n reading report point sound found top kind t a b e r) takes)
    there nozzle own reads is

-- ---- an offline

offline_at : (s : SiteState) (d : ℕ) (point : FoundPoint) → Sound s → IsFound point s.points
    → refusal_of points.Offline (facts_of s point.number) ≡ None
    → is_there s (Some point.number) ≡ None
    → unless (point.number == d) NotYourPoint ≡ None
    → IsReady s (Dispenser d) (events.Offline point.number) (ready.Offline point)
offline_at s d point sound found takes there own =
    let p = point.number in
    let names : numbers s (events.Offline p) ≡ None = rw there refl in
    let over = offline_ends s s.points p (step_of points.Offline (facts_of s p)) sound names takes
    refl in
    record {
      accepted = rw (there, own, takes) refl;
      leads = rw (over.sales, over.draws) refl;
      answers = refl;
      can = (record { found = found; takes = takes; fits = tt }, over.place);
      fits = λ room has. has;
      leaves = λ answer room. refl;
    }

pub offline_ready : (s : SiteState) (d p : ℕ) (point : FoundPoint) → Sound s
    → is_there s (Some p) ≡ None → point.number ≡ p → IsFound point s.points
    → unless (p == d) NotYourPoint ≡ None
    → refusal_of points.Offline (facts_of s point.number) ≡ None
    → IsReady s (Dispenser d) (events.Offline p) (ready.Offline point)
offline_ready s d p point sound there number found own takes =
    subst (λ q. is_there s (Some q) ≡ None → unless (q == d) NotYourPoint ≡ None
    → IsReady s (Dispenser d) (events.Offline q) (ready.Offline point))
    number (λ a e. offline_at s d point sound found takes a e) there own
