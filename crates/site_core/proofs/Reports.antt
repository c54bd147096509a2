-- What a sound site gives to a report: what flows fits, and what it ends has its place.
use Rattle.std.proofs.Common.{◌≡◌, ℕ, ◌+◌, ◌-◌, ◌*◌, ◌<◌, ◌≤◌, ◌==◌, nat_lt, Bool, true, false}
use Rattle.std.proofs.Common.{List, Option, Some, None, Ok, is_some, unwrap_or, refl, sym, ap}
use Rattle.std.proofs.Common.{subst, ◌∙◌, arith}
use Rattle.std.proofs.lemmas.Bool.Decides.{nat_tests}
use Rattle.std.proofs.lemmas.Grind.{common_steps}
use Rattle.std.specs.FinMap.{FinMap}
use Rattle.std.specs.Ordering.{nat_cmp}
use Rattle.site_base.specs.declared.actor.Actor.TheVariants.{Dispenser}
use Rattle.site_base.specs.declared.answer.Answer.{Answer}
use Rattle.site_base.specs.declared.event.Event.{Event}
use Rattle.site_base.specs.declared.event.Event.TheVariants.{Offline, Flow, HangUp}
use Rattle.site_base.specs.declared.numbers.TheConstants.{GREATEST_SEQ}
use Rattle.site_base.specs.declared.amounts.TheConstants.{GREATEST_READING}
use Rattle.fuelling_point.specs.declared.event.PointEvent.{PointEvent}
use Rattle.fuelling_point.specs.declared.event.PointEvent.TheVariants as points
use Rattle.fuelling_point.specs.declared.step.PointStep.{PointStep}
use Rattle.fuelling_point.specs.declared.step.PointStep.TheVariants.{Sold, Drawn}
use Rattle.fuelling_point.specs.KeptPoints.{Facts, growth_of, is_under_way, volume_of}
use Rattle.fuelling_point.specs.PointChecks.{refusal_of}
use Rattle.fuelling_point.specs.Step.{step_of, after}
use Rattle.site_base.specs.Table.{with_row}
use Rattle.fuelling_point.specs.Whole.{IsWhole, is_released}
use Rattle.meters.specs.MeteredVolumes.{most_of_a_site, product_alone, product_total}
use Rattle.meters.specs.Nozzles.{Nozzle, product_of, reading_of, nozzle_of, with_last}
use Rattle.meters.specs.Reports.{report_refusal}
use Rattle.meters.specs.declared.report.Report.{Report}
use Rattle.meters.specs.declared.report.Report.TheVariants.{Growing}
use Rattle.meters.proofs.Bounds.{total_bound, each_found}
use Rattle.meters.proofs.Weights.{accepted_above}
use Rattle.transaction_buffer.specs.Sales.{Sale, next_after}
use Rattle.transaction_buffer.specs.Sums as sums
use Rattle.transaction_buffer.proofs.Summing.{alike_sum}
use Rattle.transaction_buffer.proofs.Volumes.{add_up}
use Rattle.site_base.specs.declared.state.Status.TheVariants as statuses
use Rattle.written_site.specs.SiteState.{SiteState, facts_of, has_point}
use Rattle.written_site.specs.SiteChecks.{own_event, numbers, flow_since, put_back_at, may_ask}
use Rattle.written_site.specs.SiteChecks.{first_refusal}
use Rattle.written_site.specs.SiteStep.{Steps, sales_by, draws_by, nozzles_after, step_told}
use Rattle.written_site.specs.SiteStep.{holds_unless_over}
use Rattle.written_site.specs.SoundSteps.{IsTaken}
use Rattle.written_site.specs.Sound.{Sound, IsPointSound, MaySell}
use Rattle.written_site.specs.Volumes.{nozzle_out, running_volume, running_at, sold_by, drawn_of}
use Rattle.written_site.proofs.SoundTables.{row_there}
use Rattle.written_site.proofs.SoundMeters.{some_of, product_after}
use Rattle.written_site.proofs.SoundReports.{reading_own}
use Rattle.written_site.proofs.SoundMachine.{sold_from, drawn_from}
use Rattle.site_core.specs.Endings.{sales_with, draws_with, HasPlace, MayEnd}

-- ---- the point of a report

pub point_at : (s : SiteState) (p : ℕ) → Sound s → has_point s p ≡ true
    → IsPointSound s p (facts_of s p)
point_at s p sound there = sound.points p (facts_of s p) (row_there s.points p there)

-- the nozzle that flows, or is put back, is the one that is out
pub flow_is_out : (n growth : ℕ) (f : Facts) → IsWhole f
    → refusal_of (points.Flow n growth) f ≡ None → nozzle_out f ≡ n
flow_is_out n growth f w taken = let nozzle = w.nozzle in grind (arith, common_steps, nat_tests)

pub hung_up_is_out : (n growth : ℕ) (f : Facts) → IsWhole f
    → refusal_of (points.HangUp n growth) f ≡ None → nozzle_out f ≡ n
hung_up_is_out n growth f w taken = let nozzle = w.nozzle in grind (arith, common_steps, nat_tests)

-- what flows up to a reading of the nozzle that is out fits
pub fits : (s : SiteState) (p n reading : ℕ) (f : Facts) → IsPointSound s p f → nozzle_out f ≡ n
    → reading_of p n s.nozzles ≤ reading → reading ≤ GREATEST_READING
    → volume_of f + (reading - reading_of p n s.nozzles) ≤ GREATEST_READING
fits s p n reading f point out above top = by_test (is_under_way f.state) refl
  where
    by_test : (b : Bool) → is_under_way f.state ≡ b
        → volume_of f + (reading - reading_of p n s.nozzles) ≤ GREATEST_READING
    by_test true is =
        let flowed : f.start + f.volume ≡ reading_of p n s.nozzles =
        point.flowed is ∙ ap (λ (m : ℕ). reading_of p m s.nozzles) out in
        rw is (omega arith)
    by_test false is = rw is (omega arith)

-- ---- the sums of a product

alone : (q : ℕ) (x : Sale) → product_alone q x.product * x.volume ≡ sums.volume_in q x
alone q x = by_test (x.product == q) refl
  where
    by_test : (b : Bool) → (x.product == q) ≡ b
        → product_alone q x.product * x.volume ≡ sums.volume_in q x
    by_test true is = rw is (omega arith)
    by_test false is = rw is (omega arith)

-- the volume of the sales of a product
pub sold_alone : (q : ℕ) (s : SiteState)
    → sold_by (product_alone q) s.sales ≡ sums.volume_of q s.sales
sold_alone q s = alike_sum _ _ (alone q) s.sales

-- what the meters have counted of a product is in fuellings, in sales and in draws
pub conserved_of : (s : SiteState) (q : ℕ) → Sound s
    → product_total q s.nozzles ≡ running_volume s q + sums.volume_of q s.sales + drawn_of q s.drawn
conserved_of s q sound =
    sound.conserved (product_alone q)
    ∙ ap (λ (v : ℕ). running_volume s q + v + drawn_of q s.drawn) (sold_alone q s)

-- what is in fuellings under way is what the meters have counted of a product and no sale or draw
-- has
pub record IsRest (metered running payable locked cleared adjusted : ℕ) : Type 0 where
  pub whole : metered ≡ running + (payable + locked + cleared) + adjusted
  pub rest : metered - payable - locked - cleared - adjusted ≡ running

pub rest_of : (s : SiteState) (q : ℕ) → Sound s
    → IsRest (product_total q s.nozzles) (running_volume s q)
    (sums.volume_by q statuses.Payable s.sales)
    (sums.volume_by q statuses.Locked s.sales) (sums.volume_by q statuses.Cleared s.sales)
    (drawn_of q s.drawn)
rest_of s q sound =
    let whole = conserved_of s q sound
    ∙ ap (λ (v : ℕ). running_volume s q + v + drawn_of q s.drawn) (sym (add_up q s.sales)) in
    record { whole = whole; rest = omega (arith, whole) }

-- the same of figures that equal these
pub rest_told : (s : SiteState) (q metered payable locked cleared adjusted : ℕ) → Sound s
    → metered ≡ product_total q s.nozzles → payable ≡ sums.volume_by q statuses.Payable s.sales
    → locked ≡ sums.volume_by q statuses.Locked s.sales
    → cleared ≡ sums.volume_by q statuses.Cleared s.sales → adjusted ≡ drawn_of q s.drawn
    → IsRest metered (running_volume s q) payable locked cleared adjusted
rest_told s q metered payable locked cleared adjusted sound a b c d e =
    rw (a, b, c, d, e) (rest_of s q sound)

pub sold_bound : (s : SiteState) (q : ℕ) → Sound s → sums.volume_of q s.sales ≤ most_of_a_site
sold_bound s q sound =
    let whole = conserved_of s q sound in
    let most = total_bound q s.nozzles sound.meters in
    omega (arith, whole, most)

pub drawn_bound : (s : SiteState) (q : ℕ) → Sound s → drawn_of q s.drawn ≤ most_of_a_site
drawn_bound s q sound =
    let whole = conserved_of s q sound in
    let most = total_bound q s.nozzles sound.meters in
    omega (arith, whole, most)

-- ---- the end of a fuelling

-- these nozzles read what they read in s, but for what flowed in the event at point p
pub record HasFlowed (s : SiteState) (nozzles : List Nozzle) (p : ℕ) (event : PointEvent) : Type 0
  where
    pub products : (m : ℕ) → product_of p m nozzles ≡ product_of p m s.nozzles
    pub reads : is_under_way (facts_of s p).state ≡ true
        → reading_of p (nozzle_out (facts_of s p)) nozzles
        ≡ reading_of p (nozzle_out (facts_of s p)) s.nozzles + growth_of event
    pub fits : volume_of (facts_of s p) + growth_of event ≤ GREATEST_READING

-- what a step of point p ends has its place, and is what the site's rules make of it
pub record Ended (s mid : SiteState) (nozzles : List Nozzle) (p : ℕ) (step : PointStep) : Type 0
  where
    pub place : MayEnd mid p step
    pub sales : sales_with mid p step ≡ sales_by s nozzles p step
    pub draws : draws_with mid p step ≡ draws_by s nozzles p step

-- the nozzle that is out where a fuelling is under way
out_there : (f : Facts) → IsWhole f → is_under_way f.state ≡ true → f.out ≡ Some (nozzle_out f)
out_there f w under_way = let nozzle = w.nozzle in grind (arith, common_steps)

released : (f : Facts) → is_under_way f.state ≡ true → is_released f.state ≡ true
released f under_way = grind (arith, common_steps)

-- its product is there
product_there : (s : SiteState) (nozzles : List Nozzle) (p : ℕ) (event : PointEvent)
    → IsPointSound s p (facts_of s p) → HasFlowed s nozzles p event
    → is_under_way (facts_of s p).state ≡ true
    → is_some (product_of p (nozzle_out (facts_of s p)) nozzles) ≡ true
product_there s nozzles p event point flowed under_way =
    let f = facts_of s p in
    ap is_some (flowed.products (nozzle_out f))
    ∙ some_of (λ x. x.product) (nozzle_of p (nozzle_out f) s.nozzles)
    ∙ point.nozzle (nozzle_out f) (out_there f point.whole under_way)

-- the volume that the point tells is what the nozzle's meter has grown since the start
volume_is : (s : SiteState) (nozzles : List Nozzle) (p : ℕ) (event : PointEvent) (volume : ℕ)
    → IsPointSound s p (facts_of s p) → HasFlowed s nozzles p event
    → is_under_way (facts_of s p).state ≡ true
    → volume ≡ (facts_of s p).volume + growth_of event
    → volume ≡ running_at nozzles p (facts_of s p)
volume_is s nozzles p event volume point flowed under_way is =
    let f = facts_of s p in
    let start : f.start + f.volume ≡ reading_of p (nozzle_out f) s.nozzles =
    point.flowed under_way in
    let read : reading_of p (nozzle_out f) nozzles
    ≡ reading_of p (nozzle_out f) s.nozzles + growth_of event = flowed.reads under_way in
    let whole : volume ≡ reading_of p (nozzle_out f) nozzles - f.start = omega arith in
    rw under_way whole

volume_fits : (s : SiteState) (nozzles : List Nozzle) (p : ℕ) (event : PointEvent) (volume : ℕ)
    → HasFlowed s nozzles p event → is_under_way (facts_of s p).state ≡ true
    → volume ≡ (facts_of s p).volume + growth_of event → volume ≤ GREATEST_READING
volume_fits s nozzles p event volume flowed under_way is =
    let f = facts_of s p in
    let same : volume_of f ≡ f.volume = rw under_way refl in
    let within : volume_of f + growth_of event ≤ GREATEST_READING = flowed.fits in
    omega arith

number_left : (made : ℕ) → made < GREATEST_SEQ → is_some (next_after made) ≡ true
number_left made below = by_test (nat_lt made GREATEST_SEQ) refl
  where
    by_test : (b : Bool) → nat_lt made GREATEST_SEQ ≡ b → is_some (next_after made) ≡ true
    by_test true is = rw is refl
    by_test false is = absurd (grind (arith, nat_tests))

has_place : (s mid : SiteState) (nozzles : List Nozzle) (p : ℕ) (event : PointEvent) (q volume : ℕ)
    → Sound s → IsPointSound s p (facts_of s p) → HasFlowed s nozzles p event
    → is_under_way (facts_of s p).state ≡ true → (facts_of s p).test ≡ false
    → volume ≡ (facts_of s p).volume + growth_of event
    → mid.sales ≡ s.sales → mid.drawn ≡ s.drawn → HasPlace mid p q volume
has_place s mid nozzles p event q volume sound point flowed under_way sale is same drawn =
    let room : MaySell s p = point.room (released (facts_of s p) under_way) sale in
    let within = volume_fits s nozzles p event volume flowed under_way is in
    let most = sold_bound s q sound in
    rw (same, drawn) (record {
      unpaid = room.unpaid;
      number = number_left _ room.number;
      order = λ g above within. sound.order p g above;
      fits = omega (arith, within, most);
    })

pub ended : (s : SiteState) (rows : List (ℕ × Facts)) (nozzles : List Nozzle) (p : ℕ)
    (event : PointEvent)
    → Sound s → has_point s p ≡ true → refusal_of event (facts_of s p) ≡ None
    → HasFlowed s nozzles p event
    → Ended s (record s { points = rows; nozzles = nozzles }) nozzles p
    (step_of event (facts_of s p))
ended s rows nozzles p event sound there taken flowed = by_step (step_of event (facts_of s p)) refl
  where
    point : IsPointSound s p (facts_of s p)
    point = point_at s p sound there

    by_step : (step : PointStep) → step_of event (facts_of s p) ≡ step
        → Ended s (record s { points = rows; nozzles = nozzles }) nozzles p step
    by_step (Sold nozzle volume price prepaid) is =
        let from = sold_from event (facts_of s p) nozzle volume price prepaid point.whole taken
        is in
        let its = volume_is s nozzles p event volume point flowed from.was from.its_volume in
        record {
          place = (
            rw from.its_nozzle (product_there s nozzles p event point flowed from.was),
            has_place s (record s { points = rows; nozzles = nozzles }) nozzles p event _ volume
                sound point flowed
                from.was from.sale from.its_volume refl refl,
          );
          sales = rw (from.its_nozzle, from.its_price, from.its_prepaid, its) refl;
          draws = refl;
        }
    by_step (Drawn nozzle volume) is =
        let from = drawn_from event (facts_of s p) nozzle volume point.whole taken is in
        let its = volume_is s nozzles p event volume point flowed from.was from.its_volume in
        let within = volume_fits s nozzles p event volume flowed from.was from.its_volume in
        record {
          place = (
            rw from.its_nozzle (product_there s nozzles p event point flowed from.was),
            omega (arith, within, drawn_bound s (unwrap_or (product_of p nozzle nozzles) 0) sound),
          );
          sales = refl;
          draws = rw (from.its_nozzle, its) refl;
        }
    by_step step is = record { place = tt; sales = refl; draws = refl }

-- ---- reports of the site

-- a last reading is one that a meter can show
reading_bound : (s : SiteState) (p n : ℕ) → Sound s → reading_of p n s.nozzles ≤ GREATEST_READING
reading_bound s p n sound = by_nozzle (nozzle_of p n s.nozzles) refl
  where
    by_nozzle : (o : Option Nozzle) → nozzle_of p n s.nozzles ≡ o
        → reading_of p n s.nozzles ≤ GREATEST_READING
    by_nozzle None is = rw is (omega arith)
    by_nozzle (Some x) is = rw is (each_found p n s.nozzles x sound.meters.each is).within

-- what an event that its point and its meter take ends, at a sound site
report_ended : (s : SiteState) (rows : List (ℕ × Facts)) (e : Event) (p : ℕ) (event : PointEvent)
    → Sound s → IsTaken s e → own_event s e ≡ Some (p, event) → has_point s p ≡ true
    → refusal_of event (facts_of s p) ≡ None
    → volume_of (facts_of s p) + growth_of event ≤ GREATEST_READING
    → Ended s (record s { points = rows; nozzles = nozzles_after s e }) (nozzles_after s e) p
    (step_of event (facts_of s p))
report_ended s rows e p event sound taken own there takes fit =
    ended s rows (nozzles_after s e) p event sound there takes (record {
      products = λ m. product_after s e p m;
      reads = λ under_way.
          reading_own s e p event taken own (point_at s p sound there).whole under_way;
      fits = fit;
    })

-- what a report names is there
flow_there : (s : SiteState) (p n reading : ℕ) → numbers s (Flow p n reading) ≡ None
    → has_point s p ≡ true
flow_there s p n reading names = grind (arith, common_steps)

hung_up_there : (s : SiteState) (p n reading : ℕ) → numbers s (HangUp p n reading) ≡ None
    → has_point s p ≡ true
hung_up_there s p n reading names = grind (arith, common_steps)

offline_there : (s : SiteState) (p : ℕ) → numbers s (Offline p) ≡ None → has_point s p ≡ true
offline_there s p names = grind (arith, common_steps)

pub flow_fits : (s : SiteState) (p n reading growth : ℕ) → Sound s
    → numbers s (Flow p n reading) ≡ None → growth ≡ flow_since s p n reading
    → refusal_of (points.Flow n growth) (facts_of s p) ≡ None
    → report_refusal Growing (reading_of p n s.nozzles) reading ≡ None
    → reading ≤ GREATEST_READING → volume_of (facts_of s p) + growth ≤ GREATEST_READING
flow_fits s p n reading growth sound names is takes reads top =
    let point = point_at s p sound (flow_there s p n reading names) in
    rw is (fits s p n reading (facts_of s p) point
    (flow_is_out n growth (facts_of s p) point.whole takes)
    (accepted_above Growing (reading_of p n s.nozzles) reading reads) top)

pub hang_up_fits : (s : SiteState) (p n reading growth : ℕ) (report : Report) → Sound s
    → numbers s (HangUp p n reading) ≡ None → growth ≡ flow_since s p n reading
    → refusal_of (points.HangUp n growth) (facts_of s p) ≡ None
    → report_refusal report (reading_of p n s.nozzles) reading ≡ None
    → reading ≤ GREATEST_READING → volume_of (facts_of s p) + growth ≤ GREATEST_READING
hang_up_fits s p n reading growth report sound names is takes reads top =
    let point = point_at s p sound (hung_up_there s p n reading names) in
    rw is (fits s p n reading (facts_of s p) point
    (hung_up_is_out n growth (facts_of s p) point.whole takes)
    (accepted_above report (reading_of p n s.nozzles) reading reads) top)

pub hang_up_ends : (s : SiteState) (rows : List (ℕ × Facts)) (nozzles : List Nozzle)
    (p n reading growth : ℕ) (report : Report) (step : PointStep) → Sound s
    → numbers s (HangUp p n reading) ≡ None → growth ≡ flow_since s p n reading
    → refusal_of (points.HangUp n growth) (facts_of s p) ≡ None
    → report ≡ put_back_at (facts_of s p).state
    → report_refusal report (reading_of p n s.nozzles) reading ≡ None
    → reading ≤ GREATEST_READING
    → nozzles ≡ with_last p n reading s.nozzles
    → step ≡ step_of (points.HangUp n growth) (facts_of s p)
    → Ended s (record s { points = rows; nozzles = nozzles }) nozzles p step
hang_up_ends s rows nozzles p n reading growth report step sound names is takes asks reads top moved
    told =
    let fit = hang_up_fits s p n reading growth report sound names is takes reads top in
    let same : refusal_of (points.HangUp n (flow_since s p n reading)) (facts_of s p) ≡ None =
    sym (ap (λ (g : ℕ). refusal_of (points.HangUp n g) (facts_of s p)) is) ∙ takes in
    let agrees : report_refusal (put_back_at (facts_of s p).state) (reading_of p n s.nozzles)
    reading ≡ None =
    sym (ap (λ (r : Report). report_refusal r (reading_of p n s.nozzles) reading) asks) ∙ reads in
    let fit' : volume_of (facts_of s p) + flow_since s p n reading ≤ GREATEST_READING =
    subst (λ (g : ℕ). volume_of (facts_of s p) + g ≤ GREATEST_READING) is fit in
    rw (moved, told, is) (report_ended s rows (HangUp p n reading) p
    (points.HangUp n (flow_since s p n reading)) sound
    (record { names = names; takes = same; reads = agrees; range = top }) refl
    (hung_up_there s p n reading names) same fit')

pub offline_ends : (s : SiteState) (rows : List (ℕ × Facts)) (p : ℕ) (step : PointStep) → Sound s
    → numbers s (Offline p) ≡ None → refusal_of points.Offline (facts_of s p) ≡ None
    → step ≡ step_of points.Offline (facts_of s p)
    → Ended s (record s { points = rows }) s.nozzles p step
offline_ends s rows p step sound names takes told =
    let there = offline_there s p names in
    rw told (report_ended s rows (Offline p) p points.Offline sound
    (record { names = names; takes = takes; reads = refl; range = tt }) refl there takes
    (resting_fits (facts_of s p) (point_at s p sound there)))
  where
    resting_fits : (f : Facts) → IsPointSound s p f → volume_of f + 0 ≤ GREATEST_READING
    resting_fits f point = by_test (is_under_way f.state) refl
      where
        by_test : (b : Bool) → is_under_way f.state ≡ b → volume_of f + 0 ≤ GREATEST_READING
        by_test true is =
            let flowed = point.flowed is in
            let top = reading_bound s p (nozzle_out f) sound in
            rw is (omega (arith, flowed, top))
        by_test false is = rw is (omega arith)

-- ---- the written step of a hang up

-- a step is told alike wherever the point's sales are the same
told_alike : (s : SiteState) (rows : List (ℕ × Facts)) (nozzles : List Nozzle) (p growth : ℕ)
    (step : PointStep)
    → step_told (record s { points = rows; nozzles = nozzles }) p growth step
    ≡ step_told s p growth step
told_alike s rows nozzles p growth (Sold nozzle volume price prepaid) = refl
told_alike s rows nozzles p growth step = refl

pub hang_up_steps : (s new : SiteState) (rows : List (ℕ × Facts)) (nozzles : List Nozzle)
    (holds : FinMap nat_cmp ℕ)
    (d p n reading growth : ℕ) (report : Report) (step : PointStep) (answer : Answer)
    → Ended s (record s { points = rows; nozzles = nozzles }) nozzles p step
    → may_ask s (Dispenser d) (HangUp p n reading) ≡ None → growth ≡ flow_since s p n reading
    → refusal_of (points.HangUp n growth) (facts_of s p) ≡ None
    → report ≡ put_back_at (facts_of s p).state
    → report_refusal report (reading_of p n s.nozzles) reading ≡ None
    → rows ≡ with_row p (after (points.HangUp n growth) (facts_of s p)) s.points
    → nozzles ≡ with_last p n reading s.nozzles
    → step ≡ step_of (points.HangUp n growth) (facts_of s p)
    → new ≡ record s {
      points = rows;
      nozzles = nozzles;
      sales = sales_with (record s { points = rows; nozzles = nozzles }) p step;
      drawn = draws_with (record s { points = rows; nozzles = nozzles }) p step;
    }
    → holds ≡ holds_unless_over p step s.holds
    → answer ≡ step_told (record s { points = rows; nozzles = nozzles }) p growth step
    → Steps s (Dispenser d) (HangUp p n reading) (record new { holds = holds }) (Ok answer)
hang_up_steps s new rows nozzles holds d p n reading growth report step answer over asks is takes
    kind reads moved read stepped led held told =
    let same : refusal_of (points.HangUp n (flow_since s p n reading)) (facts_of s p) ≡ None =
    sym (ap (λ (g : ℕ). refusal_of (points.HangUp n g) (facts_of s p)) is) ∙ takes in
    let agrees : report_refusal (put_back_at (facts_of s p).state) (reading_of p n s.nozzles)
    reading ≡ None =
    sym (ap (λ (r : Report). report_refusal r (reading_of p n s.nozzles) reading) kind) ∙ reads in
    let accepted : first_refusal s (Dispenser d) (HangUp p n reading) ≡ None =
    rw (asks, same, agrees) refl in
    record {
      replies = rw (accepted, told, told_alike s rows nozzles p growth step, stepped, is) refl;
      leads = rw (accepted, led, held, over.sales, over.draws, moved, read, stepped, is) refl;
    }
