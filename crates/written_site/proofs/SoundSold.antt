-- Where the point of an event sells or draws, at a sound site.
use Rattle.std.proofs.Common.{◌≡◌, ℕ, ◌+◌, ◌-◌, ◌≤◌, ◌<◌, true, Option, Some, None, refl, ◌∙◌}
use Rattle.std.proofs.Common.{arith}
use Rattle.std.proofs.lemmas.Grind.{common_steps}
use Rattle.site_base.specs.declared.actor.Actor.{Actor}
use Rattle.site_base.specs.declared.actor.Actor.TheVariants.{Till}
use Rattle.site_base.specs.declared.event.Event.{Event}
use Rattle.site_base.specs.declared.event.Event.TheVariants.{SignOff, Lock, Unlock, Clear, Offline}
use Rattle.site_base.specs.declared.event.Event.TheVariants.{HangUp}
use Rattle.transaction_buffer.specs.declared.shelf.TheConstants.{UNPAID_LIMIT}
use Rattle.site_base.specs.declared.state.PointState.{PointState}
use Rattle.site_base.specs.Table.{row_of}
use Rattle.fuelling_point.specs.declared.event.PointEvent.{PointEvent}
use Rattle.fuelling_point.specs.declared.event.PointEvent.TheVariants as points
use Rattle.fuelling_point.specs.declared.step.PointStep.{PointStep}
use Rattle.fuelling_point.specs.declared.step.PointStep.TheVariants.{Sold}
use Rattle.fuelling_point.specs.KeptPoints.{Facts, is_under_way, growth_of}
use Rattle.fuelling_point.specs.PointChecks.{refusal_of}
use Rattle.fuelling_point.specs.Step.{step_of}
use Rattle.fuelling_point.specs.Whole.{IsWhole, is_released}
use Rattle.meters.specs.Nozzles.{reading_of}
use Rattle.transaction_buffer.specs.declared.request.Request.TheVariants as requests
use Rattle.transaction_buffer.specs.Sales.{made_at, unpaid_at}
use Rattle.written_site.specs.SiteState.{SiteState, facts_of, has_point, key_named, open_shift}
use Rattle.written_site.specs.SiteChecks.{own_event, numbers, at_point, flow_since}
use Rattle.written_site.specs.SiteStep.{step_at, nozzles_after, sales_after, sale_made}
use Rattle.written_site.specs.Sound.{IsPointSound, IsSaleSound, MaySell, Sound}
use Rattle.written_site.specs.SoundSteps.{IsTaken}
use Rattle.written_site.specs.Volumes.{nozzle_out, running_at}
use Rattle.written_site.proofs.EachSale.{Each}
use Rattle.written_site.proofs.SoundTables.{row_there}
use Rattle.written_site.proofs.SoundMachine.{sold_from}
use Rattle.written_site.proofs.SoundReports.{IsRead, read_of, reading_read}
use Rattle.written_site.proofs.SoundSales.{sells, let_go_counts, asked_counts, unpaid_by, order_by}
use Rattle.written_site.proofs.SoundSales.{signed_off_sales, asked_sales, sales_by_step}

-- ---- the event's own point

pub own_there : (s : SiteState) (e : Event) (p : ℕ) (event : PointEvent) → numbers s e ≡ None
    → own_event s e ≡ Some (p, event) → has_point s p ≡ true
own_there s e p event names own = grind (arith, common_steps)

-- it is sound, and takes the event
pub record OwnPoint (s : SiteState) (e : Event) (p : ℕ) (event : PointEvent) : Type 0 where
  pub there : row_of p s.points ≡ Some (facts_of s p)
  pub sound : IsPointSound s p (facts_of s p)
  pub taken : refusal_of event (facts_of s p) ≡ None

pub own_point : (s : SiteState) (e : Event) (p : ℕ) (event : PointEvent) → Sound s → IsTaken s e
    → own_event s e ≡ Some (p, event) → OwnPoint s e p event
own_point s e p event sound taken own =
    let there = row_there s.points p (own_there s e p event taken.names own) in
    let takes : at_point s e ≡ None = taken.takes in
    record {
      there = there;
      sound = sound.points p (facts_of s p) there;
      taken = rw own at takes;
    }

-- what has flowed in the fuelling under way, the event's own growth with it, is what its meter has
-- grown since the start
pub run_read : (s : SiteState) (e : Event) (p : ℕ) (event : PointEvent) → IsRead s e
    → own_event s e ≡ Some (p, event) → IsWhole (facts_of s p)
    → (facts_of s p).start + (facts_of s p).volume
    ≡ reading_of p (nozzle_out (facts_of s p)) s.nozzles
    → is_under_way (facts_of s p).state ≡ true
    → running_at (nozzles_after s e) p (facts_of s p) ≡ (facts_of s p).volume + growth_of event
run_read s e p event taken own whole start under_way =
    let f : Facts = facts_of s p in
    let reads = reading_read s e p event taken own whole under_way in
    let since : reading_of p (nozzle_out f) (nozzles_after s e) - f.start
    ≡ f.volume + growth_of event =
    omega (arith, reads, start) in
    rw under_way since

pub run_own : (s : SiteState) (e : Event) (p : ℕ) (event : PointEvent) → IsTaken s e
    → own_event s e ≡ Some (p, event) → IsPointSound s p (facts_of s p)
    → is_under_way (facts_of s p).state ≡ true
    → running_at (nozzles_after s e) p (facts_of s p) ≡ (facts_of s p).volume + growth_of event
run_own s e p event taken own point under_way =
    run_read s e p event (read_of s e taken) own point.whole (point.flowed under_way) under_way

-- a step that is a sale, with its values
pub record IsSale (step : PointStep) : Type 0 where
  pub nozzle : ℕ
  pub volume : ℕ
  pub price : ℕ
  pub prepaid : Option ℕ
  pub is : step ≡ Sold nozzle volume price prepaid

pub sale_of_step : (step : PointStep) → sells step ≡ true → IsSale step
sale_of_step (Sold nozzle volume price prepaid) is =
    record { nozzle = nozzle; volume = volume; price = price; prepaid = prepaid; is = refl }
sale_of_step step is = absurd cc

-- a fuelling under way was released
pub under_way_released : (state : PointState) → is_under_way state ≡ true → is_released state ≡ true
under_way_released state is = grind (arith, common_steps)

-- a point that sells may sell, and what it sells is a sound sale
pub may_sell_there : (s : SiteState) (e : Event) (p : ℕ) (event : PointEvent) → Sound s
    → IsTaken s e
    → own_event s e ≡ Some (p, event) → sells (step_of event (facts_of s p)) ≡ true → MaySell s p
may_sell_there s e p event sound taken own is =
    let f : Facts = facts_of s p in
    let own_is = own_point s e p event sound taken own in
    let sale = sale_of_step (step_of event f) is in
    let from = sold_from event f sale.nozzle sale.volume sale.price sale.prepaid own_is.sound.whole
    own_is.taken sale.is in
    own_is.sound.room (under_way_released f.state from.was) from.sale

pub sale_is_sound : (s : SiteState) (e : Event) (p : ℕ) (event : PointEvent) → Sound s → IsTaken s e
    → own_event s e ≡ Some (p, event) → sells (step_of event (facts_of s p)) ≡ true
    → IsSaleSound (sale_made s (nozzles_after s e) p)
sale_is_sound s e p event sound taken own is =
    let f : Facts = facts_of s p in
    let own_is = own_point s e p event sound taken own in
    let sale = sale_of_step (step_of event f) is in
    let from = sold_from event f sale.nozzle sale.volume sale.price sale.prepaid own_is.sound.whole
    own_is.taken sale.is in
    let run = run_own s e p event taken own own_is.sound from.was in
    record {
      something = omega (arith, run, from.its_volume, from.something);
      price = own_is.sound.price from.was;
      cents = refl;
    }

-- ---- the sales after an event

pub unpaid_after : (s : SiteState) (a : Actor) (e : Event) → Sound s → IsTaken s e → (q : ℕ)
    → unpaid_at q (sales_after s a e) ≤ UNPAID_LIMIT
unpaid_after s (Till t) SignOff sound taken = λ q.
    omega (arith, (let_go_counts t q s.sales).unpaid, sound.unpaid q)
unpaid_after s (Till t) (Lock p id) sound taken = λ q.
    omega (
      arith,
      (asked_counts requests.Lock t (key_named s p id) q s.sales).unpaid,
      sound.unpaid q,
    )
unpaid_after s (Till t) (Unlock p id) sound taken = λ q.
    omega (
      arith,
      (asked_counts requests.Unlock t (key_named s p id) q s.sales).unpaid,
      sound.unpaid q,
    )
unpaid_after s (Till t) (Clear p id) sound taken = λ q.
    omega (
      arith,
      (asked_counts (requests.Clear (open_shift s)) t (key_named s p id) q s.sales).unpaid,
      sound.unpaid q,
    )
unpaid_after s a (Offline p) sound taken =
    unpaid_by s s.nozzles p (step_at s (Offline p))
    (may_sell_there s (Offline p) p points.Offline sound taken refl) sound.unpaid
unpaid_after s a (HangUp p n reading) sound taken =
    unpaid_by s (nozzles_after s (HangUp p n reading)) p (step_at s (HangUp p n reading))
    (may_sell_there s (HangUp p n reading) p (points.HangUp n (flow_since s p n reading)) sound
    taken
    refl)
    sound.unpaid
unpaid_after s a e sound taken = sound.unpaid

pub order_after : (s : SiteState) (a : Actor) (e : Event)
    → ((q h : ℕ) → open_shift s < h → made_at q h s.sales ≡ 0) → (q h : ℕ)
    → open_shift s < h → made_at q h (sales_after s a e) ≡ 0
order_after s (Till t) SignOff order = λ q h later.
    (let_go_counts t q s.sales).made h ∙ order q h later
order_after s (Till t) (Lock p id) order = λ q h later.
    (asked_counts requests.Lock t (key_named s p id) q s.sales).made h ∙ order q h later
order_after s (Till t) (Unlock p id) order = λ q h later.
    (asked_counts requests.Unlock t (key_named s p id) q s.sales).made h ∙ order q h later
order_after s (Till t) (Clear p id) order = λ q h later.
    (asked_counts (requests.Clear (open_shift s)) t (key_named s p id) q s.sales).made h
    ∙ order q h later
order_after s a (Offline p) order =
    order_by s s.nozzles p (step_at s (Offline p)) order
order_after s a (HangUp p n reading) order =
    order_by s (nozzles_after s (HangUp p n reading)) p (step_at s (HangUp p n reading)) order
order_after s a e order = order

pub sale_after : (s : SiteState) (a : Actor) (e : Event) → Sound s → IsTaken s e
    → Each IsSaleSound (sales_after s a e)
sale_after s (Till t) SignOff sound taken = signed_off_sales t s.sales sound.sales
sale_after s (Till t) (Lock p id) sound taken =
    asked_sales requests.Lock t (key_named s p id) s.sales sound.sales
sale_after s (Till t) (Unlock p id) sound taken =
    asked_sales requests.Unlock t (key_named s p id) s.sales sound.sales
sale_after s (Till t) (Clear p id) sound taken =
    asked_sales (requests.Clear (open_shift s)) t (key_named s p id) s.sales sound.sales
sale_after s a (Offline p) sound taken =
    sales_by_step s s.nozzles p (step_at s (Offline p))
    (sale_is_sound s (Offline p) p points.Offline sound taken refl) sound.sales
sale_after s a (HangUp p n reading) sound taken =
    sales_by_step s (nozzles_after s (HangUp p n reading)) p (step_at s (HangUp p n reading))
    (sale_is_sound s (HangUp p n reading) p (points.HangUp n (flow_since s p n reading)) sound taken
    refl)
    sound.sales
sale_after s a e sound taken = sound.sales
