-- How an event moves the volumes of a sound site.
use Rattle.std.proofs.Common.{◌≡◌, ℕ, ◌+◌, ◌-◌, ◌*◌, ◌≤◌, Bool, true, false, cond, List, Option}
use Rattle.std.proofs.Common.{option_map, Some, None, is_some, unwrap_or, refl, sym, ap, subst, ◌∙◌}
use Rattle.std.proofs.Common.{◌⊎◌, inl, inr, arith}
use Rattle.std.proofs.Math.Nat.{mul-zero, mul-add}
use Rattle.std.proofs.lemmas.Bool.{false≢true}
use Rattle.std.proofs.lemmas.Bool.Decides.{nat_tests}
use Rattle.std.proofs.lemmas.Grind.{common_steps}
use Rattle.site_base.specs.declared.actor.Actor.{Actor}
use Rattle.site_base.specs.declared.actor.Actor.TheVariants.{Till}
use Rattle.site_base.specs.declared.event.Event.{Event}
use Rattle.site_base.specs.declared.event.Event.TheVariants.{SignOff, ReplaceMeter, Lock, Unlock}
use Rattle.site_base.specs.declared.event.Event.TheVariants.{Clear, CloseShift, Offline, Flow}
use Rattle.site_base.specs.declared.event.Event.TheVariants.{HangUp}
use Rattle.site_base.specs.declared.state.PointState.TheVariants as states
use Rattle.std.specs.Prelude.{nat_eq}
use Rattle.site_base.specs.Configured.{none_alike}
use Rattle.site_base.specs.Table.{with_row}
use Rattle.fuelling_point.specs.declared.event.PointEvent.{PointEvent}
use Rattle.fuelling_point.specs.declared.event.PointEvent.TheVariants as points
use Rattle.fuelling_point.specs.declared.step.PointStep.{PointStep}
use Rattle.fuelling_point.specs.declared.step.PointStep.TheVariants.{Sold, Drawn}
use Rattle.fuelling_point.specs.KeptPoints.{Facts, is_under_way, volume_of, growth_of}
use Rattle.fuelling_point.specs.Laws.{sold_in, drawn_in}
use Rattle.fuelling_point.specs.Step.{step_of, after}
use Rattle.fuelling_point.proofs.Whole.{conserved}
use Rattle.meters.specs.MeteredVolumes.{metered_by}
use Rattle.meters.specs.Nozzles.{Nozzle, AreNozzles, nozzle_of, product_of, reading_of, has_nozzle}
use Rattle.meters.specs.Nozzles.{with_last}
use Rattle.meters.proofs.Lookups.{there, reading_is}
use Rattle.meters.proofs.Weights.{read_raises, meter_keeps, accepted_above}
use Rattle.meters.specs.declared.report.Report.TheVariants.{Growing}
use Rattle.transaction_buffer.specs.declared.standing.Standing.TheVariants.{Payable}
use Rattle.transaction_buffer.specs.declared.request.Request.{Request}
use Rattle.transaction_buffer.specs.declared.request.Request.TheVariants as requests
use Rattle.transaction_buffer.specs.Sales.{Key, Sale, Sales}
use Rattle.transaction_buffer.specs.TransactionTable.{after_request, after_sign_off, unlock_all_of}
use Rattle.transaction_buffer.specs.TransactionTable.{is_locked_by}
use Rattle.transaction_buffer.proofs.Summing.{sold_sum, changed_sum, alike_sum}
use Rattle.written_site.specs.SiteState.{SiteState, facts_in, facts_of, key_named, open_shift}
use Rattle.written_site.specs.SiteChecks.{own_event, flow_since, put_back_at}
use Rattle.written_site.specs.SiteStep.{nozzles_after, points_after, sales_after, sales_by}
use Rattle.written_site.specs.SiteStep.{sale_made, drawn_after, draws_by, step_at, step_by}
use Rattle.written_site.specs.SiteStep.{with_event}
use Rattle.written_site.specs.Sound.{IsPointSound, IsSupplied, Sound, numbers_of}
use Rattle.written_site.specs.SoundSteps.{IsTaken, MovesVolumes, ends_by, growth_at, growth_by}
use Rattle.written_site.specs.SoundSteps.{product_at, product_by, sold_at, drawn_at}
use Rattle.written_site.specs.Volumes.{nozzle_out, product_out, running_at, running_by, sold_by}
use Rattle.written_site.specs.Volumes.{drawn_by}
use Rattle.written_site.proofs.SoundTables.{numbers_kept}
use Rattle.written_site.proofs.SoundMachine.{same_nozzle, sold_from, drawn_from, nothing_sold}
use Rattle.written_site.proofs.SoundMachine.{nothing_drawn}
use Rattle.written_site.proofs.SoundPoints.{out_under_way, run_is_volume, run_after}
use Rattle.written_site.proofs.SoundMeters.{product_after}
use Rattle.written_site.proofs.SoundReports.{flow_nozzle, hung_up_nozzle, flow_is_out}
use Rattle.written_site.proofs.SoundReports.{hung_up_is_out}
use Rattle.written_site.proofs.SoundRunning.{flowed_by, running_is, flowed_products, flowed_with}
use Rattle.written_site.proofs.SoundSold.{own_point, run_own}
use Rattle.written_site.proofs.SoundDraws.{drawn_more, opened_weighs}
use Rattle.written_site.proofs.AskedSums.{asked_keeps}

-- ---- metered

pub weighs_none : (weight volume : ℕ) → volume ≡ volume + weight * 0
weighs_none weight volume = omega (arith, mul-zero weight)

-- what a meter's reading adds, of the nozzle that is out
pub metered_out : (w : ℕ → ℕ) (s : SiteState) (p n reading : ℕ) (f : Facts) (x : Nozzle)
    → nozzle_of p n s.nozzles ≡ Some x → nozzle_out f ≡ n
    → metered_by w (with_last p n reading s.nozzles)
    ≡ metered_by w s.nozzles + w x.product * (reading - x.last)
    → metered_by w (with_last p n reading s.nozzles)
    ≡ metered_by w s.nozzles + w (product_out s.nozzles p f) * flow_since s p n reading
metered_out w s p n reading f x is out adds =
    let last : reading_of p n s.nozzles ≡ x.last = reading_is p n s.nozzles x is in
    let product : product_out s.nozzles p f ≡ x.product =
    ap (λ (m : ℕ). unwrap_or (product_of p m s.nozzles) 0) out
    ∙ ap (λ (o : Option Nozzle). unwrap_or (option_map (λ y. y.product) o) 0) is in
    adds
    ∙ ap (λ (q : ℕ). metered_by w s.nozzles + w q * (reading - x.last)) (sym product)
    ∙ ap (λ (v : ℕ). metered_by w s.nozzles + w (product_out s.nozzles p f) * (reading - v))
    (sym last)

-- a reading above the last one
metered_more : (w : ℕ → ℕ) (s : SiteState) (p n reading : ℕ) (f : Facts) → AreNozzles s.nozzles
    → has_nozzle p n s.nozzles ≡ true → nozzle_out f ≡ n → reading_of p n s.nozzles ≤ reading
    → metered_by w (with_last p n reading s.nozzles)
    ≡ metered_by w s.nozzles + w (product_out s.nozzles p f) * flow_since s p n reading
metered_more w s p n reading f are has out above =
    let x = there (nozzle_of p n s.nozzles) has in
    let last : reading_of p n s.nozzles ≡ x.nozzle.last = reading_is p n s.nozzles x.nozzle x.is in
    metered_out w s p n reading f x.nozzle x.is out
    (read_raises w p n reading x.nozzle s.nozzles are.each x.is (omega arith))

pub metered_moves : (w : ℕ → ℕ) (s : SiteState) (e : Event) → Sound s → IsTaken s e
    → metered_by w (nozzles_after s e)
    ≡ metered_by w s.nozzles + w (product_at s e) * growth_at s e
metered_moves w s (Flow p n reading) sound taken =
    let own =
    own_point s (Flow p n reading) p (points.Flow n (flow_since s p n reading)) sound taken refl in
    metered_more w s p n reading (facts_of s p) sound.meters (flow_nozzle s p n reading taken.names)
    (flow_is_out n (flow_since s p n reading) (facts_of s p) own.sound.whole own.taken)
    (accepted_above Growing (reading_of p n s.nozzles) reading taken.reads)
metered_moves w s (HangUp p n reading) sound taken =
    let own = own_point s (HangUp p n reading) p (points.HangUp n (flow_since s p n reading)) sound
    taken refl in
    metered_more w s p n reading (facts_of s p) sound.meters
    (hung_up_nozzle s p n reading taken.names)
    (hung_up_is_out n (flow_since s p n reading) (facts_of s p) own.sound.whole own.taken)
    (accepted_above (put_back_at (facts_of s p).state) (reading_of p n s.nozzles) reading
    taken.reads)
metered_moves w s (ReplaceMeter p n reading) sound taken =
    meter_keeps w p n reading s.nozzles
    ∙ weighs_none (w (product_at s (ReplaceMeter p n reading))) (metered_by w s.nozzles)
metered_moves w s e sound taken = weighs_none (w (product_at s e)) (metered_by w s.nozzles)

-- ---- running

-- where the point only calls, nothing flows
calling_still : (s : SiteState) (e : Event) (p : ℕ) (event : PointEvent) → IsTaken s e
    → own_event s e ≡ Some (p, event) → (facts_of s p).state ≡ states.Calling → growth_of event ≡ 0
calling_still s e p event taken own calling =
    let takes = taken.takes in
    let reads = taken.reads in
    grind (arith, common_steps, nat_tests)

pub weighed : (weight v growth v' sold drawn : ℕ) → v + growth ≡ v' + sold + drawn
    → weight * v + weight * growth ≡ weight * v' + weight * (sold + drawn)
weighed weight v growth v' sold drawn is =
    let all : weight * (v + growth) ≡ weight * (v' + sold + drawn) =
    ap (λ (n : ℕ). weight * n) is in
    omega (arith, all)

-- a volume after the event weighs what it would by the nozzle that was out
pub same_weight : (w : ℕ → ℕ) (nozzles : List Nozzle) (p : ℕ) (old new : Facts)
    → (volume_of new ≡ 0) ⊎ (new.out ≡ old.out)
    → w (product_out nozzles p new) * volume_of new ≡ w (product_out nozzles p old) * volume_of new
same_weight w nozzles p old new (inl none) =
    ap (λ (v : ℕ). w (product_out nozzles p new) * v) none
    ∙ mul-zero (w (product_out nozzles p new)) ∙ sym (mul-zero (w (product_out nozzles p old)))
    ∙ ap (λ (v : ℕ). w (product_out nozzles p old) * v) (sym none)
same_weight w nozzles p old new (inr out) =
    ap (λ (o : Option ℕ). w (unwrap_or (product_of p (unwrap_or o 0) nozzles) 0) * volume_of new)
    out

pub joined : (moved was all new kept over growth : ℕ) → moved + was ≡ all + new → new ≡ kept
    → was + growth ≡ kept + over → moved + over ≡ all + growth
joined moved was all new kept over growth with_row same_ones is = omega arith

-- the points' volumes, once the event's own point has moved
flowed_moves : (w : ℕ → ℕ) (s : SiteState) (e : Event) (own : Option (ℕ × PointEvent)) → Sound s
    → IsTaken s e → own_event s e ≡ own
    → flowed_by w s.nozzles (with_event s.points own)
    + w (product_by s own) * (sold_in (step_by s own) + drawn_in (step_by s own))
    ≡ flowed_by w s.nozzles s.points + w (product_by s own) * growth_by own
flowed_moves w s e None sound taken is = refl
flowed_moves w s e (Some x) sound taken is =
    let f : Facts = facts_of s x.0 in
    let own = own_point s e x.0 x.1 sound taken is in
    let weight : ℕ = w (product_out s.nozzles x.0 f) in
    joined (flowed_by w s.nozzles (with_row x.0 (after x.1 f) s.points)) (weight * volume_of f)
    (flowed_by w s.nozzles s.points)
    (w (product_out s.nozzles x.0 (after x.1 f)) * volume_of (after x.1 f))
    (weight * volume_of (after x.1 f))
    (weight * (sold_in (step_of x.1 f) + drawn_in (step_of x.1 f)))
    (weight * growth_of x.1)
    (flowed_with w s.nozzles x.0 f (after x.1 f) s.points own.there)
    (same_weight w s.nozzles x.0 f (after x.1 f) (same_nozzle x.1 f own.taken))
    (weighed weight (volume_of f) (growth_of x.1) (volume_of (after x.1 f))
    (sold_in (step_of x.1 f))
    (drawn_in (step_of x.1 f))
    (conserved x.1 f own.sound.whole own.taken (calling_still s e x.0 x.1 taken is)))

-- the numbers stay
numbers_stay : (points : List (ℕ × Facts)) (own : Option (ℕ × PointEvent))
    → numbers_of (with_event points own) ≡ numbers_of points
numbers_stay points None = refl
numbers_stay points (Some x) = numbers_kept x.0 (after x.1 (facts_in points x.0)) points

pub alone_after : (s : SiteState) (e : Event) → none_alike nat_eq (numbers_of s.points) ≡ true
    → none_alike nat_eq (numbers_of (points_after s e)) ≡ true
alone_after s e alone =
    ap (none_alike nat_eq) (numbers_stay s.points (own_event s e)) ∙ alone

pub running_flowed : (w : ℕ → ℕ) (s : SiteState) → Sound s
    → running_by w s.nozzles s.points ≡ flowed_by w s.nozzles s.points
running_flowed w s sound = running_is w s.nozzles s.points sound.numbers (λ p f is.
    run_is_volume s.nozzles p f (sound.points p f is).flowed)

pub running_moves : (w : ℕ → ℕ) (s : SiteState) (e : Event) → Sound s → IsTaken s e
    → running_by w (nozzles_after s e) (points_after s e)
    + w (product_at s e) * (sold_at s e + drawn_at s e)
    ≡ running_by w s.nozzles s.points + w (product_at s e) * growth_at s e
running_moves w s e sound taken =
    let over : ℕ = w (product_at s e) * (sold_at s e + drawn_at s e) in
    let after_is =
    running_is w (nozzles_after s e) (points_after s e) (alone_after s e sound.numbers)
    (run_after s e sound taken) in
    ap (λ (v : ℕ). v + over)
    (after_is
    ∙ flowed_products w s.nozzles (nozzles_after s e) (product_after s e) (points_after s e))
    ∙ flowed_moves w s e (own_event s e) sound taken refl
    ∙ ap (λ (v : ℕ). v + w (product_at s e) * growth_at s e) (sym (running_flowed w s sound))

-- ---- sold

pub none_sold : (s : SiteState) (own : Option (ℕ × PointEvent)) → ends_by own ≡ false
    → sold_in (step_by s own) ≡ 0
none_sold s None other = refl
none_sold s (Some x) other = nothing_sold x.1 (facts_of s x.0) other

pub none_drawn : (s : SiteState) (own : Option (ℕ × PointEvent)) → ends_by own ≡ false
    → drawn_in (step_by s own) ≡ 0
none_drawn s None other = refl
none_drawn s (Some x) other = nothing_drawn x.1 (facts_of s x.0) other

pub stays_so : (weight all volume : ℕ) → volume ≡ 0 → all ≡ all + weight * volume
stays_so weight all volume none =
    weighs_none weight all ∙ ap (λ (v : ℕ). all + weight * v) (sym none)

abbrev pub weight_of : (ℕ → ℕ) → Sale → ℕ
weight_of w x = w x.product * x.volume

let_go_weighs : (w : ℕ → ℕ) (t : ℕ) (x : Sale) → weight_of w (unlock_all_of t x) ≡ weight_of w x
let_go_weighs w t x = by_test (is_locked_by t x.standing)
  where
    by_test : (b : Bool)
        → weight_of w (cond b (record x { standing = Payable }) x) ≡ weight_of w x
    by_test true = refl
    by_test false = refl

pub sign_off_weighs : (w : ℕ → ℕ) (t : ℕ) (sales : Sales)
    → sold_by w (after_sign_off t sales) ≡ sold_by w sales
sign_off_weighs w t sales =
    changed_sum (weight_of w) (unlock_all_of t) sales
    ∙ alike_sum (λ x. weight_of w (unlock_all_of t x)) (weight_of w) (let_go_weighs w t) sales

-- what a till asks of a sale doesn't change its product or its volume
pub asked_weighs : (w : ℕ → ℕ) (request : Request) (t : ℕ) (k : Key) (sales : Sales)
    → sold_by w (after_request request t k sales) ≡ sold_by w sales
asked_weighs w request t k sales =
    asked_keeps (weight_of w) request t k sales (λ x y. refl)

-- a nozzle that is out delivers what it did
pub product_out_after : (s : SiteState) (e : Event) (p : ℕ) (f : Facts)
    → product_out (nozzles_after s e) p f ≡ product_out s.nozzles p f
product_out_after s e p f =
    ap (λ (o : Option ℕ). unwrap_or o 0) (product_after s e p (nozzle_out f))

-- the volume of a fuelling that is over
pub over_is : (w : ℕ → ℕ) (s : SiteState) (e : Event) (p volume : ℕ) (f : Facts)
    → running_at (nozzles_after s e) p f ≡ volume
    → w (product_out (nozzles_after s e) p f) * running_at (nozzles_after s e) p f
    ≡ w (product_out s.nozzles p f) * volume
over_is w s e p volume f is =
    ap (λ (q : ℕ). w q * running_at (nozzles_after s e) p f) (product_out_after s e p f)
    ∙ ap (λ (v : ℕ). w (product_out s.nozzles p f) * v) is

sold_by_step : (w : ℕ → ℕ) (s : SiteState) (e : Event) (p : ℕ) (event : PointEvent) → Sound s
    → IsTaken s e → own_event s e ≡ Some (p, event) → (step : PointStep)
    → step_of event (facts_of s p) ≡ step
    → sold_by w (sales_by s (nozzles_after s e) p step)
    ≡ sold_by w s.sales + w (product_out s.nozzles p (facts_of s p)) * sold_in step
sold_by_step w s e p event sound taken own (Sold nozzle volume price prepaid) is =
    let f : Facts = facts_of s p in
    let at = own_point s e p event sound taken own in
    let from = sold_from event f nozzle volume price prepaid at.sound.whole at.taken is in
    let run : running_at (nozzles_after s e) p f ≡ volume =
    run_own s e p event taken own at.sound from.was ∙ sym from.its_volume in
    sold_sum (weight_of w) p (sale_made s (nozzles_after s e) p) s.sales
    ∙ ap (λ (v : ℕ). sold_by w s.sales + v) (over_is w s e p volume f run)
sold_by_step w s e p event sound taken own step is =
    weighs_none (w (product_out s.nozzles p (facts_of s p))) (sold_by w s.sales)

pub sold_moves : (w : ℕ → ℕ) (s : SiteState) (a : Actor) (e : Event) → Sound s → IsTaken s e
    → sold_by w (sales_after s a e) ≡ sold_by w s.sales + w (product_at s e) * sold_at s e
sold_moves w s (Till t) SignOff sound taken =
    sign_off_weighs w t s.sales ∙ weighs_none (w 0) (sold_by w s.sales)
sold_moves w s (Till t) (Lock p id) sound taken =
    asked_weighs w requests.Lock t (key_named s p id) s.sales
    ∙ weighs_none (w 0) (sold_by w s.sales)
sold_moves w s (Till t) (Unlock p id) sound taken =
    asked_weighs w requests.Unlock t (key_named s p id) s.sales
    ∙ weighs_none (w 0) (sold_by w s.sales)
sold_moves w s (Till t) (Clear p id) sound taken =
    asked_weighs w (requests.Clear (open_shift s)) t (key_named s p id) s.sales
    ∙ weighs_none (w 0) (sold_by w s.sales)
sold_moves w s a (Offline p) sound taken =
    sold_by_step w s (Offline p) p points.Offline sound taken refl (step_at s (Offline p)) refl
sold_moves w s a (HangUp p n reading) sound taken =
    sold_by_step w s (HangUp p n reading) p (points.HangUp n (flow_since s p n reading)) sound taken
    refl
    (step_at s (HangUp p n reading)) refl
sold_moves w s a e sound taken =
    stays_so (w (product_at s e)) (sold_by w s.sales) (sold_at s e)
    (none_sold s (own_event s e) refl)

-- ---- drawn

-- the product of a nozzle that is there has a number that a product may have
pub product_supplied : (s : SiteState) (p n : ℕ) → Sound s → has_nozzle p n s.nozzles ≡ true
    → IsSupplied s (unwrap_or (product_of p n s.nozzles) 0)
product_supplied s p n sound has =
    let x = there (nozzle_of p n s.nozzles) has in
    let product : product_of p n s.nozzles ≡ Some x.nozzle.product =
    ap (λ (o : Option Nozzle). option_map (λ y. y.product) o) x.is in
    subst (λ (o : Option ℕ). IsSupplied s (unwrap_or o 0)) (sym product)
    (sound.products p n x.nozzle.product product)

-- the nozzle of a fuelling under way is there
pub nozzle_there : (s : SiteState) (p : ℕ) (f : Facts) → IsPointSound s p f
    → is_under_way f.state ≡ true → has_nozzle p (nozzle_out f) s.nozzles ≡ true
nozzle_there s p f point under_way = by_out f.out refl
  where
    some : is_some f.out ≡ true
    some = point.whole.nozzle ∙ out_under_way f.state under_way

    by_out : (o : Option ℕ) → f.out ≡ o → has_nozzle p (unwrap_or o 0) s.nozzles ≡ true
    by_out None is = absurd (false≢true (ap is_some (sym is) ∙ some))
    by_out (Some n) is = point.nozzle n is

drawn_by_step : (w : ℕ → ℕ) (s : SiteState) (e : Event) (p : ℕ) (event : PointEvent) → Sound s
    → IsTaken s e → own_event s e ≡ Some (p, event) → (step : PointStep)
    → step_of event (facts_of s p) ≡ step
    → drawn_by w (draws_by s (nozzles_after s e) p step)
    ≡ drawn_by w s.drawn + w (product_out s.nozzles p (facts_of s p)) * drawn_in step
drawn_by_step w s e p event sound taken own (Drawn nozzle volume) is =
    let f : Facts = facts_of s p in
    let at = own_point s e p event sound taken own in
    let from = drawn_from event f nozzle volume at.sound.whole at.taken is in
    let run : running_at (nozzles_after s e) p f ≡ volume =
    run_own s e p event taken own at.sound from.was ∙ sym from.its_volume in
    let supplied =
    product_supplied s p (nozzle_out f) sound (nozzle_there s p f at.sound from.was) in
    let product : product_out (nozzles_after s e) p f ≡ product_out s.nozzles p f =
    product_out_after s e p f in
    drawn_more w (product_out (nozzles_after s e) p f) (running_at (nozzles_after s e) p f) s.drawn
    sound.draws sound.shift.low (omega (arith, product, supplied.low))
    (omega (arith, product, supplied.high))
    ∙ ap (λ (v : ℕ). drawn_by w s.drawn + v) (over_is w s e p volume f run)
drawn_by_step w s e p event sound taken own step is =
    weighs_none (w (product_out s.nozzles p (facts_of s p))) (drawn_by w s.drawn)

pub drawn_moves : (w : ℕ → ℕ) (s : SiteState) (e : Event) → Sound s → IsTaken s e
    → drawn_by w (drawn_after s e) ≡ drawn_by w s.drawn + w (product_at s e) * drawn_at s e
drawn_moves w s (Offline p) sound taken =
    drawn_by_step w s (Offline p) p points.Offline sound taken refl (step_at s (Offline p)) refl
drawn_moves w s (HangUp p n reading) sound taken =
    drawn_by_step w s (HangUp p n reading) p (points.HangUp n (flow_since s p n reading)) sound
    taken
    refl
    (step_at s (HangUp p n reading)) refl
drawn_moves w s CloseShift sound taken =
    opened_weighs w s.drawn ∙ weighs_none (w 0) (drawn_by w s.drawn)
drawn_moves w s e sound taken =
    stays_so (w (product_at s e)) (drawn_by w s.drawn) (drawn_at s e)
    (none_drawn s (own_event s e) refl)

-- ---- all four

pub moves_volumes : (w : ℕ → ℕ) (s : SiteState) (a : Actor) (e : Event) → Sound s → IsTaken s e
    → MovesVolumes w s a e
moves_volumes w s a e sound taken = record {
  metered = metered_moves w s e sound taken;
  running = running_moves w s e sound taken;
  sold = sold_moves w s a e sound taken;
  drawn = drawn_moves w s e sound taken;
}

pub balanced : (metered metered' running running' sold sold' drawn drawn' grown weight s d : ℕ)
    → metered ≡ running + sold + drawn → metered' ≡ metered + grown
    → running' + weight * (s + d) ≡ running + grown → sold' ≡ sold + weight * s
    → drawn' ≡ drawn + weight * d → metered' ≡ running' + sold' + drawn'
balanced metered metered' running running' sold sold' drawn drawn' grown weight s d was m r x y =
    omega (arith, mul-add weight s d)

-- what the meters have counted is in the fuellings under way, in sales and in draws
pub conserved_after : (w : ℕ → ℕ) (s : SiteState) (a : Actor) (e : Event) → Sound s → IsTaken s e
    → metered_by w (nozzles_after s e)
    ≡ running_by w (nozzles_after s e) (points_after s e) + sold_by w (sales_after s a e)
    + drawn_by w (drawn_after s e)
conserved_after w s a e sound taken =
    let moves = moves_volumes w s a e sound taken in
    balanced (metered_by w s.nozzles) (metered_by w (nozzles_after s e))
    (running_by w s.nozzles s.points) (running_by w (nozzles_after s e) (points_after s e))
    (sold_by w s.sales) (sold_by w (sales_after s a e)) (drawn_by w s.drawn)
    (drawn_by w (drawn_after s e)) (w (product_at s e) * growth_at s e) (w (product_at s e))
    (sold_at s e) (drawn_at s e) (sound.conserved w) moves.metered moves.running moves.sold
    moves.drawn
