-- What the code of the site uses of a sound site: what grows fits, and a sale or a draw finds what
-- it needs.
use Rattle.std.proofs.Common.{◌≡◌, ℕ, zero, suc, ◌+◌, ◌-◌, ◌*◌, ◌^◌, ◌≤◌, ◌<◌, Bool, true, false}
use Rattle.std.proofs.Common.{cond, List, [], ◌∷◌, length, Option, option_map, option_and_then}
use Rattle.std.proofs.Common.{Some, None, is_some, unwrap_or, refl, sym, ap, subst, ◌∙◌, arith}
use Rattle.std.proofs.lemmas.Bool.{and_parts}
use Rattle.std.proofs.lemmas.Bool.Decides.{nat_tests}
use Rattle.std.proofs.lemmas.Grind.{common_steps}
use Rattle.std.specs.List.{list_all, slice_get}
use Rattle.site_base.specs.declared.actor.Actor.{Actor}
use Rattle.site_base.specs.declared.actor.Actor.TheVariants.{Till, Dispenser}
use Rattle.site_base.specs.declared.event.Event.{Event}
use Rattle.site_base.specs.declared.event.Event.TheVariants.{Lock, Unlock, Clear, Flow, HangUp}
use Rattle.site_base.specs.declared.limits.TheConstants.{PRODUCT_CELLS}
use Rattle.site_base.specs.declared.amounts.TheConstants.{GREATEST_READING}
use Rattle.site_base.specs.Members.{member}
use Rattle.site_base.specs.Table.{row_of}
use Rattle.site_base.proofs.Numbering.{numbered_place, numbered_within}
use Rattle.fuelling_point.specs.declared.event.PointEvent.{PointEvent}
use Rattle.fuelling_point.specs.declared.event.PointEvent.TheVariants as points
use Rattle.fuelling_point.specs.declared.step.PointStep.TheVariants.{Sold, Drawn}
use Rattle.fuelling_point.specs.KeptPoints.{Facts, is_under_way, growth_of}
use Rattle.fuelling_point.specs.KeptPoints.{volume_of as flowed_of}
use Rattle.fuelling_point.specs.Laws.{sold_in, drawn_in}
use Rattle.fuelling_point.specs.Step.{step_of}
use Rattle.meters.specs.declared.report.Report.TheVariants.{Growing}
use Rattle.meters.specs.MeteredVolumes.{most_of_a_site, metered_by, every_product, product_alone}
use Rattle.meters.specs.Nozzles.{Nozzle, AreNozzles, has_nozzle, nozzle_of, product_of, reading_of}
use Rattle.meters.proofs.Bounds.{each_found, bound, total_bound}
use Rattle.meters.proofs.Lookups.{there}
use Rattle.meters.proofs.Weights.{accepted_above}
use Rattle.transaction_buffer.specs.declared.request.Request.{Request}
use Rattle.transaction_buffer.specs.Sales.{Key, Sale, Sales, next_number, sale_of}
use Rattle.transaction_buffer.specs.Sums.{volume_of, volume_by, volume_with}
use Rattle.transaction_buffer.specs.TransactionTable.{after_request}
use Rattle.transaction_buffer.proofs.Volumes.{move}
use Rattle.written_site.specs.SiteState.{SiteState, facts_of, open_shift, price_of, price_at_start}
use Rattle.written_site.specs.SiteChecks.{own_event, first_refusal, flow_since, put_back_at}
use Rattle.written_site.specs.SiteChecks.{sale_request}
use Rattle.written_site.specs.SiteStep.{nozzles_after, points_after, sales_after, drawn_after}
use Rattle.written_site.specs.SiteStep.{step_at, step_by}
use Rattle.written_site.specs.Sound.{InRange, IsPointSound, IsPrice, IsSupplied, MaySell, Sound}
use Rattle.written_site.specs.Sound.{is_draw_row}
use Rattle.written_site.specs.SoundSteps.{IsTaken, FitsOwn, IsDelivery, IsSaleFit, IsDrawFit}
use Rattle.written_site.specs.SoundSteps.{MovesStatus, DoVolumesAddUp, FindsRoom, ends_by}
use Rattle.written_site.specs.SoundSteps.{open_draws, growth_at, product_at, product_by, sold_at}
use Rattle.written_site.specs.SoundSteps.{drawn_at}
use Rattle.written_site.specs.Volumes.{nozzle_out, product_out, running_at, running_by, sold_by}
use Rattle.written_site.specs.Volumes.{drawn_by, running_volume, adjusted_volume}
use Rattle.written_site.proofs.PassedChecks.{passed}
use Rattle.written_site.proofs.Sound.{taken_when_passed}
use Rattle.written_site.proofs.SoundTables.{same, told_once}
use Rattle.written_site.proofs.SoundMachine.{sold_from, drawn_from}
use Rattle.written_site.proofs.SoundReports.{flow_nozzle, hung_up_nozzle, flow_is_out}
use Rattle.written_site.proofs.SoundReports.{hung_up_is_out, nozzles_stay}
use Rattle.written_site.proofs.SoundSold.{own_point, run_own, under_way_released}
use Rattle.written_site.proofs.SoundSums.{adds_up, run_within, own_weight, sold_alone}
use Rattle.written_site.proofs.SoundSums.{moves_running, figure_drawn, most_fits}
use Rattle.written_site.proofs.SoundVolumes.{nozzle_there, product_supplied, product_out_after}
use Rattle.written_site.proofs.SoundVolumes.{none_sold, none_drawn, running_moves, moves_volumes}
use Rattle.written_site.proofs.SoundVolumes.{conserved_after}

-- ---- readings and volumes

-- no nozzle reads more than a meter can
pub reading_within : (p n : ℕ) (xs : List Nozzle) → AreNozzles xs
    → reading_of p n xs ≤ GREATEST_READING
reading_within p n xs are = by_nozzle (nozzle_of p n xs) refl
  where
    by_nozzle : (o : Option Nozzle) → nozzle_of p n xs ≡ o
        → unwrap_or (option_map (λ x. x.last) o) 0 ≤ GREATEST_READING
    by_nozzle None is = omega arith
    by_nozzle (Some x) is = (each_found p n xs x are.each is).within

-- the volume of a fuelling under way is no more than its nozzle reads
volume_low : (s : SiteState) (p : ℕ) (f : Facts) → IsPointSound s p f
    → flowed_of f ≤ reading_of p (nozzle_out f) s.nozzles
volume_low s p f point = by_test (is_under_way f.state) refl
  where
    by_test : (b : Bool) → is_under_way f.state ≡ b
        → cond b f.volume 0 ≤ reading_of p (nozzle_out f) s.nozzles
    by_test true is = let flowed = point.flowed is in omega arith
    by_test false is = omega arith

running_low : (nozzles : List Nozzle) (p : ℕ) (f : Facts)
    → running_at nozzles p f ≤ reading_of p (nozzle_out f) nozzles
running_low nozzles p f = by_test (is_under_way f.state)
  where
    by_test : (b : Bool) → cond b (reading_of p (nozzle_out f) nozzles - f.start) 0
        ≤ reading_of p (nozzle_out f) nozzles
    by_test true = omega arith
    by_test false = omega arith

grown_within : (volume last reading : ℕ) → volume ≤ last → last ≤ reading
    → reading ≤ GREATEST_READING → volume + (reading - last) ≤ GREATEST_READING
grown_within volume last reading low above high = omega arith

-- the volume of a fuelling, with what flows in an event, is one that a meter can show
pub growth_fits : (s : SiteState) (e : Event) → Sound s → IsTaken s e → FitsOwn s (own_event s e)
growth_fits s (Flow p n reading) sound taken =
    let own =
    own_point s (Flow p n reading) p (points.Flow n (flow_since s p n reading)) sound taken refl in
    let out : nozzle_out (facts_of s p) ≡ n =
    flow_is_out n (flow_since s p n reading) (facts_of s p) own.sound.whole own.taken in
    let low = volume_low s p (facts_of s p) own.sound in
    grown_within (flowed_of (facts_of s p)) (reading_of p n s.nozzles) reading
    (subst (λ (m : ℕ). flowed_of (facts_of s p) ≤ reading_of p m s.nozzles) out low)
    (accepted_above Growing (reading_of p n s.nozzles) reading taken.reads) taken.range
growth_fits s (HangUp p n reading) sound taken =
    let own = own_point s (HangUp p n reading) p (points.HangUp n (flow_since s p n reading)) sound
    taken refl in
    let out : nozzle_out (facts_of s p) ≡ n =
    hung_up_is_out n (flow_since s p n reading) (facts_of s p) own.sound.whole own.taken in
    let low = volume_low s p (facts_of s p) own.sound in
    grown_within (flowed_of (facts_of s p)) (reading_of p n s.nozzles) reading
    (subst (λ (m : ℕ). flowed_of (facts_of s p) ≤ reading_of p m s.nozzles) out low)
    (accepted_above (put_back_at (facts_of s p).state) (reading_of p n s.nozzles) reading
    taken.reads)
    taken.range
growth_fits s e sound taken = tt

-- ---- the product that a report moves

pub product_is : (s : SiteState) (p n : ℕ) → has_nozzle p n s.nozzles ≡ true
    → product_of p n s.nozzles ≡ Some (unwrap_or (product_of p n s.nozzles) 0)
product_is s p n has =
    let x = there (nozzle_of p n s.nozzles) has in
    let product : product_of p n s.nozzles ≡ Some x.nozzle.product =
    ap (option_map (λ y. y.product)) x.is in
    product ∙ ap (λ (o : Option ℕ). Some (unwrap_or o 0)) (sym product)

-- a report moves the product of the nozzle that it names
pub flow_product : (s : SiteState) (p n reading : ℕ) → Sound s → IsTaken s (Flow p n reading)
    → product_of p n s.nozzles ≡ Some (product_at s (Flow p n reading))
flow_product s p n reading sound taken =
    let event : PointEvent = points.Flow n (flow_since s p n reading) in
    let own = own_point s (Flow p n reading) p event sound taken refl in
    let out : nozzle_out (facts_of s p) ≡ n =
    flow_is_out n (flow_since s p n reading) (facts_of s p) own.sound.whole own.taken in
    product_is s p n (flow_nozzle s p n reading taken.names)
    ∙ ap (λ (m : ℕ). Some (unwrap_or (product_of p m s.nozzles) 0)) (sym out)

pub hung_up_product : (s : SiteState) (p n reading : ℕ) → Sound s
    → IsTaken s (HangUp p n reading)
    → product_of p n s.nozzles ≡ Some (product_at s (HangUp p n reading))
hung_up_product s p n reading sound taken =
    let event : PointEvent = points.HangUp n (flow_since s p n reading) in
    let own = own_point s (HangUp p n reading) p event sound taken refl in
    let out : nozzle_out (facts_of s p) ≡ n =
    hung_up_is_out n (flow_since s p n reading) (facts_of s p) own.sound.whole own.taken in
    product_is s p n (hung_up_nozzle s p n reading taken.names)
    ∙ ap (λ (m : ℕ). Some (unwrap_or (product_of p m s.nozzles) 0)) (sym out)

-- ---- a fuelling that is over

-- what a step tells of a fuelling that is over
record Over (s : SiteState) (e : Event) (p : ℕ) (event : PointEvent) (nozzle volume : ℕ)
    : Type 0 where
  was : is_under_way (facts_of s p).state ≡ true
  out : nozzle ≡ nozzle_out (facts_of s p)
  flows : volume ≡ (facts_of s p).volume + growth_of event
  something : 1 ≤ volume
  told : sold_at s e + drawn_at s e ≡ volume

at_most : (volume run reading : ℕ) → volume ≡ run → run ≤ reading → reading ≤ GREATEST_READING
    → volume ≤ GREATEST_READING
at_most volume run reading is low high = omega arith

part_of : (volume rest over all : ℕ) → rest + over ≡ all → over ≡ volume → volume ≤ all
part_of volume rest over all moves told = omega arith

delivery : (s : SiteState) (e : Event) (p : ℕ) (event : PointEvent) (nozzle volume : ℕ) → Sound s
    → IsTaken s e → own_event s e ≡ Some (p, event) → Over s e p event nozzle volume
    → IsDelivery s e p nozzle volume
delivery s e p event nozzle volume sound taken own over =
    let f : Facts = facts_of s p in
    let at = own_point s e p event sound taken own in
    let run = run_own s e p event taken own at.sound over.was in
    let has = nozzle_there s p f at.sound over.was in
    let product : product_at s e ≡ product_out s.nozzles p f = ap (product_by s) own in
    let reading =
    reading_within p (nozzle_out f) (nozzles_after s e) (nozzles_stay s e taken sound.meters) in
    let moves = (moves_running s e (product_at s e) sound taken).own refl in
    record {
      out = over.out;
      run = over.flows ∙ sym run;
      something = over.something;
      within = at_most volume (running_at (nozzles_after s e) p f)
          (reading_of p (nozzle_out f) (nozzles_after s e)) (over.flows ∙ sym run)
          (running_low (nozzles_after s e) p f) reading;
      product = ap (λ (n : ℕ). product_of p n s.nozzles) over.out
          ∙ product_is s p (nozzle_out f) has ∙ ap (λ (q : ℕ). Some q) (sym product);
      still = product_out_after s e p f ∙ sym product;
      supplied = subst (IsSupplied s) (sym product) (product_supplied s p (nozzle_out f) sound has);
      leaves = part_of volume
          (running_by (product_alone (product_at s e)) (nozzles_after s e) (points_after s e))
          (sold_at s e + drawn_at s e)
          (running_volume s (product_at s e) + growth_at s e) moves over.told;
      held = at.sound.held (under_way_released f.state over.was);
    }

-- ---- the sums with what is over

-- what a sale or a draw adds, and what its product's meters have counted
within_most : (metered running sold sold' drawn drawn' weight volume : ℕ)
    → metered ≡ running + sold' + drawn' → metered ≤ most_of_a_site → weight ≡ 1
    → sold' ≡ sold + weight * volume → sold + volume < 2 ^ 64
within_most metered running sold sold' drawn drawn' weight volume all most one added =
    let weighed : weight * volume ≡ 1 * volume = ap (λ (k : ℕ). k * volume) one in
    omega (arith, most_fits)

sold_fits : (s : SiteState) (e : Event) (volume : ℕ) → Sound s → IsTaken s e → sold_at s e ≡ volume
    → volume_of (product_at s e) s.sales + volume < 2 ^ 64
sold_fits s e volume sound taken told =
    let q : ℕ = product_at s e in
    let w : ℕ → ℕ = product_alone q in
    let nozzles = nozzles_after s e in
    let sales : Sales = sales_after s (Dispenser 0) e in
    let moves = moves_volumes w s (Dispenser 0) e sound taken in
    within_most (metered_by w nozzles) (running_by w nozzles (points_after s e))
    (volume_of q s.sales) (sold_by w sales) 0 (drawn_by w (drawn_after s e)) (w q) volume
    (conserved_after w s (Dispenser 0) e sound taken)
    (total_bound q nozzles (nozzles_stay s e taken sound.meters)) (own_weight q)
    (moves.sold ∙ ap (λ (v : ℕ). v + w q * sold_at s e) (sold_alone q s.sales)
    ∙ ap (λ (v : ℕ). volume_of q s.sales + w q * v) told)

drawn_fits : (s : SiteState) (e : Event) (volume : ℕ) → Sound s → IsTaken s e
    → drawn_at s e ≡ volume
    → adjusted_volume s (product_at s e) + volume < 2 ^ 64
drawn_fits s e volume sound taken told =
    let q : ℕ = product_at s e in
    let w : ℕ → ℕ = product_alone q in
    let nozzles = nozzles_after s e in
    let moves = moves_volumes w s (Dispenser 0) e sound taken in
    let all = conserved_after w s (Dispenser 0) e sound taken in
    within_most (metered_by w nozzles) (running_by w nozzles (points_after s e))
    (adjusted_volume s q) (drawn_by w (drawn_after s e)) 0
    (sold_by w (sales_after s (Dispenser 0) e))
    (w q) volume
    (omega (arith, all)) (total_bound q nozzles (nozzles_stay s e taken sound.meters))
    (own_weight q)
    (moves.drawn ∙ ap (λ (v : ℕ). adjusted_volume s q + w q * v) told)

-- ---- a sale

next_there : (s : SiteState) (p : ℕ) → MaySell s p
    → is_some (next_number p (open_shift s) s.sales) ≡ true
next_there s p may =
    let fewer = may.number in grind (arith, common_steps, nat_tests)

-- where the point of an event sells
pub sale_fits : (s : SiteState) (e : Event) (p : ℕ) (event : PointEvent)
    (nozzle volume price : ℕ) (prepaid : Option ℕ)
    → Sound s → IsTaken s e → own_event s e ≡ Some (p, event)
    → step_of event (facts_of s p) ≡ Sold nozzle volume price prepaid
    → IsSaleFit s e p nozzle volume price prepaid
sale_fits s e p event nozzle volume price prepaid sound taken own is =
    let f : Facts = facts_of s p in
    let at = own_point s e p event sound taken own in
    let from = sold_from event f nozzle volume price prepaid at.sound.whole at.taken is in
    let may = at.sound.room (under_way_released f.state from.was) from.sale in
    let step : step_at s e ≡ Sold nozzle volume price prepaid = ap (step_by s) own ∙ is in
    let told : sold_at s e ≡ volume = ap sold_in step in
    let none : drawn_at s e ≡ 0 = ap drawn_in step in
    record {
      delivery = delivery s e p event nozzle volume sound taken own (record {
        was = from.was;
        out = from.its_nozzle;
        flows = from.its_volume;
        something = from.something;
        told = omega (arith, told, none);
      });
      taken = from.its_price;
      paid = from.its_prepaid;
      in_range = subst IsPrice (sym from.its_price) (at.sound.price from.was);
      unpaid = may.unpaid;
      number = next_there s p may;
      order = λ h later low. sound.order p h later;
      sums = sold_fits s e volume sound taken told;
    }

-- ---- a draw

-- the draws of the open shift are there
pub draws_there : (s : SiteState) → Sound s → is_some (open_draws s) ≡ true
draws_there s sound =
    let low = sound.shift.low in
    ap is_some
    (numbered_within (open_shift s) s.drawn (open_shift s - 1) [] (omega arith) (omega arith))

pub row_at : (i : ℕ) (row : List ℕ) (rows : List (List ℕ)) → list_all is_draw_row rows ≡ true
    → slice_get rows i ≡ Some row → length row ≡ PRODUCT_CELLS
row_at i row [] all is = cc
row_at zero row (first ∷ rows) all is =
    let parts = and_parts (is_draw_row first) (list_all is_draw_row rows) all in
    ap length (sym (told_once first row is)) ∙ same (length first) PRODUCT_CELLS parts.0
row_at (suc i) row (first ∷ rows) all is =
    let parts = and_parts (is_draw_row first) (list_all is_draw_row rows) all in
    row_at i row rows parts.1 is

-- each shift's draws have a figure for each product
pub draw_cells : (s : SiteState) (h : ℕ) (row : List ℕ) → Sound s → member h s.drawn ≡ Some row
    → length row ≡ PRODUCT_CELLS
draw_cells s zero row sound is = cc
draw_cells s (suc h) row sound is =
    row_at (suc h - 1) row s.drawn sound.draws
    (sym (numbered_place (suc h) s.drawn (omega arith)) ∙ is)

less_than : (figure all volume : ℕ) → figure ≤ all → all + volume < 2 ^ 64
    → figure + volume < 2 ^ 64
less_than figure all volume low high = omega arith

-- where the point of an event draws
pub draw_fits : (s : SiteState) (e : Event) (p : ℕ) (event : PointEvent) (nozzle volume : ℕ)
    → Sound s → IsTaken s e → own_event s e ≡ Some (p, event)
    → step_of event (facts_of s p) ≡ Drawn nozzle volume → IsDrawFit s e p nozzle volume
draw_fits s e p event nozzle volume sound taken own is =
    let f : Facts = facts_of s p in
    let q : ℕ = product_at s e in
    let at = own_point s e p event sound taken own in
    let from = drawn_from event f nozzle volume at.sound.whole at.taken is in
    let step : step_at s e ≡ Drawn nozzle volume = ap (step_by s) own ∙ is in
    let told : drawn_at s e ≡ volume = ap drawn_in step in
    let none : sold_at s e ≡ 0 = ap sold_in step in
    let over = delivery s e p event nozzle volume sound taken own (record {
      was = from.was;
      out = from.its_nozzle;
      flows = from.its_volume;
      something = from.something;
      told = omega (arith, told, none);
    }) in
    let total = drawn_fits s e volume sound taken told in
    record {
      delivery = over;
      noted = draws_there s sound;
      cells = λ row there. draw_cells s (open_shift s) row sound there;
      figure = λ row there.
          less_than (unwrap_or (member q row) 0) (adjusted_volume s q) volume
          (figure_drawn s (open_shift s) q row over.supplied.low
          (subst (λ (n : ℕ). q ≤ n) (sym (draw_cells s (open_shift s) row sound there))
          over.supplied.high) there)
          total;
      total = total;
    }

-- ---- what is running

grown_running : (metered' metered running sold drawn weight growth : ℕ) → metered' ≤ most_of_a_site
    → metered ≡ running + sold + drawn → metered' ≡ metered + weight * growth → weight ≡ 1
    → running + growth < 2 ^ 64
grown_running metered' metered running sold drawn weight growth most all moves one =
    let weighed : weight * growth ≡ 1 * growth = ap (λ (k : ℕ). k * growth) one in
    omega (arith, most_fits)

-- the volume under way of the product that an event moves, with what flows in it, fits in 64 bits
pub running_fits : (s : SiteState) (e : Event) → Sound s → IsTaken s e
    → running_volume s (product_at s e) + growth_at s e < 2 ^ 64
running_fits s e sound taken =
    let q : ℕ = product_at s e in
    let w : ℕ → ℕ = product_alone q in
    let moves = moves_volumes w s (Dispenser 0) e sound taken in
    let most = total_bound q (nozzles_after s e) (nozzles_stay s e taken sound.meters) in
    grown_running (metered_by w (nozzles_after s e)) (metered_by w s.nozzles) (running_volume s q)
    (sold_by w s.sales) (drawn_by w s.drawn) (w q) (growth_at s e) most (sound.conserved w)
    moves.metered (own_weight q)

-- so do the volumes of all products together, whatever they are
pub everything_within : (s : SiteState) → Sound s
    → running_by every_product s.nozzles s.points + sold_by every_product s.sales
    + drawn_by every_product s.drawn
    ≤ most_of_a_site
everything_within s sound =
    let all = sound.conserved every_product in
    let most = bound s.nozzles sound.meters in
    omega (arith, all, most)

-- the volume of the fuelling at a point is part of its product's
pub run_of_point : (s : SiteState) (p : ℕ) (f : Facts) → row_of p s.points ≡ Some f
    → running_at s.nozzles p f ≤ running_volume s (product_out s.nozzles p f)
run_of_point s p f there =
    let q : ℕ = product_out s.nozzles p f in
    let part = run_within (product_alone q) s.nozzles p f s.points there in
    let weighed : product_alone q q * running_at s.nozzles p f ≡ 1 * running_at s.nozzles p f =
    ap (λ (k : ℕ). k * running_at s.nozzles p f) (own_weight q) in
    omega (arith, part, weighed)

unmoved : (new old weight sold drawn growth : ℕ) → sold ≡ 0 → drawn ≡ 0 → growth ≡ 0
    → new + weight * (sold + drawn) ≡ old + weight * growth → new ≡ old
unmoved new old weight sold drawn growth s d g moves =
    let left : weight * (sold + drawn) ≡ weight * 0 =
    ap (λ (k : ℕ). weight * k) (let none : sold + drawn ≡ 0 = omega arith in none) in
    let right : weight * growth ≡ weight * 0 = ap (λ (k : ℕ). weight * k) g in
    omega arith

-- an event in which nothing flows, and that ends no fuelling, leaves what is running
pub running_still : (s : SiteState) (e : Event) (q : ℕ) → Sound s → IsTaken s e
    → growth_at s e ≡ 0 → ends_by (own_event s e) ≡ false
    → running_by (product_alone q) (nozzles_after s e) (points_after s e) ≡ running_volume s q
running_still s e q sound taken still goes_on =
    let moves = running_moves (product_alone q) s e sound taken in
    let sold : sold_at s e ≡ 0 = none_sold s (own_event s e) goes_on in
    let drawn : drawn_at s e ≡ 0 = none_drawn s (own_event s e) goes_on in
    unmoved (running_by (product_alone q) (nozzles_after s e) (points_after s e))
    (running_volume s q)
    (product_alone q (product_at s e)) (sold_at s e) (drawn_at s e) (growth_at s e) sold drawn still
    moves

-- ---- prices

some_price : (o : Option ℕ) → is_some o ≡ true → o ≡ Some (unwrap_or o 1)
some_price None there = cc
some_price (Some m) there = refl

-- each nozzle's product has a price
pub price_there : (s : SiteState) (p n : ℕ) → Sound s → has_nozzle p n s.nozzles ≡ true
    → price_of s.nozzles s.prices p n ≡ Some (price_at_start s p (Some n))
price_there s p n sound has =
    let q : ℕ = unwrap_or (product_of p n s.nozzles) 0 in
    let product : product_of p n s.nozzles ≡ Some q = product_is s p n has in
    let priced : is_some (row_of q s.prices) ≡ true = (product_supplied s p n sound has).priced in
    let row : price_of s.nozzles s.prices p n ≡ row_of q s.prices =
    ap (option_and_then (λ r. row_of r s.prices)) product in
    some_price (price_of s.nozzles s.prices p n) (ap is_some row ∙ priced)

-- ---- what an accepted event passes

pub taken_when_accepted : (s : SiteState) (a : Actor) (e : Event) → InRange e
    → first_refusal s a e ≡ None → IsTaken s e
taken_when_accepted s a e range accepted = taken_when_passed s a e range (passed s a e accepted)

-- ---- what a till asks of a transaction

moves_asked : (s : SiteState) (t : ℕ) (event : Event) (request : Request) (k : Key) (x : Sale)
    → sales_after s (Till t) event ≡ after_request request t k s.sales → sale_of k s.sales ≡ Some x
    → MovesStatus s t event request x
moves_asked s t event request k x leads is = record {
  by_status = λ q status.
      ap (λ (sales : Sales). volume_by q status sales + volume_with q status x) leads
      ∙ move.by_request q status t request k x s.sales is;
  whole = λ q. ap (volume_of q) leads ∙ move.whole_by_request q t request k s.sales;
}

asked_once : (s : SiteState) (t : ℕ) {asked other : Request × Key} → asked ≡ other
    → after_request asked.0 t asked.1 s.sales ≡ after_request other.0 t other.1 s.sales
asked_once s t is = ap (λ (a : Request × Key). after_request a.0 t a.1 s.sales) is

-- the event leads to the sales that its request leads to
leads_asked : (s : SiteState) (t : ℕ) (event : Event) (request : Request) (k : Key)
    → sale_request s event ≡ Some (request, k)
    → sales_after s (Till t) event ≡ after_request request t k s.sales
leads_asked s t (Lock p id) request k is = asked_once s t (told_once _ _ is)
leads_asked s t (Unlock p id) request k is = asked_once s t (told_once _ _ is)
leads_asked s t (Clear p id) request k is = asked_once s t (told_once _ _ is)
leads_asked s t event request k is = cc

moves_status : (s : SiteState) (t : ℕ) (event : Event) (request : Request) (k : Key) (x : Sale)
    → sale_request s event ≡ Some (request, k) → sale_of k s.sales ≡ Some x
    → MovesStatus s t event request x
moves_status s t event request k x asked =
    moves_asked s t event request k x (leads_asked s t event request k asked)

pub volumes_add_up : DoVolumesAddUp
volumes_add_up = record {
  adds_up = adds_up;
  moves = moves_volumes;
  runs = moves_running;
  asks = moves_status;
}

pub finds_room : FindsRoom
finds_room = record {
  grows = growth_fits;
  runs = running_fits;
  sells = sale_fits;
  draws = draw_fits;
}
