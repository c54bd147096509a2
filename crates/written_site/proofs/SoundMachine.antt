-- What an accepted event changes of a point that is whole.
use Rattle.std.proofs.Common.{◌≡◌, ℕ, ◌+◌, ◌≤◌, Bool, true, false, Option, Some, None, ◌⊎◌, arith}
use Rattle.std.proofs.lemmas.Grind.{common_steps}
use Rattle.fuelling_point.specs.declared.event.PointEvent.{PointEvent}
use Rattle.fuelling_point.specs.declared.event.PointEvent.TheVariants.{Release, TestRelease}
use Rattle.fuelling_point.specs.declared.step.PointStep.TheVariants.{Sold, Drawn}
use Rattle.fuelling_point.specs.KeptPoints.{Facts, is_under_way, volume_of, growth_of}
use Rattle.fuelling_point.specs.Whole.{IsWhole, is_released}
use Rattle.fuelling_point.specs.PointChecks.{refusal_of}
use Rattle.fuelling_point.specs.Step.{step_of, after}
use Rattle.written_site.specs.Volumes.{nozzle_out}
use Rattle.fuelling_point.specs.Laws.{sold_in, drawn_in, is_end, handed_in, lifted_by}

-- the nozzle that is out was out, or it is the one lifted
pub out_after : (event : PointEvent) (f : Facts) (n : ℕ) → (after event f).out ≡ Some n
    → (f.out ≡ Some n) ⊎ (lifted_by event f.state ≡ Some n)
out_after event f n is = grind (arith, common_steps)

-- the event releases the point
abbrev pub is_release : PointEvent → Bool
is_release (Release preset prepaid last price) = true
is_release (TestRelease last price) = true
is_release event = false

abbrev pub is_sale_release : PointEvent → Bool
is_sale_release (Release preset prepaid last price) = true
is_sale_release event = false

-- a point that is released was released, or is by the event
pub released_after : (event : PointEvent) (f : Facts) → is_release event ≡ false
    → is_released (after event f).state ≡ true → is_released f.state ≡ true
released_after event f other is = grind (arith, common_steps)

pub sells_after : (event : PointEvent) (f : Facts) → IsWhole f → is_sale_release event ≡ false
    → is_released (after event f).state ≡ true → (after event f).test ≡ false
    → (is_released f.state ≡ true) × (f.test ≡ false)
sells_after event f w other is sale =
    let test = w.test in
    (grind (arith, common_steps), grind (arith, common_steps))

-- a fuelling under way went on, or the event started it
pub record GoesOn (event : PointEvent) (f : Facts) : Type 0 where
  pub was : is_under_way f.state ≡ true
  pub price : (after event f).price ≡ f.price
  pub start : (after event f).start ≡ f.start
  pub volume : (after event f).volume ≡ f.volume + growth_of event
  pub out : (after event f).out ≡ f.out

pub record Starts (event : PointEvent) (f : Facts) : Type 0 where
  pub taken : handed_in event f.state ≡ Some ((after event f).price, (after event f).start)
  pub volume : (after event f).volume ≡ 0

pub goes_on : (event : PointEvent) (f : Facts) → is_under_way (after event f).state ≡ true
    → is_under_way f.state ≡ true → GoesOn event f
goes_on event f is was = record {
  was = was;
  price = grind (arith, common_steps);
  start = grind (arith, common_steps);
  volume = grind (arith, common_steps);
  out = grind (arith, common_steps);
}

pub starts : (event : PointEvent) (f : Facts) → is_under_way (after event f).state ≡ true
    → is_under_way f.state ≡ false → Starts event f
starts event f is was = record {
  taken = grind (arith, common_steps);
  volume = grind (arith, common_steps);
}

-- where a point sells: a fuelling that is no test was under way, and this is its volume, its nozzle
-- and the price that it took
pub record SoldFrom (event : PointEvent) (f : Facts) (nozzle volume price : ℕ)
    (prepaid : Option ℕ) : Type 0 where
  pub was : is_under_way f.state ≡ true
  pub over : is_released (after event f).state ≡ false
  pub sale : f.test ≡ false
  pub its_nozzle : nozzle ≡ nozzle_out f
  pub its_volume : volume ≡ f.volume + growth_of event
  pub its_price : price ≡ f.price
  pub its_prepaid : prepaid ≡ f.prepaid
  pub something : 1 ≤ volume

pub sold_from : (event : PointEvent) (f : Facts) (nozzle volume price : ℕ) (prepaid : Option ℕ)
    → IsWhole f → refusal_of event f ≡ None → step_of event f ≡ Sold nozzle volume price prepaid
    → SoldFrom event f nozzle volume price prepaid
sold_from event f nozzle volume price prepaid w taken is =
    let something = w.something in
    record {
      was = grind (arith, common_steps);
      over = grind (arith, common_steps);
      sale = grind (arith, common_steps);
      its_nozzle = grind (arith, common_steps);
      its_volume = grind (arith, common_steps);
      its_price = grind (arith, common_steps);
      its_prepaid = grind (arith, common_steps);
      something = grind (arith, common_steps);
    }

-- where a point draws: a test was under way, and this is its volume and its nozzle
pub record DrawnFrom (event : PointEvent) (f : Facts) (nozzle volume : ℕ) : Type 0 where
  pub was : is_under_way f.state ≡ true
  pub over : is_released (after event f).state ≡ false
  pub test : f.test ≡ true
  pub its_nozzle : nozzle ≡ nozzle_out f
  pub its_volume : volume ≡ f.volume + growth_of event
  pub something : 1 ≤ volume

pub drawn_from : (event : PointEvent) (f : Facts) (nozzle volume : ℕ)
    → IsWhole f → refusal_of event f ≡ None → step_of event f ≡ Drawn nozzle volume
    → DrawnFrom event f nozzle volume
drawn_from event f nozzle volume w taken is =
    let something = w.something in
    record {
      was = grind (arith, common_steps);
      over = grind (arith, common_steps);
      test = grind (arith, common_steps);
      its_nozzle = grind (arith, common_steps);
      its_volume = grind (arith, common_steps);
      something = grind (arith, common_steps);
    }

-- nothing but a hang up or an offline sells or draws
pub nothing_sold : (event : PointEvent) (f : Facts) → is_end event ≡ false
    → sold_in (step_of event f) ≡ 0
nothing_sold event f other = grind (arith, common_steps)

pub nothing_drawn : (event : PointEvent) (f : Facts) → is_end event ≡ false
    → drawn_in (step_of event f) ≡ 0
nothing_drawn event f other = grind (arith, common_steps)

-- a volume after the event is of the nozzle that was out
pub same_nozzle : (event : PointEvent) (f : Facts) → refusal_of event f ≡ None
    → (volume_of (after event f) ≡ 0) ⊎ ((after event f).out ≡ f.out)
same_nozzle event f taken = grind (arith, common_steps)
