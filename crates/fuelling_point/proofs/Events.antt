-- What one event changes of a fuelling.
use Rattle.std.proofs.Common.{◌≡◌, ℕ, ◌+◌, true, false, Option, Some, Ok, arith}
use Rattle.std.proofs.lemmas.Grind.{common_steps}
use Rattle.fuelling_point.specs.declared.event.PointEvent.{PointEvent}
use Rattle.fuelling_point.specs.declared.step.PointStep.TheVariants.{Sold, Drawn, Ending}
use Rattle.fuelling_point.specs.KeptPoints.{Facts, is_under_way, growth_of}
use Rattle.fuelling_point.specs.History.{reply_to, facts_after}
use Rattle.fuelling_point.specs.Whole.{is_suspended}
use Rattle.fuelling_point.specs.Laws.{ends, flowed_in, handed_in}

pub not_ended : (e : PointEvent) (f : Facts) → is_under_way (facts_after e f).state ≡ true
    → is_under_way f.state ≡ true → ends (record { before = f; event = e }) ≡ false
not_ended e f after before = grind (arith, common_steps)

pub price_kept : (e : PointEvent) (f : Facts) → is_under_way (facts_after e f).state ≡ true
    → is_under_way f.state ≡ true → (facts_after e f).price ≡ f.price
price_kept e f after before = grind (arith, common_steps)

pub start_kept : (e : PointEvent) (f : Facts) → is_under_way (facts_after e f).state ≡ true
    → is_under_way f.state ≡ true → (facts_after e f).start ≡ f.start
start_kept e f after before = grind (arith, common_steps)

pub volume_kept : (e : PointEvent) (f : Facts) → is_under_way (facts_after e f).state ≡ true
    → is_under_way f.state ≡ true → (facts_after e f).volume ≡ f.volume + flowed_in (reply_to e f)
volume_kept e f after before = grind (arith, common_steps)

pub start_taken : (e : PointEvent) (f : Facts) → is_under_way (facts_after e f).state ≡ true
    → is_under_way f.state ≡ false
    → handed_in e f.state ≡ Some ((facts_after e f).price, (facts_after e f).start)
start_taken e f after before = grind (arith, common_steps)

pub volume_none : (e : PointEvent) (f : Facts) → is_under_way (facts_after e f).state ≡ true
    → is_under_way f.state ≡ false → (facts_after e f).volume ≡ 0
volume_none e f after before = grind (arith, common_steps)

pub sold_under_way : (e : PointEvent) (f : Facts) (nozzle volume price : ℕ) (prepaid : Option ℕ)
    → reply_to e f ≡ Ok (Sold nozzle volume price prepaid) → is_under_way f.state ≡ true
sold_under_way e f nozzle volume price prepaid is = grind (arith, common_steps)

pub sold_price : (e : PointEvent) (f : Facts) (nozzle volume price : ℕ) (prepaid : Option ℕ)
    → reply_to e f ≡ Ok (Sold nozzle volume price prepaid) → f.price ≡ price
sold_price e f nozzle volume price prepaid is = grind (arith, common_steps)

pub sold_volume : (e : PointEvent) (f : Facts) (nozzle volume price : ℕ) (prepaid : Option ℕ)
    → reply_to e f ≡ Ok (Sold nozzle volume price prepaid) → volume ≡ f.volume + growth_of e
sold_volume e f nozzle volume price prepaid is = grind (arith, common_steps)

pub drawn_under_way : (e : PointEvent) (f : Facts) (nozzle volume : ℕ)
    → reply_to e f ≡ Ok (Drawn nozzle volume) → is_under_way f.state ≡ true
drawn_under_way e f nozzle volume is = grind (arith, common_steps)

pub drawn_volume : (e : PointEvent) (f : Facts) (nozzle volume : ℕ)
    → reply_to e f ≡ Ok (Drawn nozzle volume) → volume ≡ f.volume + growth_of e
drawn_volume e f nozzle volume is = grind (arith, common_steps)

pub suspended_when_terminated : (e : PointEvent) (f : Facts) → reply_to e f ≡ Ok Ending
    → is_suspended (facts_after e f).state ≡ true
suspended_when_terminated e f is = grind (arith, common_steps)

pub ending_when_terminated : (e : PointEvent) (f : Facts) → reply_to e f ≡ Ok Ending
    → (facts_after e f).ending ≡ true
ending_when_terminated e f is = grind (arith, common_steps)

pub suspended_kept : (e : PointEvent) (f : Facts) → is_suspended f.state ≡ true → f.ending ≡ true
    → ends (record { before = f; event = e }) ≡ false → is_suspended (facts_after e f).state ≡ true
suspended_kept e f suspend_state is on = grind (arith, common_steps)

pub ending_kept : (e : PointEvent) (f : Facts) → is_suspended f.state ≡ true → f.ending ≡ true
    → ends (record { before = f; event = e }) ≡ false → (facts_after e f).ending ≡ true
ending_kept e f suspend_state is on = grind (arith, common_steps)
