-- The start of a fuelling that is under way.
use Rattle.std.proofs.Common.{◌≡◌, ℕ, ◌+◌, Bool, true, false, List, [], ◌∷◌, ◌⊎◌, inl, inr, Option}
use Rattle.std.proofs.Common.{Ok, sum_by, refl, sym, ap, subst, ◌∙◌, add_assoc, zero-add, arith}
use Rattle.std.specs.List.{list_any}
use Rattle.std.proofs.lemmas.List.Sums.{sum_by-cons}
use Rattle.fuelling_point.specs.declared.event.PointEvent.{PointEvent}
use Rattle.site_base.specs.declared.state.PointState.TheVariants.{Closed}
use Rattle.std.proofs.lemmas.Bool.{false≢true}
use Rattle.fuelling_point.specs.declared.step.PointStep.TheVariants.{Sold, Drawn}
use Rattle.fuelling_point.specs.KeptPoints.{Facts, empty_point, is_under_way, growth_of}
use Rattle.fuelling_point.specs.History.{Moment, history, facts_at_end, facts_after, reply_to}
use Rattle.fuelling_point.specs.History.{moments_of, point_after}
use Rattle.fuelling_point.specs.Laws.{ends, flowed_in, reply_at, HasStarted, IsSoldAsStarted}
use Rattle.fuelling_point.proofs.Events.{not_ended, price_kept, start_kept, volume_kept}
use Rattle.fuelling_point.proofs.Events.{start_taken, volume_none, sold_under_way, sold_price}
use Rattle.fuelling_point.proofs.Events.{sold_volume, drawn_under_way, drawn_volume}

abbrev pub growth_at : Moment → ℕ
growth_at m = flowed_in (reply_at m)

-- a fuelling is under way at f and at no moment since has it ended
pub record GoesOn (f : Facts) (moments : List Moment) (last : Facts) : Type 0 where
  under_way : is_under_way f.state ≡ true
  lasts : list_any ends moments ≡ false
  price : last.price ≡ f.price
  start : last.start ≡ f.start
  volume : last.volume ≡ f.volume + sum_by growth_at moments

abbrev pub Stands : Facts → List Moment → Facts → Type 0
Stands f moments last = GoesOn f moments last ⊎ HasStarted moments last.price last.start last.volume

-- a fuelling that goes on after an event was under way before it, or the event starts it
one_earlier : (e : PointEvent) (f last : Facts) (ms : List Moment)
    → GoesOn (facts_after e f) ms last → Stands f (record { before = f; event = e } ∷ ms) last
one_earlier e f last ms on = by_test (is_under_way f.state) refl
  where
    by_test : (b : Bool) → is_under_way f.state ≡ b
        → Stands f (record { before = f; event = e } ∷ ms) last
    by_test true is = inl (record {
      under_way = is;
      lasts = rw (not_ended e f on.under_way is) on.lasts;
      price = on.price ∙ price_kept e f on.under_way is;
      start = on.start ∙ start_kept e f on.under_way is;
      volume = on.volume ∙ ap (λ n. n + sum_by growth_at ms) (volume_kept e f on.under_way is)
          ∙ add_assoc f.volume (growth_at (record { before = f; event = e })) (sum_by growth_at ms)
          ∙ ap (λ n. f.volume + n) (sym (sum_by-cons growth_at (record { before = f; event = e })
          ms));
    })
    by_test false is = inr (record {
      before = [];
      begin = record { before = f; event = e };
      since = ms;
      parts = refl;
      taken = rw (on.price, on.start) (start_taken e f on.under_way is);
      goes_on = on.lasts;
      flowed = on.volume ∙ ap (λ n. n + sum_by growth_at ms) (volume_none e f on.under_way is)
          ∙ zero-add (sum_by growth_at ms);
    })

-- the fuelling that stands at the end of a later history stands at the end of the whole
also_earlier : (m : Moment) (ms : List Moment) (last : Facts)
    → HasStarted ms last.price last.start last.volume
    → HasStarted (m ∷ ms) last.price last.start last.volume
also_earlier m ms last s = record {
  before = m ∷ s.before;
  begin = s.begin;
  since = s.since;
  parts = ap (λ (x : List Moment). m ∷ x) s.parts;
  taken = s.taken;
  goes_on = s.goes_on;
  flowed = s.flowed;
}

pub stands : (f : Facts) (events : List PointEvent)
    → is_under_way (facts_at_end f events).state ≡ true
    → Stands f (history f events) (facts_at_end f events)
stands f [] is = inl (record {
  under_way = is;
  lasts = refl;
  price = refl;
  start = refl;
  volume = omega arith;
})
stands f (e ∷ es) is = elim (stands (facts_after e f) es is) [
  | inl on ↦ one_earlier e f (facts_at_end (facts_after e f) es) (history (facts_after e f) es) on
  | inr s ↦ inr (also_earlier (record { before = f; event = e }) (history (facts_after e f) es)
      (facts_at_end (facts_after e f) es) s)
]

-- a closed point has no fuelling under way, so one that stands later has started since
pub started : (events : List PointEvent) → is_under_way (point_after events).state ≡ true
    → HasStarted (moments_of events) (point_after events).price (point_after events).start
    (point_after events).volume
started events is = elim (stands (empty_point Closed) events is)
    [ inl on ↦ absurd (false≢true on.under_way) | inr s ↦ s ]

-- what is sold is the fuelling that stood under way
sold_started : (events : List PointEvent) (event : PointEvent) (nozzle volume price : ℕ)
    (prepaid : Option ℕ)
    → reply_to event (point_after events) ≡ Ok (Sold nozzle volume price prepaid)
    → (start : ℕ) × ((flowed : ℕ) × (HasStarted (moments_of events) price start flowed
    × (volume ≡ flowed + growth_of event)))
sold_started events event nozzle volume price prepaid is =
    let f : Facts = point_after events in
    let kept : HasStarted (moments_of events) f.price f.start f.volume =
    started events (sold_under_way event f nozzle volume price prepaid is) in (
      f.start,
      (
        f.volume,
        (
          subst (λ p. HasStarted (moments_of events) p f.start f.volume)
              (sold_price event f nozzle volume price prepaid is) kept,
          sold_volume event f nozzle volume
              price prepaid is,
        ),
      ),
    )

-- what is drawn too
drawn_started : (events : List PointEvent) (event : PointEvent) (nozzle volume : ℕ)
    → reply_to event (point_after events) ≡ Ok (Drawn nozzle volume)
    → (price : ℕ) × ((start : ℕ) × ((flowed : ℕ)
    × (HasStarted (moments_of events) price start flowed
    × (volume ≡ flowed + growth_of event))))
drawn_started events event nozzle volume is =
    let f : Facts = point_after events in
    let kept : HasStarted (moments_of events) f.price f.start f.volume =
    started events (drawn_under_way event f nozzle volume is) in
    (f.price, (f.start, (f.volume, (kept, drawn_volume event f nozzle volume is))))

pub sold_as_started : IsSoldAsStarted
sold_as_started = record { sold = sold_started; drawn = drawn_started }
