-- The nozzle that is out.
use Rattle.std.proofs.Common.{◌≡◌, ℕ, Bool, true, false, List, [], ◌∷◌, ◌⊎◌, inl, inr, Some, None}
use Rattle.std.proofs.Common.{refl, sym, ap, ◌∙◌, arith}
use Rattle.std.specs.Prelude.{is_some}
use Rattle.std.specs.List.{list_any}
use Rattle.std.proofs.lemmas.Bool.{false≢true}
use Rattle.std.proofs.lemmas.Grind.{common_steps}
use Rattle.site_base.specs.declared.state.PointState.TheVariants.{Closed}
use Rattle.fuelling_point.specs.declared.event.PointEvent.{PointEvent}
use Rattle.fuelling_point.specs.declared.event.PointEvent.TheVariants.{Flow, HangUp}
use Rattle.fuelling_point.specs.KeptPoints.{Facts, empty_point, has_nozzle_out}
use Rattle.fuelling_point.specs.Whole.{IsWhole}
use Rattle.fuelling_point.specs.PointChecks.{refusal_of}
use Rattle.fuelling_point.specs.History.{Moment, history, facts_at_end, facts_after, reply_to}
use Rattle.fuelling_point.specs.History.{moments_of, point_after}
use Rattle.fuelling_point.specs.Laws.{delivered_by, ends, lifted_by, HasLifted, IsTheLifted}
use Rattle.fuelling_point.proofs.Whole.{whole_after}

not_put_back : (e : PointEvent) (f : Facts) → has_nozzle_out (facts_after e f).state ≡ true
    → has_nozzle_out f.state ≡ true → ends (record { before = f; event = e }) ≡ false
not_put_back e f after before = grind (arith, common_steps)

pub out_kept : (e : PointEvent) (f : Facts) → has_nozzle_out (facts_after e f).state ≡ true
    → has_nozzle_out f.state ≡ true → (facts_after e f).out ≡ f.out
out_kept e f after before = grind (arith, common_steps)

lifted : (e : PointEvent) (f : Facts) → has_nozzle_out (facts_after e f).state ≡ true
    → has_nozzle_out f.state ≡ false → lifted_by e f.state ≡ (facts_after e f).out
lifted e f after before = grind (arith, common_steps)

pub sold_nozzle : (e : PointEvent) (f : Facts) (nozzle volume : ℕ) → IsWhole f
    → delivered_by (reply_to e f) ≡ Some (nozzle, volume) → f.out ≡ Some nozzle
sold_nozzle e f nozzle volume w is =
    let whole = w.nozzle in
    grind (arith, common_steps)

-- a report that is accepted is of the nozzle that is out
pub flow_nozzle : (nozzle growth : ℕ) (f : Facts) → IsWhole f
    → refusal_of (Flow nozzle growth) f ≡ None → f.out ≡ Some nozzle
flow_nozzle nozzle growth f w taken =
    let whole = w.nozzle in
    grind (arith, common_steps)

pub hang_up_nozzle : (nozzle growth : ℕ) (f : Facts) → IsWhole f
    → refusal_of (HangUp nozzle growth) f ≡ None → f.out ≡ Some nozzle
hang_up_nozzle nozzle growth f w taken =
    let whole = w.nozzle in
    grind (arith, common_steps)

-- this nozzle is out at f, and at no moment since was it put back
pub record StaysOut (f : Facts) (moments : List Moment) (nozzle : ℕ) : Type 0 where
  calls : has_nozzle_out f.state ≡ true
  lasts : list_any ends moments ≡ false
  is : f.out ≡ Some nozzle

abbrev Stands : Facts → List Moment → ℕ → Type 0
Stands f moments nozzle = StaysOut f moments nozzle ⊎ HasLifted moments nozzle

-- a nozzle that is out after an event was out before it, or the event takes it out
one_earlier : (e : PointEvent) (f : Facts) (ms : List Moment) (nozzle : ℕ)
    → StaysOut (facts_after e f) ms nozzle → Stands f (record { before = f; event = e } ∷ ms) nozzle
one_earlier e f ms nozzle on = by_test (has_nozzle_out f.state) refl
  where
    by_test : (b : Bool) → has_nozzle_out f.state ≡ b
        → Stands f (record { before = f; event = e } ∷ ms) nozzle
    by_test true was = inl (record {
      calls = was;
      lasts = rw (not_put_back e f on.calls was) on.lasts;
      is = sym (out_kept e f on.calls was) ∙ on.is;
    })
    by_test false was = inr (record {
      before = [];
      lift = record { before = f; event = e };
      since = ms;
      parts = refl;
      taken = lifted e f on.calls was ∙ on.is;
      stays_out = on.lasts;
    })

also_earlier : (m : Moment) (ms : List Moment) (nozzle : ℕ) → HasLifted ms nozzle
    → HasLifted (m ∷ ms) nozzle
also_earlier m ms nozzle s = record {
  before = m ∷ s.before;
  lift = s.lift;
  since = s.since;
  parts = ap (λ (x : List Moment). m ∷ x) s.parts;
  taken = s.taken;
  stays_out = s.stays_out;
}

stands : (f : Facts) (events : List PointEvent) (nozzle : ℕ)
    → has_nozzle_out (facts_at_end f events).state ≡ true
    → (facts_at_end f events).out ≡ Some nozzle
    → Stands f (history f events) nozzle
stands f [] nozzle calls is = inl (record { calls = calls; lasts = refl; is = is })
stands f (e ∷ es) nozzle calls is = elim (stands (facts_after e f) es nozzle calls is) [
  | inl on ↦ one_earlier e f (history (facts_after e f) es) nozzle on
  | inr s ↦ inr (also_earlier (record { before = f; event = e }) (history (facts_after e f) es)
      nozzle s)
]

-- a closed point has no nozzle out, so one that is out later has been lifted since
out : (events : List PointEvent) (nozzle : ℕ) → (point_after events).out ≡ Some nozzle
    → HasLifted (moments_of events) nozzle
out events nozzle is =
    let calls : has_nozzle_out (point_after events).state ≡ true =
    sym (whole_after events).nozzle ∙ ap is_some is in
    elim (stands (empty_point Closed) events nozzle calls is)
    [ inl on ↦ absurd (false≢true on.calls) | inr s ↦ s ]

pub the_lifted : IsTheLifted
the_lifted = record {
  out = out;
  sold = λ events event nozzle volume is. out events nozzle
      (sold_nozzle event (point_after events) nozzle volume (whole_after events) is);
}
