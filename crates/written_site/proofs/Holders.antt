-- The holder of a point is a slot of the site's history.
use Rattle.std.proofs.Common.{◌≡◌, ℕ, ◌==◌, not, ◌&&◌, Bool, true, false, cond, List, [], ◌∷◌, ◌++◌}
use Rattle.std.proofs.Common.{Option, Some, None, is_some, Ok, refl, sym, ap, subst, ◌∙◌}
use Rattle.std.proofs.Common.{if◌then◌else◌, arith}
use Rattle.std.proofs.lemmas.Bool.Decides.{nat_tests}
use Rattle.std.specs.Ordering.{nat_cmp}
use Rattle.std.specs.Cmp.{nat_cmp_total}
use Rattle.std.specs.FinMap as finite
use Rattle.std.specs.FinMap.{FinMap, get-empty, get-insert, get-remove, get-retain_keys}
use Rattle.std.specs.FinMap.{nat_cmp-IsAntisymmetric}
use Rattle.site_base.specs.declared.actor.Actor.{Actor}
use Rattle.site_base.specs.declared.actor.Actor.TheVariants.{Till}
use Rattle.site_base.specs.declared.event.Event.{Event}
use Rattle.site_base.specs.declared.event.Event.TheVariants.{SignOff, Assign, Unassign, Release}
use Rattle.site_base.specs.declared.event.Event.TheVariants.{Prepay, TestRelease, Terminate, Clear}
use Rattle.site_base.specs.declared.event.Event.TheVariants.{ReadTransaction, ReadProduct, Lift}
use Rattle.site_base.specs.declared.event.Event.TheVariants.{Offline, Flow, HangUp}
use Rattle.site_base.specs.declared.refusal.Refusal.{Refusal}
use Rattle.site_base.specs.declared.refusal.Refusal.TheVariants.{AssignedToOther}
use Rattle.site_base.specs.declared.row.Row.{Row}
use Rattle.site_base.specs.declared.state.PointState.{PointState}
use Rattle.site_base.specs.declared.state.PointState.TheVariants.{Inoperative, Closed, Idle}
use Rattle.site_base.specs.declared.state.PointState.TheVariants.{Calling, Authorised, Started}
use Rattle.site_base.specs.declared.state.PointState.TheVariants.{SuspendedStarted, Fuelling}
use Rattle.site_base.specs.declared.state.PointState.TheVariants.{SuspendedFuelling}
use Rattle.site_base.specs.Checks.{unless}
use Rattle.fuelling_point.specs.declared.event.PointEvent.TheVariants as points
use Rattle.fuelling_point.specs.declared.step.PointStep.{PointStep}
use Rattle.fuelling_point.specs.declared.step.PointStep.TheVariants.{NoSale, Sold, Drawn, Stopped}
use Rattle.fuelling_point.specs.Step as machine
use Rattle.fuelling_point.specs.Table.{growth_in}
use Rattle.site_base.specs.Table.{row_of}
use Rattle.fuelling_point.specs.Holds.{is_held_by}
use Rattle.transaction_buffer.specs.Sales.{sale_of}
use Rattle.written_site.specs.SiteState.{SiteState, opening, facts_of, holder_of, is_resting}
use Rattle.written_site.specs.SiteState.{key_named, rests, view_sale, price_at_start}
use Rattle.written_site.specs.SiteState.{reading_at_start}
use Rattle.written_site.specs.SiteChecks.{first_refusal, free_for, flow_since}
use Rattle.written_site.specs.SiteStep.{accepted_site, site_after, site_answer, step_told}
use Rattle.written_site.specs.SiteStep.{ends_at_sign_off}
use Rattle.written_site.specs.SiteStep.{holds_without, holds_unless_over}
use Rattle.written_site.specs.SiteRun.{row_to, rows_of, events_of, site_at_end, site_of_rows}
use Rattle.written_site.specs.Histories.{Moment, moments_after, moments_of}
use Rattle.written_site.specs.Holders.{is_at_rest, stands_at_rest, takes_hold, ends_hold}
use Rattle.written_site.specs.Holders.{hold_taker, is_end, tells_end, AreHeldByOne, AreHoldsOf}
use Rattle.written_site.specs.Holders.{IsHeldByOne, AreUnendedTakes, AreBooksHeldByOne}
use Rattle.site_base.proofs.Cells.{apart, alike}
use Rattle.written_site.proofs.PassedChecks.{passed}
use Rattle.written_site.proofs.Bridge.{legal_histories_are_runs}
use Rattle.written_site.proofs.ToldAnswers.{clears_sale, flows, lifts, shows_product, shows_sale}
use Rattle.written_site.proofs.Slots.{next, MayTake, standing, Fair, end_between, last_take}

-- what an event does to the hold of a point: the till that takes it, and whose hold it ends
record Does (old new : Option ℕ) (take : Option ℕ) (ends : ℕ → Bool) : Type 0 where
  holder : new ≡ next take old ends
  may : MayTake take old

-- nothing
idle : (holder : Option ℕ) → Does holder holder None (λ t. false)
idle None = record { holder = refl; may = tt }
idle (Some t) = record { holder = refl; may = tt }

-- a point that is free for a till may be taken by it
may_take : (t : ℕ) (holder : Option ℕ) → free_for t holder ≡ None → MayTake (Some t) holder
may_take t None free = tt
may_take t (Some u) free = by_test (u == t) refl free
  where
    by_test : (b : Bool) → (u == t) ≡ b → unless b (AssignedToOther u) ≡ None → u ≡ t
    by_test true is free = grind (arith, nat_tests)
    by_test false is free = cc

-- Assign of q by t
assigned : (holds : FinMap nat_cmp ℕ) (p q t : ℕ) → MayTake (Some t) (finite.get holds q)
    → Does (finite.get holds p) (finite.get (finite.insert holds q t) p)
    (if q == p then Some t else None) (λ u. false)
assigned holds p q t may = by_test (q == p) refl
  where
    by_test : (b : Bool) → (q == p) ≡ b
        → Does (finite.get holds p) (finite.get (finite.insert holds q t) p)
        (if q == p then Some t else None) (λ u. false)
    by_test true is =
        let same : q ≡ p = grind (arith, nat_tests) in
        rw is (record {
          holder = get-insert nat_cmp_total holds q t p ∙ rw (alike p q (sym same)) refl;
          may = subst (λ x. MayTake (Some t) (finite.get holds x)) same may;
        })
    by_test false is = rw (is, get-insert nat_cmp_total holds q t p, apart p q (λ same. other same))
        (idle (finite.get holds p))
      where
        other : p ≡ q → ⊥
        other same = grind (arith, nat_tests)

-- a hold that is given back, if there was one
given_back : (holder : Option ℕ) → Does holder None None (λ u. true)
given_back None = record { holder = refl; may = tt }
given_back (Some u) = record { holder = refl; may = tt }

-- Unassign of q
unassigned : (holds : FinMap nat_cmp ℕ) (p q : ℕ)
    → Does (finite.get holds p) (finite.get (finite.remove holds q) p) None (λ u. q == p)
unassigned holds p q = by_test (q == p) refl
  where
    by_test : (b : Bool) → (q == p) ≡ b
        → Does (finite.get holds p) (finite.get (finite.remove holds q) p) None (λ u. q == p)
    by_test true is =
        let same : p ≡ q = grind (arith, nat_tests) in
        rw (is, get-remove nat_cmp_total holds q p, alike p q same)
        (given_back (finite.get holds p))
    by_test false is = rw (is, get-remove nat_cmp_total holds q p, apart p q (λ same. other same))
        (idle (finite.get holds p))
      where
        other : p ≡ q → ⊥
        other same = grind (arith, nat_tests)

-- a hold that a sign-off ends, or leaves
unlock_all_of : (resting : Bool) (t : ℕ) (holder : Option ℕ)
    → Does holder (cond (not (resting && is_held_by t holder)) holder None) None
    (λ u. resting && u == t)
unlock_all_of true t None = record { holder = refl; may = tt }
unlock_all_of false t None = record { holder = refl; may = tt }
unlock_all_of resting t (Some u) = record { holder = turned (resting && u == t); may = tt }
  where
    turned : (b : Bool) → cond (not b) (Some u) None ≡ (if b then None else Some u)
    turned true = refl
    turned false = refl

-- SignOff of t
signed_off : (s : SiteState) (t p : ℕ)
    → Does (holder_of s p) (finite.get (holds_without s.points s.holds t) p) None
    (λ u. rests s.points p && u == t)
signed_off s t p = rw (get-retain_keys s.holds (λ q. not (ends_at_sign_off s.points s.holds t q)) p
    (λ x tied. ap (λ (y : ℕ). not (ends_at_sign_off s.points s.holds t y))
    (sym (nat_cmp-IsAntisymmetric p x tied))))
    (unlock_all_of (rests s.points p) t (holder_of s p))

-- what a step of q is told as, and what it leaves of the holds, agree: both end the hold, or
-- neither does
stepped : (s : SiteState) (holds : FinMap nat_cmp ℕ) (p q growth : ℕ) (step : PointStep)
    → Does (finite.get holds p) (finite.get (holds_unless_over q step holds) p) None
    (λ u. tells_end (Ok (step_told s q growth step)) && q == p)
stepped s holds p q growth Stopped = unassigned holds p q
stepped s holds p q growth NoSale = unassigned holds p q
stepped s holds p q growth (Sold nozzle volume price prepaid) = unassigned holds p q
stepped s holds p q growth (Drawn nozzle volume) = unassigned holds p q
stepped s holds p q growth step = idle (finite.get holds p)

-- the states in which a sign-off ends a hold are those in which a point rests
rests_so : (state : PointState) → is_at_rest state ≡ is_resting state
rests_so Inoperative = refl
rests_so Closed = refl
rests_so Idle = refl
rests_so Calling = refl
rests_so Authorised = refl
rests_so Started = refl
rests_so SuspendedStarted = refl
rests_so Fuelling = refl
rests_so SuspendedFuelling = refl

at_rest : (s : SiteState) (p : ℕ) → stands_at_rest s p ≡ rests s.points p
at_rest s p =
    ap (λ (b : Bool). is_some (row_of p s.points) && b) (rests_so (facts_of s p).state)

-- an accepted event, with its answer
accepted : (s : SiteState) (a : Actor) (e : Event) (p : ℕ) → first_refusal s a e ≡ None
    → Does (holder_of s p) (holder_of (accepted_site s a e) p) (hold_taker p a e)
    (λ t. is_end p t s a e (Ok (site_answer s e)))
accepted s (Till t) (Assign q) p ok =
    assigned s.holds p q t (may_take t (holder_of s q) (passed s (Till t) (Assign q) ok).free)
accepted s (Till t) (Release q preset) p ok =
    assigned s.holds p q t (may_take t (holder_of s q)
    (passed s (Till t) (Release q preset) ok).free)
accepted s (Till t) (Prepay q cents) p ok =
    assigned s.holds p q t (may_take t (holder_of s q) (passed s (Till t) (Prepay q cents) ok).free)
accepted s (Till t) (TestRelease q) p ok =
    assigned s.holds p q t (may_take t (holder_of s q) (passed s (Till t) (TestRelease q) ok).free)
accepted s (Till t) (Unassign q) p ok = unassigned s.holds p q
accepted s (Till t) SignOff p ok =
    subst (λ (b : Bool). Does (holder_of s p) (finite.get (holds_without s.points s.holds t) p) None
    (λ u. b && u == t)) (sym (at_rest s p)) (signed_off s t p)
accepted s a (Offline q) p ok = unassigned s.holds p q
accepted s a (HangUp q n reading) p ok =
    stepped s s.holds p q (flow_since s q n reading)
    (machine.step_of (points.HangUp n (flow_since s q n reading)) (facts_of s q))
accepted s a (Terminate q) p ok =
    stepped s s.holds p q 0 (machine.step_of points.Terminate (facts_of s q))
accepted s a (Lift q n reading) p ok =
    rw (lifts s q n (reading_at_start s q (Some n)) (price_at_start s q (Some n)) (facts_of s q)
    (facts_of s q).state) (idle (holder_of s p))
accepted s a (Flow q n reading) p ok =
    rw (flows s q n (flow_since s q n reading) (facts_of s q) (growth_in (flow_since s q n reading))
    (facts_of s q).state) (idle (holder_of s p))
accepted s a (ReadProduct q) p ok =
    rw (shows_product s q (row_of q s.prices)) (idle (holder_of s p))
accepted s a (Clear q id) p ok =
    rw (clears_sale (sale_of (key_named s q id) s.sales)) (idle (holder_of s p))
accepted s a (ReadTransaction q id) p ok = rw (shows_sale (view_sale s q id)) (idle (holder_of s p))
accepted s a e p ok = idle (holder_of s p)

-- the moment of an event at this site
abbrev moment : List Row → SiteState → Actor → Event → Moment
moment earlier s a e = record { earlier = earlier; before = s; row = row_to s a e }

-- a refused or accepted event
does : (earlier : List Row) (s : SiteState) (a : Actor) (e : Event) (p : ℕ)
    → Does (holder_of s p) (holder_of (site_after s a e) p) (takes_hold p (moment earlier s a e))
    (λ t. ends_hold p t (moment earlier s a e))
does earlier s a e p = by_refusal (first_refusal s a e) refl
  where
    by_refusal : (r : Option Refusal) → first_refusal s a e ≡ r
        → Does (holder_of s p) (holder_of (site_after s a e) p)
        (takes_hold p (moment earlier s a e)) (λ t. ends_hold p t (moment earlier s a e))
    by_refusal (Some refusal) is = rw is (idle (holder_of s p))
    by_refusal None is = rw is (accepted s a e p is)

-- the moments of a run from this site on
abbrev moments_from : List Row → SiteState → List (Actor × Event) → List Moment
moments_from earlier s es = moments_after earlier s (rows_of s es)

fair_run : (p : ℕ) (earlier : List Row) (s : SiteState) (es : List (Actor × Event))
    → Fair (takes_hold p) (ends_hold p) (holder_of s p) (moments_from earlier s es)
fair_run p earlier s [] = tt
fair_run p earlier s (e ∷ es) =
    let done = does earlier s e.0 e.1 p in
    let later = earlier ++ row_to s e.0 e.1 ∷ [] in (
      done.may,
      subst (λ holder. Fair (takes_hold p) (ends_hold p) holder
          (moments_from later (site_after s e.0 e.1) es)) done.holder
          (fair_run p later (site_after s e.0 e.1) es),
    )

stands_at_end : (p : ℕ) (earlier : List Row) (s : SiteState) (es : List (Actor × Event))
    → standing (takes_hold p) (ends_hold p) (holder_of s p) (moments_from earlier s es)
    ≡ holder_of (site_at_end s es) p
stands_at_end p earlier s [] = refl
stands_at_end p earlier s (e ∷ es) =
    let done = does earlier s e.0 e.1 p in
    let later = earlier ++ row_to s e.0 e.1 ∷ [] in
    ap (λ holder. standing (takes_hold p) (ends_hold p) holder
    (moments_from later (site_after s e.0 e.1) es)) (sym done.holder)
    ∙ stands_at_end p later (site_after s e.0 e.1) es

pub held_by_one : IsHeldByOne
held_by_one c events p t u before between since first second parts taken taken' differ =
    end_between (takes_hold p) (ends_hold p) _ t u before first between second since
    (subst (Fair (takes_hold p) (ends_hold p) (holder_of (opening c) p)) parts
    (fair_run p [] (opening c) events))
    taken taken' differ

pub holds_are_unended_takes : AreUnendedTakes
holds_are_unended_takes c events p t =
    let moments = moments_of c (rows_of (opening c) events) in
    let free : holder_of (opening c) p ≡ None = get-empty nat_cmp p in
    let fair = subst (λ holder. Fair (takes_hold p) (ends_hold p) holder moments) free
    (fair_run p [] (opening c) events) in
    let stands = ap (λ holder. standing (takes_hold p) (ends_hold p) holder moments) (sym free)
    ∙ stands_at_end p [] (opening c) events in
    let last = last_take (takes_hold p) (ends_hold p) t moments fair in
    (λ is. last.0 (stands ∙ is), λ taken. sym stands ∙ last.1 taken)

-- a legal history is that of its events
pub books_held_by_one : AreBooksHeldByOne
books_held_by_one c rows legal =
    let run = legal_histories_are_runs.run (opening c) rows legal in
    let events = events_of rows in
    record {
      one = subst (λ history. AreHeldByOne (moments_of c history)) (sym run.rows)
          (held_by_one c events);
      unended =
          subst (λ history. AreHoldsOf (site_of_rows (opening c) rows) (moments_of c history))
          (sym run.rows)
          (subst (λ s. AreHoldsOf s (moments_of c (rows_of (opening c) events))) (sym run.leads)
          (holds_are_unended_takes c events));
    }
