-- What each point keeps after an accepted event, whatever the configuration.
use Rattle.std.proofs.Common.{◌≡◌, ℕ, ◌==◌, Bool, true, false, List, [], ◌∷◌, Option, Some, None}
use Rattle.std.proofs.Common.{unwrap_or, refl, sym, ap, ◌∙◌}
use Rattle.std.proofs.lemmas.Bool.{false≢true}
use Rattle.site_base.specs.declared.actor.Actor.{Actor}
use Rattle.site_base.specs.declared.event.Event.{Event}
use Rattle.site_base.specs.declared.state.PointState.TheVariants.{Closed}
use Rattle.site_base.specs.declared.config.PointEntry.{PointEntry}
use Rattle.site_base.specs.Configured.{Configured}
use Rattle.fuelling_point.specs.declared.event.PointEvent.{PointEvent}
use Rattle.fuelling_point.specs.KeptPoints.{Facts, empty_point}
use Rattle.fuelling_point.specs.PointChecks.{refusal_of}
use Rattle.fuelling_point.specs.Step.{after}
use Rattle.written_site.specs.SiteState.{SiteState, opening, points_of, facts_in, facts_of}
use Rattle.written_site.specs.SiteChecks.{Passed, own_event, point_refusal}
use Rattle.written_site.specs.SiteStep.{with_event, points_after}
use Rattle.written_site.proofs.SoundTables.{same, itself, told_once, facts_there, row_there}
use Rattle.written_site.proofs.SoundTables.{row_of-same, row_of-other}
use Rattle.written_site.proofs.SoundSold.{own_there}

-- a point that the event isn't of stays as it was; its own does what the point table says, and
-- refuses nothing
pub data FactsAfter (s : SiteState) (e : Event) (q : ℕ) : Type 0 where
  stays : facts_in (points_after s e) q ≡ facts_of s q
      → ((event : PointEvent) → own_event s e ≡ Some (q, event) → ⊥) → FactsAfter s e q
  moves : (event : PointEvent) → own_event s e ≡ Some (q, event)
      → facts_in (points_after s e) q ≡ after event (facts_of s q)
      → refusal_of event (facts_of s q) ≡ None → FactsAfter s e q

pub facts_after : (s : SiteState) (a : Actor) (e : Event) → Passed s a e → (q : ℕ)
    → FactsAfter s e q
facts_after s a e passes q = by_own (own_event s e) refl
  where
    written : (p : ℕ) (event : PointEvent) → own_event s e ≡ Some (p, event)
        → facts_in (with_event s.points (Some (p, event))) p ≡ after event (facts_of s p)
    written p event own =
        facts_there (with_event s.points (Some (p, event))) p (after event (facts_of s p))
        (row_of-same p (after event (facts_of s p)) (facts_of s p) s.points
        (row_there s.points p (own_there s e p event passes.names own)))

    by_test : (p : ℕ) (event : PointEvent) → own_event s e ≡ Some (p, event) → (b : Bool)
        → (q == p) ≡ b → FactsAfter s e q
    by_test p event own true at =
        let one : p ≡ q = sym (same q p at) in
        let own_q : own_event s e ≡ Some (q, event) =
        own ∙ ap (λ (r : ℕ). Some (r, event)) one in
        let taken : point_refusal s (Some (q, event)) ≡ None =
        ap (point_refusal s) (sym own_q) ∙ passes.takes in
        moves event own_q
        (ap (λ x. facts_in (with_event s.points x) q) own_q ∙ written q event own_q)
        taken
    by_test p event own false at =
        stays
        (ap (λ x. facts_in (with_event s.points x) q) own
        ∙ ap (λ o. by_row o) (row_of-other p q (after event (facts_of s p)) s.points at))
        (λ other again.
        let name : p ≡ q =
        ap (λ (x : ℕ × PointEvent). x.0) (told_once (p, event) (q, other) (sym own ∙ again)) in
        false≢true (sym at ∙ ap (λ (r : ℕ). q == r) name ∙ itself q))
      where
        by_row : Option Facts → Facts
        by_row o = unwrap_or o (empty_point Closed)

    by_own : (own : Option (ℕ × PointEvent)) → own_event s e ≡ own → FactsAfter s e q
    by_own None is =
        stays (ap (λ x. facts_in (with_event s.points x) q) is)
        (λ event own. let none : None ≡ Some (q, event) = sym is ∙ own in cc)
    by_own (Some x) is = by_test x.0 x.1 is (q == x.0) refl

-- when the site opens, each point is closed
closed_in : (entries : List PointEntry) (p : ℕ) → facts_in (points_of entries) p
    ≡ empty_point Closed
closed_in [] p = refl
closed_in (x ∷ xs) p = by_test (x.number == p) refl (closed_in xs p)
  where
    by_test : (b : Bool) → (x.number == p) ≡ b → facts_in (points_of xs) p ≡ empty_point Closed
        → facts_in (points_of (x ∷ xs)) p ≡ empty_point Closed
    by_test true is rest = rw is refl
    by_test false is rest = rw is rest

pub opens_closed : (c : Configured) (p : ℕ) → facts_of (opening c) p ≡ empty_point Closed
opens_closed c p = closed_in c.points p
