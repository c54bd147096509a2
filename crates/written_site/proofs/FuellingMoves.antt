-- What an accepted event does to its point, and what its row says of that.
use Rattle.std.proofs.Common.{◌≡◌, ℕ, ◌==◌, Bool, true, false, List, Option, Some, None, is_some}
use Rattle.std.proofs.Common.{unwrap_or, Ok, refl, ap, ◌∙◌, if◌then◌else◌, ◌⊎◌, arith}
use Rattle.std.proofs.lemmas.Bool.Decides.{nat_tests}
use Rattle.std.proofs.lemmas.Grind.{common_steps}
use Rattle.site_base.specs.declared.actor.Actor.{Actor}
use Rattle.site_base.specs.declared.event.Event.{Event}
use Rattle.site_base.specs.declared.event.Event.TheVariants.{Lift, Offline, HangUp}
use Rattle.site_base.specs.declared.row.Row.{Row}
use Rattle.site_base.specs.declared.state.PointState.TheVariants as states
use Rattle.site_base.specs.Events.{point_named, growth_in_reply}
use Rattle.fuelling_point.specs.declared.event.PointEvent.{PointEvent}
use Rattle.fuelling_point.specs.declared.event.PointEvent.TheVariants as points
use Rattle.fuelling_point.specs.KeptPoints.{Facts, growth_of, is_under_way}
use Rattle.fuelling_point.specs.PointChecks.{refusal_of}
use Rattle.fuelling_point.specs.Step.{after}
use Rattle.fuelling_point.specs.Whole.{IsWhole}
use Rattle.written_site.specs.SiteState.{SiteState, facts_of}
use Rattle.written_site.specs.SiteChecks.{Passed, own_event, flow_since, lift_at}
use Rattle.written_site.specs.SiteStep.{site_answer}
use Rattle.written_site.specs.Holders.{names_point}
use Rattle.written_site.specs.FuellingWords.{nozzle_said, calling_said, tells_calling, is_started}
use Rattle.written_site.specs.FuellingWords.{end_said, growth_at}
use Rattle.written_site.specs.SaleWords.{release_said}
use Rattle.written_site.specs.SoundSteps.{growth_by}
use Rattle.written_site.proofs.FuellingReplies.{growth_is}
use Rattle.written_site.proofs.RowWords.{told_row}
use Rattle.written_site.proofs.SlotRows.{moment_at}
use Rattle.written_site.proofs.SoundReports.{apart}
use Rattle.written_site.proofs.SoundTables.{itself}

-- ---- the nozzle that is out

pub nozzle_moves : (s : SiteState) (e : Event) (p : ℕ) (event : PointEvent) (f : Facts)
    → own_event s e ≡ Some (p, event) → IsWhole f → refusal_of event f ≡ None
    → (after event f).out ≡ unwrap_or (nozzle_said p e) f.out
nozzle_moves s e p event f own whole taken =
    let nozzle = whole.nozzle in grind (arith, nat_tests, common_steps)

-- ---- a point that calls

pub calls_moves : (s : SiteState) (e : Event) (p : ℕ) (event : PointEvent)
    → own_event s e ≡ Some (p, event) → refusal_of event (facts_of s p) ≡ None
    → (after event (facts_of s p)).state ≡ states.Calling
    → (calling_said p e (Ok (site_answer s e)) ≡ Some true)
    ⊎ (((facts_of s p).state ≡ states.Calling) × (calling_said p e (Ok (site_answer s e)) ≡ None))
calls_moves s e p event own taken calling = grind (arith, nat_tests, common_steps)

-- ---- a fuelling that starts

pub starts_moves : (s : SiteState) (a : Actor) (e : Event) (p : ℕ) (event : PointEvent)
    → Passed s a e → own_event s e ≡ Some (p, event) → refusal_of event (facts_of s p) ≡ None
    → is_under_way (after event (facts_of s p)).state ≡ true
    → is_under_way (facts_of s p).state ≡ false
    → (is_started p e (Ok (site_answer s e)) ≡ true)
    ⊎ ((is_some (release_said p a e) ≡ true) × ((facts_of s p).state ≡ states.Calling))
starts_moves s a e p event passes own taken under_way was =
    let asks = passes.asks in grind (arith, nat_tests, common_steps)

-- ---- a fuelling that goes on

pub not_ended : (s : SiteState) (e : Event) (p : ℕ) (event : PointEvent) (f : Facts)
    → own_event s e ≡ Some (p, event) → refusal_of event f ≡ None
    → is_under_way (after event f).state ≡ true
    → end_said p e ≡ false
not_ended s e p event f own taken under_way = grind (arith, nat_tests, common_steps)

pub own_named : (s : SiteState) (e : Event) (p : ℕ) (event : PointEvent)
    → own_event s e ≡ Some (p, event) → point_named e ≡ Some p
own_named s e p event own = grind (arith, common_steps)

-- ---- a point that the event isn't of

pub nozzle_away : (s : SiteState) (e : Event) (p : ℕ)
    → ((event : PointEvent) → own_event s e ≡ Some (p, event) → ⊥) → nozzle_said p e ≡ None
nozzle_away s (Lift q n reading) p away =
    ap (λ (b : Bool). if b then Some (Some n) else None) (apart q p (lift_at s q n) away)
nozzle_away s (HangUp q n reading) p away =
    ap (λ (b : Bool). if b then Some None else None)
    (apart q p (points.HangUp n (flow_since s q n reading)) away)
nozzle_away s (Offline q) p away =
    ap (λ (b : Bool). if b then Some None else None) (apart q p points.Offline away)
nozzle_away s e p away = refl

pub calling_away : (s : SiteState) (e : Event) (p : ℕ)
    → ((event : PointEvent) → own_event s e ≡ Some (p, event) → ⊥)
    → calling_said p e (Ok (site_answer s e)) ≡ None
calling_away s (Lift q n reading) p away =
    ap (λ (b : Bool). if b then Some (tells_calling (Ok (site_answer s (Lift q n reading)))) else
    None)
    (apart q p (lift_at s q n) away)
calling_away s (HangUp q n reading) p away =
    ap (λ (b : Bool). if b then Some false else None)
    (apart q p (points.HangUp n (flow_since s q n reading)) away)
calling_away s (Offline q) p away =
    ap (λ (b : Bool). if b then Some false else None) (apart q p points.Offline away)
calling_away s e p away = refl

pub end_away : (s : SiteState) (e : Event) (p : ℕ)
    → ((event : PointEvent) → own_event s e ≡ Some (p, event) → ⊥) → end_said p e ≡ false
end_away s (HangUp q n reading) p away = apart q p (points.HangUp n (flow_since s q n reading)) away
end_away s (Offline q) p away = apart q p points.Offline away
end_away s e p away = refl

-- ---- the growth that a row tells of a point

pub growth_moves : (s : SiteState) (a : Actor) (e : Event) (p : ℕ) (event : PointEvent)
    (earlier : List Row) → Passed s a e → own_event s e ≡ Some (p, event)
    → growth_at p (moment_at earlier s (told_row a e (Ok (site_answer s e)))) ≡ growth_of event
growth_moves s a e p event earlier passes own =
    ap (λ o. if names_point p o then growth_in_reply (Ok (site_answer s e)) else 0)
    (own_named s e p event own)
    ∙ ap (λ (b : Bool). if b then growth_in_reply (Ok (site_answer s e)) else 0) (itself p)
    ∙ growth_is s a e passes ∙ ap growth_by own

pub growth_away : (s : SiteState) (a : Actor) (e : Event) (p : ℕ) (earlier : List Row)
    → Passed s a e → ((event : PointEvent) → own_event s e ≡ Some (p, event) → ⊥)
    → growth_at p (moment_at earlier s (told_row a e (Ok (site_answer s e)))) ≡ 0
growth_away s a e p earlier passes away = by_own (own_event s e) refl
  where
    none : (b : Bool) → growth_in_reply (Ok (site_answer s e)) ≡ 0
        → (if b then growth_in_reply (Ok (site_answer s e)) else 0) ≡ 0
    none true is = is
    none false is = refl

    by_own : (own : Option (ℕ × PointEvent)) → own_event s e ≡ own
        → growth_at p (moment_at earlier s (told_row a e (Ok (site_answer s e)))) ≡ 0
    by_own None is =
        none (names_point p (point_named e)) (growth_is s a e passes ∙ ap growth_by is)
    by_own (Some x) is =
        let other : (x.0 == p) ≡ false =
        apart x.0 p x.1 (λ event again. away event (is ∙ again)) in
        ap (λ o. if names_point p o then growth_in_reply (Ok (site_answer s e)) else 0)
        (own_named s e x.0 x.1 is)
        ∙ ap (λ (b : Bool). if b then growth_in_reply (Ok (site_answer s e)) else 0) other
