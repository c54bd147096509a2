-- The volume of a fuelling under way is what the rows tell since its start.
use Rattle.std.proofs.Common.{◌≡◌, ℕ, ◌+◌, ◌==◌, ◌&&◌, ◌||◌, Bool, true, false, List, [], ◌∷◌, ◌++◌}
use Rattle.std.proofs.Common.{Some, None, is_some, unwrap_or, Ok, Err, refl, sym, ap, ◌∙◌}
use Rattle.std.proofs.Common.{if◌then◌else◌, arith, Option}
use Rattle.std.proofs.lemmas.Bool.{false≢true}
use Rattle.std.proofs.lemmas.Bool.Decides.{nat_tests}
use Rattle.std.proofs.lemmas.Grind.{common_steps}
use Rattle.site_base.specs.declared.actor.Actor.{Actor}
use Rattle.site_base.specs.declared.actor.Actor.TheVariants.{Till}
use Rattle.site_base.specs.declared.event.Event.{Event}
use Rattle.site_base.specs.declared.event.Event.TheVariants.{Release, Prepay, TestRelease, Lift}
use Rattle.site_base.specs.declared.refusal.Refusal.{Refusal}
use Rattle.site_base.specs.declared.row.Row.{Row}
use Rattle.site_base.specs.declared.state.Preset.TheVariants.{Money}
use Rattle.site_base.specs.Configured.{Configured}
use Rattle.site_base.specs.Events.{point_named}
use Rattle.fuelling_point.specs.declared.event.PointEvent.{PointEvent}
use Rattle.fuelling_point.specs.KeptPoints.{Facts, is_under_way}
use Rattle.fuelling_point.specs.PointChecks.{refusal_of}
use Rattle.fuelling_point.specs.Step.{after}
use Rattle.written_site.specs.DrawLaws.{run_of, run_at, product_read}
use Rattle.written_site.specs.FuellingWords.{product_at, is_started, tells_start, calls_after}
use Rattle.written_site.specs.FuellingWords.{starts, growth_at}
use Rattle.written_site.specs.Histories.{Moment, moments_of}
use Rattle.written_site.specs.Holders.{names_point}
use Rattle.written_site.specs.SaleWords.{by_till, for_test, release_of, release_said}
use Rattle.written_site.specs.SiteChecks.{Passed, own_event, lift_at, release_at, test_release_at}
use Rattle.written_site.specs.SiteState.{SiteState, opening, facts_in, facts_of}
use Rattle.written_site.specs.SiteStep.{nozzles_after, site_answer, points_after, reply_to}
use Rattle.written_site.specs.SiteStep.{site_after}
use Rattle.written_site.specs.Volumes.{nozzle_out, product_out, running_at}
use Rattle.written_site.proofs.FuellingMoves.{growth_moves, growth_away}
use Rattle.written_site.proofs.FuellingRows.{starts_more}
use Rattle.written_site.proofs.MomentRows.{moments_push}
use Rattle.written_site.proofs.PointAfter.{FactsAfter, stays, moves, facts_after, opens_closed}
use Rattle.written_site.proofs.RowWords.{told_row, of_row}
use Rattle.written_site.proofs.SlotRows.{moment_at}
use Rattle.written_site.proofs.SoundMachine.{goes_on, starts as begins}
use Rattle.written_site.proofs.SoundMeters.{product_after}
use Rattle.written_site.proofs.SoundReports.{apart, IsRead}
use Rattle.written_site.proofs.SoundSold.{run_read}
use Rattle.written_site.proofs.VolumeLaws.{KnowsVolumes, volumes_more, volumes_first}

-- one moment more
run_more : (p v : ℕ) (ms : List Moment) (m : Moment)
    → run_of p v (ms ++ m ∷ []) ≡ (if starts p m then 0 else run_of p v ms + growth_at p m)
run_more p v [] m = refl
run_more p v (x ∷ ms) m = run_more p (if starts p x then 0 else v + growth_at p x) ms m

-- where a fuelling is under way already, the event starts none
pub not_started : (s : SiteState) (a : Actor) (e : Event) (p : ℕ) (event : PointEvent)
    → own_event s e ≡ Some (p, event) → refusal_of event (facts_of s p) ≡ None
    → is_under_way (facts_of s p).state ≡ true
    → (is_started p e (Ok (site_answer s e)) ≡ false) × (release_said p a e ≡ None)
not_started s a e p event own taken under_way =
    (grind (arith, nat_tests, common_steps), grind (arith, nat_tests, common_steps))

pub started_away : (s : SiteState) (e : Event) (p : ℕ)
    → ((event : PointEvent) → own_event s e ≡ Some (p, event) → ⊥)
    → is_started p e (Ok (site_answer s e)) ≡ false
started_away s (Lift q n reading) p away =
    ap (λ (b : Bool). b && tells_start (Ok (site_answer s (Lift q n reading))))
    (apart q p (lift_at s q n) away)
started_away s e p away = refl

pub release_away : (s : SiteState) (a : Actor) (e : Event) (p : ℕ)
    → ((event : PointEvent) → own_event s e ≡ Some (p, event) → ⊥) → release_said p a e ≡ None
release_away s (Till t) (Release q preset) p away =
    ap (λ (b : Bool). if b then Some (by_till t None) else None)
    (apart q p (release_at s q preset None) away)
release_away s (Till t) (Prepay q cents) p away =
    ap (λ (b : Bool). if b then Some (by_till t (Some cents)) else None)
    (apart q p (release_at s q (Money cents) (Some cents)) away)
release_away s (Till t) (TestRelease q) p away =
    ap (λ (b : Bool). if b then Some (for_test t) else None)
    (apart q p (test_release_at s q) away)
release_away s a e p away = refl

-- what is known: the volumes, and the run of each fuelling under way
pub record KnowsRuns (c : Configured) (earlier : List Row) (s : SiteState) : Type 0 where
  pub volumes : KnowsVolumes c earlier s
  pub runs : (p : ℕ) → is_under_way (facts_of s p).state ≡ true
      → (facts_of s p).volume ≡ run_of p 0 (moments_of c earlier)

module _ (c : Configured) (earlier : List Row) (s : SiteState) (r : Row)
    (known : KnowsRuns c earlier s)
  where
    abbrev row : Row
    row = told_row r.actor r.event (Ok (site_answer s r.event))

    later : (x : Row) → moments_of c (earlier ++ x ∷ [])
        ≡ moments_of c earlier ++ moment_at earlier s x ∷ []
    later x = moments_push [] (opening c) earlier x
        ∙ ap (λ y. moments_of c earlier ++ moment_at earlier y x ∷ []) (sym known.volumes.fuel.led)

    -- a moment that starts nothing adds its growth
    goes_on_so : (p : ℕ) (x : Row) (v : ℕ) → starts p (moment_at earlier s x) ≡ false
        → v ≡ run_of p 0 (moments_of c earlier) + growth_at p (moment_at earlier s x)
        → v ≡ run_of p 0 (moments_of c (earlier ++ x ∷ []))
    goes_on_so p x v none grown =
        grown
        ∙ ap (λ (b : Bool). if b then 0
        else run_of p 0 (moments_of c earlier) + growth_at p (moment_at earlier s x)) (sym none)
        ∙ sym (run_more p 0 (moments_of c earlier) (moment_at earlier s x))
        ∙ ap (run_of p 0) (sym (later x))

    starts_none : (p : ℕ) → is_started p r.event (Ok (site_answer s r.event)) ≡ false
        → release_said p r.actor r.event ≡ None → starts p (moment_at earlier s row) ≡ false
    starts_none p lift release =
        ap (λ (b : Bool). b || (is_some (release_of p row) && calls_after p earlier)) lift
        ∙ ap (λ o. is_some o && calls_after p earlier) release

    pub refused_none : (p : ℕ) (refusal : Refusal)
        → starts p (moment_at earlier s (told_row r.actor r.event (Err refusal))) ≡ false
    refused_none p refusal = by_event r.event
      where
        by_test : (b : Bool) → (b && false) ≡ false
        by_test true = refl
        by_test false = refl

        by_event : (e : Event)
            → (is_started p e (Err refusal) || (false && calls_after p earlier)) ≡ false
        by_event (Lift q n reading) =
            ap (λ (b : Bool). b || false) (by_test (q == p))
        by_event e = refl

    run_accepted : (p : ℕ) → Passed s r.actor r.event → FactsAfter s r.event p
        → is_under_way (facts_in (points_after s r.event) p).state ≡ true
        → (facts_in (points_after s r.event) p).volume
        ≡ run_of p 0 (moments_of c (earlier ++ row ∷ []))
    run_accepted p passes (stays is away) under_way =
        let was = known.runs p (ap (λ (f : Facts). is_under_way f.state) (sym is) ∙ under_way) in
        goes_on_so p row (facts_in (points_after s r.event) p).volume
        (starts_none p (started_away s r.event p away) (release_away s r.actor r.event p away))
        (ap (λ (f : Facts). f.volume) is
        ∙ (let none = growth_away s r.actor r.event p earlier passes away in omega
        (arith, was, none)))
    run_accepted p passes (moves event own is taken) under_way =
        by_test (is_under_way (facts_of s p).state) refl
      where
        f : Facts
        f = facts_of s p

        now : is_under_way (after event f).state ≡ true
        now = ap (λ (g : Facts). is_under_way g.state) (sym is) ∙ under_way

        by_test : (b : Bool) → is_under_way f.state ≡ b
            → (facts_in (points_after s r.event) p).volume
            ≡ run_of p 0 (moments_of c (earlier ++ row ∷ []))
        by_test true was =
            let none = not_started s r.actor r.event p event own taken was in
            let volume = (goes_on event f now was).volume in
            let grown = growth_moves s r.actor r.event p event earlier passes own in
            let so_far = known.runs p was in
            goes_on_so p row (facts_in (points_after s r.event) p).volume
            (starts_none p none.0 none.1)
            (ap (λ (g : Facts). g.volume) is ∙ omega (arith, volume, grown, so_far))
        by_test false was =
            let started = starts_more c earlier s r known.volumes.fuel p event passes own taken now
            was in
            ap (λ (g : Facts). g.volume) is ∙ (begins event f now was).volume
            ∙ ap (λ (b : Bool). if b then 0
            else run_of p 0 (moments_of c earlier) + growth_at p (moment_at earlier s row))
            (sym started)
            ∙ sym (run_more p 0 (moments_of c earlier) (moment_at earlier s row))
            ∙ ap (run_of p 0) (sym (later row))

    run_refused : (p : ℕ) (refusal : Refusal) → is_under_way (facts_of s p).state ≡ true
        → (facts_of s p).volume
        ≡ run_of p 0 (moments_of c (earlier ++ told_row r.actor r.event (Err refusal) ∷ []))
    run_refused p refusal under_way =
        let was = known.runs p under_way in
        let none = nothing (names_point p (point_named r.event)) in
        goes_on_so p (told_row r.actor r.event (Err refusal)) (facts_of s p).volume
        (refused_none p refusal) (omega (arith, was, none))
      where
        nothing : (b : Bool) → ◌≡◌ {A = ℕ} (if b then 0 else 0) 0
        nothing true = refl
        nothing false = refl

pub runs_more : (c : Configured) (earlier : List Row) (s : SiteState) (r : Row)
    → KnowsRuns c earlier s → r.reply ≡ reply_to s r.actor r.event
    → KnowsRuns c (earlier ++ r ∷ []) (site_after s r.actor r.event)
runs_more c earlier s r known replies = record {
  volumes = volumes_more c earlier s r known.volumes replies;
  runs = of_row (λ row new. (p : ℕ) → is_under_way (facts_of new p).state ≡ true
      → (facts_of new p).volume ≡ run_of p 0 (moments_of c (earlier ++ row ∷ []))) s r replies
      (λ refusal p. run_refused c earlier s r known p refusal)
      (λ passes p. run_accepted c earlier s r known p passes
      (facts_after s r.actor r.event passes p));
}

pub runs_first : (c : Configured) → KnowsRuns c [] (opening c)
runs_first c = record {
  volumes = volumes_first c;
  runs = λ p under_way.
      absurd (false≢true (ap (λ (f : Facts). is_under_way f.state) (sym (opens_closed c p))
      ∙ under_way));
}

-- ---- the fuelling that an event ends

-- the product that it is of is the one that the rows tell
pub product_so : (c : Configured) (earlier : List Row) (s : SiteState) (e : Event)
    → KnowsRuns c earlier s → (p : ℕ)
    → product_out (nozzles_after s e) p (facts_of s p) ≡ product_read c p earlier
product_so c earlier s e known p =
    ap (λ (o : Option ℕ). unwrap_or o 0) (product_after s e p (nozzle_out (facts_of s p)))
    ∙ ap (λ (o : Option ℕ). unwrap_or o 0)
    (known.volumes.fuel.products p (nozzle_out (facts_of s p)))
    ∙ ap (λ (o : Option ℕ). unwrap_or (product_at c p (unwrap_or o 0)) 0)
    (known.volumes.fuel.points p).out

-- so is its volume, with what flows in the event
pub run_so : (c : Configured) (earlier : List Row) (s : SiteState) (a : Actor) (e : Event)
    → KnowsRuns c earlier s → Passed s a e → (p : ℕ) (event : PointEvent)
    → own_event s e ≡ Some (p, event) → is_under_way (facts_of s p).state ≡ true
    → running_at (nozzles_after s e) p (facts_of s p)
    ≡ run_at c p (moment_at earlier s (told_row a e (Ok (site_answer s e))))
run_so c earlier s a e known passes p event own under_way =
    let fuel = known.volumes.fuel in
    let read : IsRead s e =
    record { names = passes.names; takes = passes.takes; reads = passes.reads } in
    let run = run_read s e p event read own (fuel.known.whole p)
    ((fuel.points p).fuels under_way).meter under_way in
    let so_far = known.runs p under_way in
    let grown = growth_moves s a e p event earlier passes own in
    omega (arith, run, so_far, grown)
