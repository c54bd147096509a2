-- How an accepted event moves the volumes, whatever the configuration: what is metered, and what
-- the points keep of fuellings under way.
use Rattle.std.proofs.Common.{◌≡◌, ℕ, ◌+◌, ◌-◌, ◌*◌, ◌≤◌, ◌==◌, ◌||◌, Bool, true, false, List, []}
use Rattle.std.proofs.Common.{◌∷◌, Option, Some, None, refl, sym, ap, subst}
use Rattle.std.proofs.Common.{◌∙◌, arith}
use Rattle.std.proofs.lemmas.Bool.{false≢true}
use Rattle.std.proofs.lemmas.Bool.Decides.{nat_tests}
use Rattle.std.proofs.lemmas.Grind.{common_steps}
use Rattle.std.specs.List.{list_any}
use Rattle.std.specs.Prelude.{nat_eq}
use Rattle.site_base.specs.declared.actor.Actor.{Actor}
use Rattle.site_base.specs.declared.event.Event.{Event}
use Rattle.site_base.specs.declared.event.Event.TheVariants.{ReplaceMeter, Flow, HangUp}
use Rattle.site_base.specs.declared.state.PointState.TheVariants as states
use Rattle.site_base.specs.declared.config.PointEntry.{PointEntry}
use Rattle.site_base.specs.Table.{row_of, with_row}
use Rattle.fuelling_point.specs.declared.event.PointEvent.{PointEvent}
use Rattle.fuelling_point.specs.KeptPoints.{Facts, is_under_way, volume_of, growth_of}
use Rattle.fuelling_point.specs.Laws.{sold_in, drawn_in}
use Rattle.fuelling_point.specs.PointChecks.{refusal_of}
use Rattle.fuelling_point.specs.Step.{step_of, after}
use Rattle.fuelling_point.specs.Whole.{IsWhole}
use Rattle.fuelling_point.proofs.Whole.{conserved}
use Rattle.meters.specs.declared.report.Report.TheVariants.{Growing}
use Rattle.meters.specs.MeteredVolumes.{metered_by}
use Rattle.meters.specs.Nozzles.{Nozzle, nozzle_of, has_nozzle, reading_of, with_last}
use Rattle.meters.specs.Nozzles.{read_at}
use Rattle.meters.proofs.Lookups.{there, reading_is}
use Rattle.meters.proofs.Weights.{raised, meter_keeps, accepted_above}
use Rattle.written_site.specs.SiteState.{SiteState, points_of, facts_in, facts_of}
use Rattle.written_site.specs.SiteChecks.{Passed, own_event, flow_since, put_back_at}
use Rattle.written_site.specs.SiteStep.{nozzles_after, step_by, with_event}
use Rattle.written_site.specs.SoundSteps.{growth_at, growth_by, product_at, product_by}
use Rattle.written_site.specs.Volumes.{nozzle_out, product_out, running_at, running_by}
use Rattle.written_site.proofs.SoundMachine.{same_nozzle}
use Rattle.written_site.proofs.SoundReports.{flow_nozzle, hung_up_nozzle, flow_is_out}
use Rattle.written_site.proofs.SoundReports.{hung_up_is_out}
use Rattle.written_site.proofs.SoundRunning.{flowed_by, flowed_with}
use Rattle.written_site.proofs.SoundSold.{own_there}
use Rattle.written_site.proofs.SoundTables.{same, turned, itself, row_there}
use Rattle.written_site.proofs.SoundVolumes.{metered_out, weighs_none, weighed, same_weight}
use Rattle.written_site.proofs.SoundVolumes.{joined}

-- ---- metered

-- no meter reads less than it began with
abbrev pub AreRisen : List Nozzle → Type 0
AreRisen xs = (p n : ℕ) (x : Nozzle) → nozzle_of p n xs ≡ Some x → x.began ≤ x.last

-- a reading above the last one, of the nozzle that is out
raises : (w : ℕ → ℕ) (s : SiteState) (p n reading : ℕ) (f : Facts) → AreRisen s.nozzles
    → has_nozzle p n s.nozzles ≡ true → nozzle_out f ≡ n → reading_of p n s.nozzles ≤ reading
    → metered_by w (with_last p n reading s.nozzles)
    ≡ metered_by w s.nozzles + w (product_out s.nozzles p f) * flow_since s p n reading
raises w s p n reading f risen has out above =
    let x = there (nozzle_of p n s.nozzles) has in
    let last : reading_of p n s.nozzles ≡ x.nozzle.last = reading_is p n s.nozzles x.nozzle x.is in
    let up = risen p n x.nozzle x.is in
    metered_out w s p n reading f x.nozzle x.is out
    (raised w p n (reading - x.nozzle.last) (read_at reading) x.nozzle s.nozzles x.is refl
    (omega (arith, up, last, above)))

pub meters_move : (w : ℕ → ℕ) (s : SiteState) (a : Actor) (e : Event) → AreRisen s.nozzles
    → ((p : ℕ) → IsWhole (facts_of s p)) → Passed s a e
    → metered_by w (nozzles_after s e)
    ≡ metered_by w s.nozzles + w (product_at s e) * growth_at s e
meters_move w s a (Flow p n reading) risen whole passes =
    raises w s p n reading (facts_of s p) risen (flow_nozzle s p n reading passes.names)
    (flow_is_out n (flow_since s p n reading) (facts_of s p) (whole p) passes.takes)
    (accepted_above Growing (reading_of p n s.nozzles) reading passes.reads)
meters_move w s a (HangUp p n reading) risen whole passes =
    raises w s p n reading (facts_of s p) risen (hung_up_nozzle s p n reading passes.names)
    (hung_up_is_out n (flow_since s p n reading) (facts_of s p) (whole p) passes.takes)
    (accepted_above (put_back_at (facts_of s p).state) (reading_of p n s.nozzles) reading
    passes.reads)
meters_move w s a (ReplaceMeter p n reading) risen whole passes =
    meter_keeps w p n reading s.nozzles
    ∙ weighs_none (w (product_at s (ReplaceMeter p n reading))) (metered_by w s.nozzles)
meters_move w s a e risen whole passes = weighs_none (w (product_at s e)) (metered_by w s.nozzles)

-- ---- what the points keep

still_where_calling : (s : SiteState) (a : Actor) (e : Event) (p : ℕ) (event : PointEvent)
    → Passed s a e → own_event s e ≡ Some (p, event) → (facts_of s p).state ≡ states.Calling
    → growth_of event ≡ 0
still_where_calling s a e p event passes own calling =
    let takes = passes.takes in
    let reads = passes.reads in
    grind (arith, common_steps, nat_tests)

-- the points' volumes, once the event's own point has moved
pub kept_move : (w : ℕ → ℕ) (s : SiteState) (a : Actor) (e : Event)
    → ((p : ℕ) → IsWhole (facts_of s p)) → Passed s a e
    → (own : Option (ℕ × PointEvent)) → own_event s e ≡ own
    → flowed_by w s.nozzles (with_event s.points own)
    + w (product_by s own) * (sold_in (step_by s own) + drawn_in (step_by s own))
    ≡ flowed_by w s.nozzles s.points + w (product_by s own) * growth_by own
kept_move w s a e whole passes None is = refl
kept_move w s a e whole passes (Some x) is =
    let f : Facts = facts_of s x.0 in
    let there : row_of x.0 s.points ≡ Some f =
    row_there s.points x.0 (own_there s e x.0 x.1 passes.names is) in
    let taken : refusal_of x.1 f ≡ None = rw is at passes.takes in
    let weight : ℕ = w (product_out s.nozzles x.0 f) in
    joined (flowed_by w s.nozzles (with_row x.0 (after x.1 f) s.points)) (weight * volume_of f)
    (flowed_by w s.nozzles s.points)
    (w (product_out s.nozzles x.0 (after x.1 f)) * volume_of (after x.1 f))
    (weight * volume_of (after x.1 f))
    (weight * (sold_in (step_of x.1 f) + drawn_in (step_of x.1 f)))
    (weight * growth_of x.1)
    (flowed_with w s.nozzles x.0 f (after x.1 f) s.points there)
    (same_weight w s.nozzles x.0 f (after x.1 f) (same_nozzle x.1 f taken))
    (weighed weight (volume_of f) (growth_of x.1) (volume_of (after x.1 f))
    (sold_in (step_of x.1 f))
    (drawn_in (step_of x.1 f))
    (conserved x.1 f (whole x.0) taken (still_where_calling s a e x.0 x.1 passes is)))

-- ---- numbers that stand twice

-- a point whose number stands before it, so that no event can name it, has no fuelling under way
abbrev pub Quiet : List ℕ → List (ℕ × Facts) → Type 0
Quiet seen [] = Unit {0}
Quiet seen (e ∷ es) =
    (list_any (λ q. nat_eq e.0 q) seen ≡ true → is_under_way e.1.state ≡ false)
    × Quiet (e.0 ∷ seen) es

pub quiet_first : (seen : List ℕ) (cs : List PointEntry) → Quiet seen (points_of cs)
quiet_first seen [] = tt
quiet_first seen (c ∷ cs) = (λ is. refl, quiet_first (c.number ∷ seen) cs)

quiet_with : (seen : List ℕ) (p : ℕ) (new : Facts) (es : List (ℕ × Facts))
    → list_any (λ q. nat_eq p q) seen ≡ false → Quiet seen es → Quiet seen (with_row p new es)
quiet_with seen p new [] unseen quiet = tt
quiet_with seen p new (e ∷ es) unseen quiet =
    by_test (e.0 == p) refl (quiet_with (e.0 ∷ seen) p new es)
  where
    by_test : (b : Bool) → (e.0 == p) ≡ b
        → (list_any (λ q. nat_eq p q) (e.0 ∷ seen) ≡ false → Quiet (e.0 ∷ seen) es
        → Quiet (e.0 ∷ seen) (with_row p new es))
        → Quiet seen (with_row p new (e ∷ es))
    by_test true at behind =
        let moved : with_row p new (e ∷ es) ≡ (e.0, new) ∷ es = rw at refl in
        subst (Quiet seen) (sym moved) (
          λ is. absurd (false≢true (sym unseen
              ∙ ap (λ (r : ℕ). list_any (λ q. nat_eq r q) seen) (sym (same e.0 p at)) ∙ is)),
          quiet.1,
        )
    by_test false at behind =
        let moved : with_row p new (e ∷ es) ≡ e ∷ with_row p new es = rw at refl in
        let other : nat_eq p e.0 ≡ false = turned p e.0 ∙ at in
        subst (Quiet seen) (sym moved) (
          quiet.0,
          behind (ap (λ (b : Bool). b || list_any (λ q. nat_eq p q) seen) other ∙ unseen)
              quiet.1,
        )

pub quiet_after : (points : List (ℕ × Facts)) (own : Option (ℕ × PointEvent)) → Quiet [] points
    → Quiet [] (with_event points own)
quiet_after points None quiet = quiet
quiet_after points (Some x) quiet = quiet_with [] x.0
    (after x.1 (facts_in points x.0)) points refl quiet

none_runs : (nozzles : List Nozzle) (p : ℕ) (f : Facts) → is_under_way f.state ≡ false
    → running_at nozzles p f ≡ volume_of f
none_runs nozzles p f rests = rw rests refl

-- where the volume of each point that an event can name is what its meter has grown, so is the sum
pub runs_as_kept : (w : ℕ → ℕ) (nozzles : List Nozzle) (seen : List ℕ) (es : List (ℕ × Facts))
    → Quiet seen es
    → ((p : ℕ) (f : Facts) → list_any (λ q. nat_eq p q) seen ≡ false → row_of p es ≡ Some f
    → running_at nozzles p f ≡ volume_of f)
    → running_by w nozzles es ≡ flowed_by w nozzles es
runs_as_kept w nozzles seen [] quiet each = refl
runs_as_kept w nozzles seen (e ∷ es) quiet each =
    ap (λ (v : ℕ). w (product_out nozzles e.0 e.1) * v + running_by w nozzles es)
    (by_seen (list_any (λ q. nat_eq e.0 q) seen) refl)
    ∙ ap (λ (v : ℕ). w (product_out nozzles e.0 e.1) * volume_of e.1 + v)
    (runs_as_kept w nozzles (e.0 ∷ seen) es quiet.1 later)
  where
    by_seen : (b : Bool) → list_any (λ q. nat_eq e.0 q) seen ≡ b
        → running_at nozzles e.0 e.1 ≡ volume_of e.1
    by_seen true is = none_runs nozzles e.0 e.1 (quiet.0 is)
    by_seen false is = each e.0 e.1 is (rw (itself e.0) refl)

    later : (p : ℕ) (f : Facts) → list_any (λ q. nat_eq p q) (e.0 ∷ seen) ≡ false
        → row_of p es ≡ Some f → running_at nozzles p f ≡ volume_of f
    later p f unseen is = by_test (nat_eq p e.0) refl unseen
      where
        by_test : (b : Bool) → nat_eq p e.0 ≡ b → (b || list_any (λ q. nat_eq p q) seen) ≡ false
            → running_at nozzles p f ≡ volume_of f
        by_test true at unseen = cc
        by_test false at unseen =
            let other : (e.0 == p) ≡ false = turned e.0 p ∙ at in
            let found : row_of p (e ∷ es) ≡ row_of p es = rw other refl in
            each p f unseen (found ∙ is)
