-- What is known of a row that is answered Drawn.
use Rattle.std.proofs.Common.{◌≡◌, ℕ, ◌+◌, ◌≤◌, Bool, true, List, [], Option, Some, None, Ok}
use Rattle.std.proofs.Common.{Result, is_some, unwrap_or, refl, ap, subst, sym, ◌∙◌, arith}
use Rattle.std.proofs.Common.{if◌then◌else◌}
use Rattle.std.proofs.lemmas.Bool.{false≢true}
use Rattle.std.specs.Prelude.{option_and_then}
use Rattle.site_base.specs.declared.actor.Actor.{Actor}
use Rattle.site_base.specs.declared.answer.Answer.{Answer}
use Rattle.site_base.specs.declared.answer.Answer.TheVariants as answers
use Rattle.site_base.specs.declared.event.Event.{Event}
use Rattle.site_base.specs.declared.event.Event.TheVariants.{Offline, HangUp}
use Rattle.site_base.specs.declared.amounts.TheConstants.{GREATEST_READING}
use Rattle.site_base.specs.declared.refusal.Refusal.{Refusal}
use Rattle.site_base.specs.declared.row.Row.{Row}
use Rattle.site_base.specs.declared.state.PointState.{PointState}
use Rattle.site_base.specs.declared.state.PointState.TheVariants as states
use Rattle.site_base.specs.declared.view.PointView.{PointView}
use Rattle.site_base.specs.Configured.{Configured}
use Rattle.site_base.specs.Events.{growth_in_reply, point_named}
use Rattle.site_base.specs.Table.{row_of}
use Rattle.fuelling_point.specs.declared.event.PointEvent.{PointEvent}
use Rattle.fuelling_point.specs.declared.event.PointEvent.TheVariants as points
use Rattle.fuelling_point.specs.declared.step.PointStep.{PointStep}
use Rattle.fuelling_point.specs.declared.step.PointStep.TheVariants.{Drawn}
use Rattle.fuelling_point.specs.KeptPoints.{Facts, growth_of, is_under_way, has_nozzle_out}
use Rattle.fuelling_point.specs.KeptPoints.{empty_point, point_view, volume_of}
use Rattle.fuelling_point.specs.PointChecks.{refusal_of}
use Rattle.fuelling_point.specs.Step.{step_of}
use Rattle.meters.specs.Nozzles.{product_of}
use Rattle.written_site.specs.DrawLaws.{product_read, run_at, tells_drawn}
use Rattle.written_site.specs.FuellingWords as configured
use Rattle.written_site.specs.FuellingWords.{growth_at, nozzle_after}
use Rattle.written_site.specs.Histories.{Moment}
use Rattle.written_site.specs.Holders.{names_point}
use Rattle.written_site.specs.SiteChecks.{Passed, own_event, flow_since}
use Rattle.written_site.specs.SiteRun.{site_of_rows, IsLegal}
use Rattle.written_site.specs.SiteState.{SiteState, opening, facts_of, holder_of, view_point}
use Rattle.written_site.specs.SiteStep.{site_answer, step_at, step_told, reply_to}
use Rattle.written_site.specs.Sound.{InRange, Sound}
use Rattle.written_site.specs.SoundSteps.{product_at}
use Rattle.written_site.proofs.DrawLaws.{never_drawn}
use Rattle.written_site.proofs.RowFacts.{own_after}
use Rattle.written_site.proofs.RowWords.{told_row, of_row, kept}
use Rattle.written_site.proofs.RunRows.{KnowsRuns, runs_more, runs_first}
use Rattle.written_site.proofs.SlotRows.{moment_at}
use Rattle.written_site.proofs.SoundMachine.{drawn_from}
use Rattle.written_site.proofs.SoundTables.{itself, told_once}
use Rattle.written_site.proofs.SoundUses.{finds_room}

-- the event is accepted; it is this to the point, which draws this; it is answered with what flowed
-- in it
pub record DrawsHere (s : SiteState) (r : Row) (p : ℕ) : Type 0 where
  pub passes : Passed s r.actor r.event
  pub event : PointEvent
  pub own : own_event s r.event ≡ Some (p, event)
  pub taken : refusal_of event (facts_of s p) ≡ None
  pub nozzle : ℕ
  pub volume : ℕ
  pub draws : step_of event (facts_of s p) ≡ Drawn nozzle volume
  pub told : r.reply ≡ Ok (answers.Drawn (growth_of event))

draws_by_step : (s : SiteState) (a : Actor) (e : Event) (p q : ℕ) (event : PointEvent)
    → Passed s a e → own_event s e ≡ Some (q, event)
    → ◌≡◌ {A = Option ℕ} (Some q) (Some p)
    → (step : PointStep) → step_of event (facts_of s q) ≡ step
    → site_answer s e ≡ step_told s q (growth_of event) step
    → tells_drawn (Ok (step_told s q (growth_of event) step)) ≡ true
    → DrawsHere s (told_row a e (Ok (site_answer s e))) p
draws_by_step s a e p q event passes own named (Drawn nozzle volume) is answer told =
    subst (DrawsHere s (told_row a e (Ok (site_answer s e)))) (told_once q p named) (record {
      passes = passes;
      event = event;
      own = own;
      taken = (own_after s a e q event passes own).1;
      nozzle = nozzle;
      volume = volume;
      draws = is;
      told = ap Ok answer;
    })
draws_by_step s a e p q event passes own named step is answer told = absurd cc

draws_accepted : (s : SiteState) (a : Actor) (e : Event) (p : ℕ) → Passed s a e
    → point_named e ≡ Some p → tells_drawn (Ok (site_answer s e)) ≡ true
    → DrawsHere s (told_row a e (Ok (site_answer s e))) p
draws_accepted s a (Offline q) p passes named told =
    draws_by_step s a (Offline q) p q points.Offline passes refl named
    (step_at s (Offline q)) refl refl told
draws_accepted s a (HangUp q n reading) p passes named told =
    draws_by_step s a (HangUp q n reading) p q
    (points.HangUp n (flow_since s q n reading)) passes refl named (step_at s (HangUp q n reading))
    refl
    refl told
draws_accepted s a e p passes named told = absurd (false≢true (sym (never_drawn s e refl) ∙ told))

pub draws_here : (s : SiteState) (r : Row) (p : ℕ) → r.reply ≡ reply_to s r.actor r.event
    → point_named r.event ≡ Some p → tells_drawn r.reply ≡ true → DrawsHere s r p
draws_here s r p replies named =
    of_row (λ row new. tells_drawn row.reply ≡ true → DrawsHere s row p) s r replies
    (λ refusal told. absurd (false≢true told))
    (λ passes. draws_accepted s r.actor r.event p passes named)

-- the runs that are known after a legal history
pub runs_at : (c : Configured) (rows : List Row) → IsLegal (opening c) rows
    → KnowsRuns c rows (site_of_rows (opening c) rows)
runs_at c rows legal = kept (KnowsRuns c) (runs_more c) [] (opening c) rows (runs_first c) legal

-- ---- what a read shows

-- a point with a fuelling under way is there
pub shown_under_way : (s : SiteState) (p : ℕ) → is_under_way (facts_of s p).state ≡ true
    → view_point s p ≡ Some (point_view (facts_of s p) (holder_of s p))
shown_under_way s p under_way = by_row (row_of p s.points) refl
  where
    by_row : (o : Option Facts) → row_of p s.points ≡ o
        → view_point s p ≡ Some (point_view (facts_of s p) (holder_of s p))
    by_row (Some f) is = rw is refl
    by_row None is =
        absurd (false≢true (ap (λ (o : Option Facts). is_under_way
        (unwrap_or o (empty_point states.Closed)).state) (sym is) ∙ under_way))

-- a nozzle is out where a fuelling is under way
out_under_way : (state : PointState) → is_under_way state ≡ true → has_nozzle_out state ≡ true
out_under_way states.Calling is = refl
out_under_way state is = is

-- its product
lifted : (s : SiteState) (p n q : ℕ) (out : Option ℕ) → is_some out ≡ true → n ≡ unwrap_or out 0
    → product_of p n s.nozzles ≡ Some q
    → option_and_then (λ k. product_of p k s.nozzles) out ≡ Some q
lifted s p n q None is_out is there = absurd (false≢true is_out)
lifted s p n q (Some k) is_out is there = ap (λ x. product_of p x s.nozzles) (sym is) ∙ there

-- the same, by the rows
read_product : (c : Configured) (earlier : List Row) (s : SiteState) (p n q : ℕ) (out : Option ℕ)
    → out ≡ nozzle_after p earlier → n ≡ unwrap_or out 0
    → product_of p n s.nozzles ≡ configured.product_at c p n → product_of p n s.nozzles ≡ Some q
    → product_read c p earlier ≡ q
read_product c earlier s p n q out after is same there =
    ap (λ x. unwrap_or (configured.product_at c p (unwrap_or x 0)) 0) (sym after)
    ∙ ap (λ k. unwrap_or (configured.product_at c p k) 0) (sym is)
    ∙ ap (λ (x : Option ℕ). unwrap_or x 0) (sym same ∙ there)

-- what a read of the point shows before a row that is answered Drawn: the millilitres of the test
-- but for those that flow in the row, and its nozzle
pub record IsShown (c : Configured) (earlier : List Row) (s : SiteState) (r : Row) (p growth : ℕ)
    : Type 0 where
  pub view : PointView
  pub there : view_point s p ≡ Some view
  pub volume : view.volume + growth ≡ run_at c p (moment_at earlier s r)
  pub within : run_at c p (moment_at earlier s r) ≤ GREATEST_READING
  pub product : option_and_then (λ n. product_of p n s.nozzles) view.out
      ≡ Some (product_read c p earlier)

pub shown : (c : Configured) (earlier : List Row) (s : SiteState) (r : Row) (p growth : ℕ)
    → KnowsRuns c earlier s → r.reply ≡ reply_to s r.actor r.event → Sound s → InRange r.event
    → point_named r.event ≡ Some p → r.reply ≡ Ok (answers.Drawn growth)
    → IsShown c earlier s r p growth
shown c earlier s r p growth known replies sound range named told =
    let here = draws_here s r p replies named (ap tells_drawn told) in
    let from = drawn_from here.event f here.nozzle here.volume
    (known.volumes.fuel.known.whole p) here.taken here.draws in
    let fits = (finds_room.draws s r.event p here.event here.nozzle here.volume sound (record {
      names = here.passes.names;
      takes = here.passes.takes;
      reads = here.passes.reads;
      range = range;
    }) here.own here.draws).delivery in
    let same : growth ≡ growth_of here.event =
    growth_once growth (growth_of here.event) (sym told ∙ here.told) in
    let so_far = known.runs p from.was in
    let flowed : growth_at p m ≡ growth =
    ap (λ o. if names_point p o then growth_in_reply r.reply else 0) named
    ∙ ap (λ (b : Bool). if b then growth_in_reply r.reply else 0) (itself p)
    ∙ ap growth_in_reply told in
    let out : is_some f.out ≡ true =
    (known.volumes.fuel.known.whole p).nozzle ∙ out_under_way f.state from.was in
    let shows : volume_of f ≡ f.volume =
    ap (λ (b : Bool). if b then f.volume else 0) from.was in
    record {
      view = point_view f (holder_of s p);
      there = shown_under_way s p from.was;
      volume = omega (arith, shows, so_far, flowed);
      within = omega (arith, fits.within, from.its_volume, same, so_far, flowed);
      product = lifted s p here.nozzle (product_at s r.event) f.out out from.its_nozzle fits.product
          ∙ ap Some (sym (read_product c earlier s p here.nozzle (product_at s r.event) f.out
          (known.volumes.fuel.points p).out from.its_nozzle
          (known.volumes.fuel.products p here.nozzle) fits.product));
    }
  where
    f : Facts
    f = facts_of s p

    m : Moment
    m = moment_at earlier s r

    growth_once : (g h : ℕ)
        → ◌≡◌ {A = Result Answer Refusal} (Ok (answers.Drawn g)) (Ok (answers.Drawn h)) → g ≡ h
    growth_once g h is = cc
