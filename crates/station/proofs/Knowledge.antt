-- What stands at a point tells its dispenser what it would know, had it listened all the time.
use Rattle.std.proofs.Common.{◌≡◌, ℕ, ◌==◌, Bool, true, false, List, [], ◌∷◌, ◌++◌, Option}
use Rattle.std.proofs.Common.{Some, None, is_some, unwrap_or, Ok, Err, refl, sym, ap, subst, ◌∙◌}
use Rattle.std.proofs.Common.{arith}
use Rattle.std.proofs.lemmas.Bool.Decides.{nat_tests}
use Rattle.std.proofs.lemmas.Grind.{common_steps}
use Rattle.std.specs.Prelude.{if◌then◌else◌, option_and_then}
use Rattle.site_base.specs.declared.event.Event.{Event}
use Rattle.site_base.specs.declared.event.Event.TheVariants as events
use Rattle.site_base.specs.declared.row.Row.{Row}
use Rattle.site_base.specs.declared.state.PointState.{PointState}
use Rattle.site_base.specs.declared.state.PointState.TheVariants as states
use Rattle.site_base.specs.declared.state.Preset.{Preset}
use Rattle.site_base.specs.declared.view.PointView.{PointView}
use Rattle.site_base.specs.Configured.{Configured}
use Rattle.site_base.specs.Table.{row_of}
use Rattle.fuelling_point.specs.declared.event.PointEvent.{PointEvent}
use Rattle.fuelling_point.specs.KeptPoints.{Facts, empty_point, point_view}
use Rattle.fuelling_point.specs.PointChecks.{refusal_of}
use Rattle.fuelling_point.specs.Step.{after}
use Rattle.fuelling_point.specs.Whole.{IsWhole}
use Rattle.fuelling_point.proofs.Whole.{whole_accepted, stays_whole}
use Rattle.written_site.specs.SiteChecks.{Passed, own_event}
use Rattle.written_site.specs.SiteRun.{site_of_rows, IsLegal}
use Rattle.written_site.specs.SiteState.{SiteState, opening, facts_of, holder_of, view_point}
use Rattle.written_site.specs.SiteStep.{accepted_site, reply_to, site_after, site_answer}
use Rattle.written_site.proofs.PointAfter.{FactsAfter, stays, moves, facts_after, opens_closed}
use Rattle.written_site.proofs.RowWords.{told_row, of_row, kept}
use Rattle.written_site.proofs.SoundTables.{same, told_once}
use Rattle.station.specs.Knowledge.{Knowledge, only_nozzle, learn, learn_all, learn_row, learn_rows}
use Rattle.station.specs.Knowledge.{reaches_point}
use Rattle.station.specs.Standing.{sale_release, standing_events}

-- ---- what is known of a point that keeps this

abbrev release_in : ℕ → Facts → Event
release_in p f = if f.test then events.TestRelease p else sale_release p f.preset f.prepaid

abbrev stop_in : ℕ → Facts → Event
stop_in p f = if f.ending then events.Terminate p else events.Suspend p

-- .. of an open one
abbrev known_open : Bool → Option Event → Option Event → Knowledge
known_open lifted release stop =
    record { is_lifted = lifted; is_open = true; release = release; stop = stop }

abbrev known_in : PointState → ℕ → Facts → Knowledge
known_in states.Inoperative p f = only_nozzle false
known_in states.Closed p f = only_nozzle false
known_in states.Idle p f = known_open false None None
known_in states.Calling p f = known_open true None None
known_in states.Authorised p f = known_open false (Some (release_in p f)) None
known_in states.Started p f = known_open true (Some (release_in p f)) None
known_in states.SuspendedStarted p f =
    known_open true (Some (release_in p f)) (Some (stop_in p f))
known_in states.Fuelling p f = known_open true (Some (release_in p f)) None
known_in states.SuspendedFuelling p f =
    known_open true (Some (release_in p f)) (Some (stop_in p f))

abbrev known_at : ℕ → Facts → Knowledge
known_at p f = known_in f.state p f

-- ---- what stands tells it

release_learnt : (p : ℕ) (f : Facts) (k : Knowledge)
    → learn (release_in p f) k ≡ record k { release = Some (release_in p f) }
release_learnt p f k = by_test f.test f.preset f.prepaid
  where
    by_test : (test : Bool) (preset : Preset) (prepaid : Option ℕ)
        → let release = if test then events.TestRelease p else sale_release p preset prepaid in
        learn release k ≡ record k { release = Some release }
    by_test true preset prepaid = refl
    by_test false preset None = refl
    by_test false preset (Some cents) = refl

stop_learnt : (p : ℕ) (f : Facts) (release : Option Event)
    → learn (stop_in p f) (known_open true release None)
    ≡ known_open true release (Some (stop_in p f))
stop_learnt p f release = by_test f.ending
  where
    by_test : (ending : Bool)
        → let stop = if ending then events.Terminate p else events.Suspend p in
        learn stop (known_open true release None) ≡ known_open true release (Some stop)
    by_test true = refl
    by_test false = refl

standing_learnt : (p : ℕ) (f : Facts) (holder : Option ℕ) → IsWhole f
    → learn_all (standing_events p (point_view f holder)) (only_nozzle (is_some f.out))
    ≡ known_at p f
standing_learnt p f holder w = by_state f.state refl
  where
    by_state : (state : PointState) → f.state ≡ state
        → learn_all (standing_events p (point_view f holder)) (only_nozzle (is_some f.out))
        ≡ known_at p f
    by_state state is =
        let nozzle = w.nozzle in
        let released = release_learnt p f in
        let stopped = stop_learnt p f in
        grind (arith, common_steps)

-- ---- one row

-- an event of the point that it accepts
step_learnt : (s : SiteState) (e : Event) (p : ℕ) (event : PointEvent) (f : Facts) → IsWhole f
    → own_event s e ≡ Some (p, event) → refusal_of event f ≡ None
    → (if reaches_point p e then learn e (known_at p f) else known_at p f)
    ≡ known_at p (after event f)
step_learnt s e p event f w own taken =
    let nozzle = w.nozzle in
    let ending = w.ending in
    let test = w.test in
    grind (arith, nat_tests, common_steps)

-- an event that isn't the point's
others_unheard : (s : SiteState) (e : Event) (p : ℕ) (k : Knowledge)
    (own : Option (ℕ × PointEvent)) → own_event s e ≡ own
    → ((event : PointEvent) → own ≡ Some (p, event) → ⊥)
    → (if reaches_point p e then learn e k else k) ≡ k
others_unheard s e p k None is away = grind (arith, nat_tests, common_steps)
others_unheard s e p k (Some (q, event)) is away = by_test (q == p) refl
  where
    by_test : (b : Bool) → (q == p) ≡ b → (if reaches_point p e then learn e k else k) ≡ k
    by_test true at = absurd (away event (ap (λ (n : ℕ). Some (n, event)) (same q p at)))
    by_test false at = grind (arith, nat_tests, common_steps)

-- what is known of point p: it is whole, and what its dispenser knows by the rows
record KnowsPoint (p : ℕ) (earlier : List Row) (s : SiteState) : Type 0 where
  whole : IsWhole (facts_of s p)
  learnt : learn_rows p earlier (only_nozzle false) ≡ known_at p (facts_of s p)

rows_push : (p : ℕ) (rows : List Row) (r : Row) (k : Knowledge)
    → learn_rows p (rows ++ r ∷ []) k ≡ learn_row p r (learn_rows p rows k)
rows_push p [] r k = refl
rows_push p (x ∷ rows) r k = rows_push p rows r (learn_row p x k)

point_more : (p : ℕ) (earlier : List Row) (s : SiteState) (r : Row) → KnowsPoint p earlier s
    → r.reply ≡ reply_to s r.actor r.event
    → KnowsPoint p (earlier ++ r ∷ []) (site_after s r.actor r.event)
point_more p earlier s r known replies =
    of_row (λ row new. KnowsPoint p (earlier ++ row ∷ []) new) s r replies
    (λ refusal. record {
      whole = known.whole;
      learnt = rows_push p earlier (told_row r.actor r.event (Err refusal)) (only_nozzle false)
          ∙ known.learnt;
    })
    (λ passes. by_after passes (facts_after s r.actor r.event passes p))
  where
    row : Row
    row = told_row r.actor r.event (Ok (site_answer s r.event))

    pushed : learn_rows p (earlier ++ row ∷ []) (only_nozzle false)
        ≡ (if reaches_point p r.event then learn r.event (known_at p (facts_of s p))
        else known_at p (facts_of s p))
    pushed = rows_push p earlier row (only_nozzle false)
        ∙ ap (λ (k : Knowledge). if reaches_point p r.event then learn r.event k else k)
        known.learnt

    by_after : Passed s r.actor r.event → FactsAfter s r.event p
        → KnowsPoint p (earlier ++ row ∷ []) (accepted_site s r.actor r.event)
    by_after passes (stays same away) = record {
      whole = subst IsWhole (sym same) known.whole;
      learnt = pushed
          ∙ others_unheard s r.event p (known_at p (facts_of s p)) (own_event s r.event) refl away
          ∙ ap (known_at p) (sym same);
    }
    by_after passes (moves event own done taken) = record {
      whole = subst IsWhole (sym done) (whole_accepted event (facts_of s p) known.whole taken);
      learnt = pushed
          ∙ step_learnt s r.event p event (facts_of s p) known.whole own taken
          ∙ ap (known_at p) (sym done);
    }

point_first : (c : Configured) (p : ℕ) → KnowsPoint p [] (opening c)
point_first c p = record {
  whole = subst IsWhole (sym (opens_closed c p)) stays_whole.begins;
  learnt = ap (known_at p) (sym (opens_closed c p));
}

point_at : (c : Configured) (p : ℕ) (rows : List Row) → IsLegal (opening c) rows
    → KnowsPoint p rows (site_of_rows (opening c) rows)
point_at c p rows legal =
    kept (KnowsPoint p) (point_more p) [] (opening c) rows (point_first c p) legal

-- the view of a point that is there is one of what it keeps
viewed : (s : SiteState) (p : ℕ) (v : PointView) → view_point s p ≡ Some v
    → v ≡ point_view (facts_of s p) (holder_of s p)
viewed s p v is = by_row (row_of p s.points) refl
  where
    view : Facts → Option PointView
    view f = Some (point_view f (holder_of s p))

    by_row : (o : Option Facts) → row_of p s.points ≡ o
        → v ≡ point_view (facts_of s p) (holder_of s p)
    by_row None at =
        absurd (let none : None ≡ Some v = ap (option_and_then view) (sym at) ∙ is in cc)
    by_row (Some f) at =
        sym (told_once (point_view f (holder_of s p)) v (ap (option_and_then view) (sym at) ∙ is))
        ∙ ap (λ (x : Facts). point_view x (holder_of s p))
        (sym (ap (λ o. unwrap_or o (empty_point states.Closed)) at))

pub standing_tells : (c : Configured) (rows : List Row) (p : ℕ) (v : PointView)
    → IsLegal (opening c) rows → view_point (site_of_rows (opening c) rows) p ≡ Some v
    → learn_all (standing_events p v) (only_nozzle (is_some v.out))
    ≡ learn_rows p rows (only_nozzle false)
standing_tells c rows p v legal is =
    let s = site_of_rows (opening c) rows in
    let known = point_at c p rows legal in
    ap (λ (x : PointView). learn_all (standing_events p x) (only_nozzle (is_some x.out)))
    (viewed s p v is)
    ∙ standing_learnt p (facts_of s p) (holder_of s p) known.whole
    ∙ sym known.learnt
