-- The points of a site are points, for every legal history.
use Rattle.std.proofs.Common.{◌≡◌, ℕ, ◌==◌, Bool, true, false, List, [], ◌∷◌, ◌++◌, Option, Some}
use Rattle.std.proofs.Common.{None, Ok, Err, is_ok, refl, sym, ap, ◌∙◌, if◌then◌else◌, arith}
use Rattle.std.proofs.lemmas.Grind.{common_steps}
use Rattle.site_base.specs.declared.answer.Answer.{Answer}
use Rattle.site_base.specs.declared.event.Event.{Event}
use Rattle.site_base.specs.declared.refusal.Refusal.{Refusal}
use Rattle.site_base.specs.declared.row.Row.{Row}
use Rattle.site_base.specs.Checks.{reply_or, value_or}
use Rattle.site_base.specs.Configured.{Configured}
use Rattle.fuelling_point.specs.declared.event.PointEvent.{PointEvent}
use Rattle.fuelling_point.specs.History.{facts_after as point_step, facts_at_end, point_after}
use Rattle.fuelling_point.specs.History.{reply_to as point_reply}
use Rattle.fuelling_point.specs.KeptPoints.{Facts, growth_of}
use Rattle.fuelling_point.specs.PointChecks.{refusal_of}
use Rattle.fuelling_point.specs.Step.{step_of, after}
use Rattle.written_site.specs.Histories.{Moment, moments_of}
use Rattle.written_site.specs.PointLaws.{event_for, own_of, add_event, own_events, tells_step}
use Rattle.written_site.specs.PointLaws.{ArePointsTheirOwn}
use Rattle.written_site.specs.RowWords.{OfBooks}
use Rattle.written_site.specs.SiteChecks.{own_event}
use Rattle.written_site.specs.SiteRun.{site_of_rows, IsLegal}
use Rattle.written_site.specs.SiteState.{SiteState, opening, facts_in, facts_of}
use Rattle.written_site.specs.SiteStep.{site_answer, points_after, reply_to, site_after, step_told}
use Rattle.written_site.specs.SiteStep.{told_by}
use Rattle.written_site.proofs.Histories.{site_of_rows-push}
use Rattle.written_site.proofs.MomentRows.{moments_push, placed}
use Rattle.written_site.proofs.PointAfter.{FactsAfter, stays, moves, facts_after, opens_closed}
use Rattle.written_site.proofs.RowFacts.{own_after}
use Rattle.written_site.proofs.RowWords.{append_none, told_row, of_row, kept}
use Rattle.written_site.proofs.SlotRows.{moment_at}
use Rattle.written_site.proofs.SoundTables.{same, itself, told_once}

-- ---- one event more

end_more : (f : Facts) (events : List PointEvent) (event : PointEvent)
    → facts_at_end f (events ++ event ∷ []) ≡ point_step event (facts_at_end f events)
end_more f [] event = refl
end_more f (x ∷ events) event = end_more (point_step x f) events event

-- one moment more
own_more : (p : ℕ) (ms : List Moment) (m : Moment)
    → own_events p (ms ++ m ∷ []) ≡ own_events p ms ++ add_event (own_of p m) []
own_more p [] m = refl
own_more p (x ∷ ms) m = ap (add_event (own_of p x)) (own_more p ms m) ∙ by_own (own_of p x)
  where
    by_own : (o : Option PointEvent)
        → add_event o (own_events p ms ++ add_event (own_of p m) [])
        ≡ add_event o (own_events p ms) ++ add_event (own_of p m) []
    by_own None = refl
    by_own (Some event) = refl

none_more : (p : ℕ) (ms : List Moment) (m : Moment) → own_of p m ≡ None
    → point_after (own_events p (ms ++ m ∷ [])) ≡ point_after (own_events p ms)
none_more p ms m none =
    ap point_after (own_more p ms m ∙ ap (λ o. own_events p ms ++ add_event o []) none
    ∙ append_none (own_events p ms))

some_more : (p : ℕ) (ms : List Moment) (m : Moment) (event : PointEvent) → own_of p m ≡ Some event
    → point_after (own_events p (ms ++ m ∷ []))
    ≡ point_step event (point_after (own_events p ms))
some_more p ms m event some =
    ap point_after (own_more p ms m ∙ ap (λ o. own_events p ms ++ add_event o []) some)
    ∙ end_more _ (own_events p ms) event

-- ---- rows

-- what is known of the points
record KnowsPoints (c : Configured) (earlier : List Row) (s : SiteState) : Type 0 where
  led : s ≡ site_of_rows (opening c) earlier
  facts : (p : ℕ) → facts_of s p ≡ point_after (own_events p (moments_of c earlier))

-- an event that isn't this point's
away_none : (p : ℕ) (own : Option (ℕ × PointEvent))
    → ((event : PointEvent) → own ≡ Some (p, event) → ⊥) → event_for p own ≡ None
away_none p None away = refl
away_none p (Some x) away = by_test (x.0 == p) refl
  where
    by_test : (b : Bool) → (x.0 == p) ≡ b
        → ◌≡◌ {A = Option PointEvent} (if b then Some x.1 else None) None
    by_test true at = absurd (away x.1 (ap (λ (r : ℕ). Some (r, x.1)) (same x.0 p at)))
    by_test false at = refl

own_some : (p : ℕ) (event : PointEvent) (own : Option (ℕ × PointEvent)) → own ≡ Some (p, event)
    → event_for p own ≡ Some event
own_some p event own is =
    ap (event_for p) is ∙ ap (λ (b : Bool). if b then Some event else None) (itself p)

points_more : (c : Configured) (earlier : List Row) (s : SiteState) (r : Row)
    → KnowsPoints c earlier s → r.reply ≡ reply_to s r.actor r.event
    → KnowsPoints c (earlier ++ r ∷ []) (site_after s r.actor r.event)
points_more c earlier s r known replies = record {
  led = ap (λ y. site_after y r.actor r.event) known.led ∙ sym
      (site_of_rows-push (opening c) earlier r);
  facts = of_row (λ row new. (p : ℕ)
      → facts_of new p ≡ point_after (own_events p (moments_of c (earlier ++ row ∷ [])))) s r
      replies
      (λ refusal p. known.facts p
      ∙ sym (ap (λ ms. point_after (own_events p ms))
      (later (told_row r.actor r.event (Err refusal)))
      ∙ none_more p (moments_of c earlier)
      (moment_at earlier s (told_row r.actor r.event (Err refusal))) refl))
      (λ passes p. by_after p (facts_after s r.actor r.event passes p));
}
  where
    row : Row
    row = told_row r.actor r.event (Ok (site_answer s r.event))

    later : (x : Row) → moments_of c (earlier ++ x ∷ [])
        ≡ moments_of c earlier ++ moment_at earlier s x ∷ []
    later x = moments_push [] (opening c) earlier x
        ∙ ap (λ y. moments_of c earlier ++ moment_at earlier y x ∷ []) (sym known.led)

    by_after : (p : ℕ) → FactsAfter s r.event p
        → facts_in (points_after s r.event) p
        ≡ point_after (own_events p (moments_of c (earlier ++ row ∷ [])))
    by_after p (stays is away) =
        is ∙ known.facts p
        ∙ sym (ap (λ ms. point_after (own_events p ms)) (later row)
        ∙ none_more p (moments_of c earlier) (moment_at earlier s row)
        (away_none p (own_event s r.event) away))
    by_after p (moves event own is taken) =
        is
        ∙ ap (λ (o : Option Refusal). value_or o (after event (facts_of s p)) (facts_of s p))
        (sym taken)
        ∙ ap (point_step event) (known.facts p)
        ∙ sym (ap (λ ms. point_after (own_events p ms)) (later row)
        ∙ some_more p (moments_of c earlier) (moment_at earlier s row) event
        (own_some p event (own_event s r.event) own))

points_first : (c : Configured) → KnowsPoints c [] (opening c)
points_first c = record { led = refl; facts = opens_closed c }

points_at : (c : Configured) (rows : List Row) → IsLegal (opening c) rows
    → KnowsPoints c rows (site_of_rows (opening c) rows)
points_at c rows legal =
    kept (KnowsPoints c) (points_more c) [] (opening c) rows (points_first c) legal

-- ---- each event is taken

its_own : (p : ℕ) (event : PointEvent) (own : Option (ℕ × PointEvent)) → event_for p own
    ≡ Some event
    → own ≡ Some (p, event)
its_own p event None is = absurd (let none : None ≡ Some event = is in cc)
its_own p event (Some x) is = by_test (x.0 == p) refl is
  where
    by_test : (b : Bool) → (x.0 == p) ≡ b
        → ◌≡◌ {A = Option PointEvent} (if b then Some x.1 else None) (Some event)
        → Some x ≡ Some (p, event)
    by_test true at is =
        ap (λ (r : ℕ). Some (r, x.1)) (same x.0 p at)
        ∙ ap (λ (y : PointEvent). Some (p, y)) (told_once x.1 event is)
    by_test false at is = absurd (let none : None ≡ Some event = is in cc)

taken_row : (p : ℕ) (event : PointEvent) (earlier : List Row) (s : SiteState) (r : Row)
    → r.reply ≡ reply_to s r.actor r.event → own_of p (moment_at earlier s r) ≡ Some event
    → refusal_of event (facts_of s p) ≡ None
taken_row p event earlier s r replies =
    of_row (λ row new. own_of p (moment_at earlier s row) ≡ Some event
    → refusal_of event (facts_of s p) ≡ None) s r replies
    (λ refusal is. absurd (let none : None ≡ Some event = is in cc))
    (λ passes is. (own_after s r.actor r.event p event passes
    (its_own p event (own_event s r.event) is)).1)

-- ---- what each event is answered

answer_told : (s : SiteState) (e : Event) → tells_step e ≡ true
    → site_answer s e ≡ told_by s (own_event s e)
answer_told s e tells = grind (arith, common_steps)

answered_row : (p : ℕ) (event : PointEvent) (earlier : List Row) (s : SiteState) (r : Row)
    → r.reply ≡ reply_to s r.actor r.event → own_of p (moment_at earlier s r) ≡ Some event
    → tells_step r.event ≡ true
    → r.reply ≡ Ok (step_told s p (growth_of event) (step_of event (facts_of s p)))
answered_row p event earlier s r replies =
    of_row (λ row new. own_of p (moment_at earlier s row) ≡ Some event
    → tells_step row.event ≡ true
    → row.reply ≡ Ok (step_told s p (growth_of event) (step_of event (facts_of s p)))) s r replies
    (λ refusal is tells. absurd (let none : None ≡ Some event = is in cc))
    (λ passes is tells. ap (λ (a : Answer). Ok a) (answer_told s r.event tells
    ∙ ap (told_by s) (its_own p event (own_event s r.event) is)))

pub points_their_own : OfBooks ArePointsTheirOwn
points_their_own c rows legal = record {
  facts = (points_at c rows legal).facts;
  before = before_it;
  takes = λ p before since m event parts own.
      let at = placed c rows before since m legal parts in
      let taken = taken_row p event m.earlier m.before m.row at.told own in
      ap (λ (f : Facts). is_ok (point_reply event f))
      (sym (before_it p before since m event parts own))
      ∙ ap (λ (o : Option Refusal). is_ok (reply_or o (step_of event (facts_of m.before p)))) taken;
  answers = λ p before since m event parts own tells.
      let at = placed c rows before since m legal parts in
      answered_row p event m.earlier m.before m.row at.told own tells
      ∙ ap (λ (f : Facts). Ok (step_told m.before p (growth_of event) (step_of event f)))
      (before_it p before since m event parts own);
}
  where
    before_it : (p : ℕ) (before since : List Moment) (m : Moment) (event : PointEvent)
        → moments_of c rows ≡ before ++ m ∷ since → own_of p m ≡ Some event
        → facts_of m.before p ≡ point_after (own_events p before)
    before_it p before since m event parts own =
        let at = placed c rows before since m legal parts in
        ap (λ (s : SiteState). facts_of s p) at.led
        ∙ (points_at c m.earlier at.legal).facts p
        ∙ ap (λ ms. point_after (own_events p ms)) (sym at.moments)
