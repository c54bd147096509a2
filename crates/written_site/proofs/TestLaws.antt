-- Tests are drawn and nothing else is, and each fuelling has one start, for every legal history.
use Rattle.std.proofs.Common.{◌≡◌, ℕ, ◌&&◌, ◌||◌, Bool, true, false, List, [], ◌∷◌, ◌++◌, Option}
use Rattle.std.proofs.Common.{Some, None, is_some, unwrap_or, Ok, ◌⊎◌, inl, inr, refl, sym, ap}
use Rattle.std.proofs.Common.{subst, ◌∙◌}
use Rattle.std.proofs.Common.{arith}
use Rattle.std.proofs.lemmas.Bool.{false≢true}
use Rattle.std.proofs.lemmas.Bool.Decides.{nat_tests}
use Rattle.std.proofs.lemmas.Grind.{common_steps}
use Rattle.std.proofs.lemmas.List.{append_assoc}
use Rattle.std.specs.List.{list_any}
use Rattle.site_base.specs.declared.actor.Actor.{Actor}
use Rattle.site_base.specs.declared.event.Event.{Event}
use Rattle.site_base.specs.declared.row.Row.{Row}
use Rattle.site_base.specs.declared.state.PointState.TheVariants as states
use Rattle.site_base.specs.Configured.{Configured}
use Rattle.site_base.specs.Events.{point_named}
use Rattle.fuelling_point.specs.declared.event.PointEvent.{PointEvent}
use Rattle.fuelling_point.specs.KeptPoints.{Facts, is_under_way}
use Rattle.fuelling_point.specs.PointChecks.{refusal_of}
use Rattle.fuelling_point.specs.Step.{after}
use Rattle.transaction_buffer.specs.Sales.{Key}
use Rattle.written_site.specs.DrawLaws.{tells_drawn}
use Rattle.written_site.specs.FuellingWords.{calling_said, calling_of_row, calls_after, is_started}
use Rattle.written_site.specs.FuellingWords.{starts, end_said, ends_at, HasFuelling}
use Rattle.written_site.specs.Histories.{Moment, moments_after, moments_of}
use Rattle.written_site.specs.RowWords.{OfBooks, latest}
use Rattle.written_site.specs.SaleWords.{release_said, sold_as}
use Rattle.written_site.specs.SiteChecks.{Passed, own_event}
use Rattle.written_site.specs.SiteRun.{site_of_rows, IsLegal}
use Rattle.written_site.specs.SiteState.{SiteState, opening, facts_in, facts_of}
use Rattle.written_site.specs.SiteStep.{site_answer, points_after, reply_to}
use Rattle.written_site.specs.SiteStep.{site_after}
use Rattle.written_site.specs.TestLaws.{IsReleasedAs, IsDrawnAsRead, AreTestsApart}
use Rattle.written_site.specs.Volumes.{nozzle_out}
use Rattle.written_site.proofs.DrawnRows.{draws_here}
use Rattle.written_site.proofs.FuellingMoves.{calling_away}
use Rattle.written_site.proofs.FuellingRows.{KnowsFuel, fuel_at}
use Rattle.written_site.proofs.MomentRows.{head_is, placed}
use Rattle.written_site.proofs.PointAfter.{FactsAfter, stays, moves, facts_after}
use Rattle.written_site.proofs.RowWords.{told_row, of_row, kept, said_again, latest_push}
use Rattle.written_site.proofs.RunRows.{KnowsRuns, runs_more, runs_first, not_started, started_away}
use Rattle.written_site.proofs.RunRows.{release_away, refused_none}
use Rattle.written_site.proofs.SlotRows.{moment_at}
use Rattle.written_site.proofs.SoldRows.{sells_here}
use Rattle.written_site.proofs.SoundMachine.{sold_from, drawn_from}
use Rattle.written_site.proofs.SoundSold.{under_way_released}

-- ---- a point that calls by its rows

called_moves : (s : SiteState) (e : Event) (p : ℕ) (event : PointEvent)
    → own_event s e ≡ Some (p, event) → refusal_of event (facts_of s p) ≡ None
    → calling_said p e (Ok (site_answer s e)) ≡ Some true
    → (after event (facts_of s p)).state ≡ states.Calling
called_moves s e p event own taken said = grind (arith, nat_tests, common_steps)

-- the point calls, or a fuelling is under way
abbrev IsOut : Facts → Type 0
IsOut f = (f.state ≡ states.Calling) ⊎ (is_under_way f.state ≡ true)

still_out : (s : SiteState) (e : Event) (p : ℕ) (event : PointEvent)
    → own_event s e ≡ Some (p, event) → refusal_of event (facts_of s p) ≡ None
    → calling_said p e (Ok (site_answer s e)) ≡ None → IsOut (facts_of s p)
    → IsOut (after event (facts_of s p))
still_out s e p event own taken said out = grind (arith, nat_tests, common_steps)

-- what is known: the runs, and that a point which calls by the rows does, or has started
record KnowsCalls (c : Configured) (earlier : List Row) (s : SiteState) : Type 0 where
  runs : KnowsRuns c earlier s
  calls : (p : ℕ) → calls_after p earlier ≡ true → IsOut (facts_of s p)

calls_accepted : (s : SiteState) (a : Actor) (e : Event) (p : ℕ) (before : Bool) → Passed s a e
    → (before ≡ true → IsOut (facts_of s p))
    → unwrap_or (calling_said p e (Ok (site_answer s e))) before ≡ true
    → IsOut (facts_in (points_after s e) p)
calls_accepted s a e p before passes was is =
    by_said (calling_said p e (Ok (site_answer s e))) refl is (facts_after s a e passes p)
  where
    by_said : (o : Option Bool) → calling_said p e (Ok (site_answer s e)) ≡ o
        → unwrap_or o before ≡ true → FactsAfter s e p → IsOut (facts_in (points_after s e) p)
    by_said None said is (stays same away) = subst IsOut (sym same) (was is)
    by_said None said is (moves event own done taken) =
        subst IsOut (sym done) (still_out s e p event own taken said (was is))
    by_said (Some b) said is (stays same away) =
        absurd (let both : None ≡ Some b = sym (calling_away s e p away) ∙ said in cc)
    by_said (Some true) said is (moves event own done taken) =
        subst IsOut (sym done) (inl (called_moves s e p event own taken said))
    by_said (Some false) said is (moves event own done taken) = absurd (false≢true is)

calls_more : (c : Configured) (earlier : List Row) (s : SiteState) (r : Row)
    → KnowsCalls c earlier s → r.reply ≡ reply_to s r.actor r.event
    → KnowsCalls c (earlier ++ r ∷ []) (site_after s r.actor r.event)
calls_more c earlier s r known replies = record {
  runs = runs_more c earlier s r known.runs replies;
  calls = λ p is.
      of_row (λ row new. unwrap_or (calling_of_row p row) (calls_after p earlier) ≡ true
      → IsOut (facts_of new p)) s r replies
      (λ refusal. known.calls p)
      (λ passes. calls_accepted s r.actor r.event p (calls_after p earlier) passes (known.calls p))
      (sym (said_again (latest (calling_of_row p) earlier) (calling_of_row p r) false)
      ∙ ap (λ (o : Option Bool). unwrap_or o false) (sym (latest_push (calling_of_row p) earlier r))
      ∙ is);
}

calls_at : (c : Configured) (rows : List Row) → IsLegal (opening c) rows
    → KnowsCalls c rows (site_of_rows (opening c) rows)
calls_at c rows legal =
    kept (KnowsCalls c) (calls_more c) [] (opening c) rows
    (record { runs = runs_first c; calls = λ p is. absurd (false≢true is) }) legal

-- ---- a start

started_moves : (s : SiteState) (e : Event) (p : ℕ) (event : PointEvent)
    → own_event s e ≡ Some (p, event) → refusal_of event (facts_of s p) ≡ None
    → is_started p e (Ok (site_answer s e)) ≡ true
    → is_under_way (after event (facts_of s p)).state ≡ true
started_moves s e p event own taken started = grind (arith, nat_tests, common_steps)

release_moves : (s : SiteState) (a : Actor) (e : Event) (p : ℕ) (event : PointEvent)
    → own_event s e ≡ Some (p, event) → refusal_of event (facts_of s p) ≡ None
    → is_some (release_said p a e) ≡ true → IsOut (facts_of s p)
    → is_under_way (after event (facts_of s p)).state ≡ true
release_moves s a e p event own taken released out = grind (arith, nat_tests, common_steps)

either_true : (a b d : Bool) → (a || (b && d)) ≡ true → (a ≡ true) ⊎ ((b ≡ true) × (d ≡ true))
either_true true b d is = inl refl
either_true false true true is = inr (refl, refl)
either_true false true false is = cc
either_true false false d is = cc

starts_accepted : (c : Configured) (earlier : List Row) (s : SiteState) (a : Actor) (e : Event)
    (p : ℕ) → KnowsCalls c earlier s → Passed s a e
    → starts p (moment_at earlier s (told_row a e (Ok (site_answer s e)))) ≡ true
    → is_under_way (facts_in (points_after s e) p).state ≡ true
starts_accepted c earlier s a e p known passes is =
    by_start (either_true (is_started p e (Ok (site_answer s e))) (is_some (release_said p a e))
    (calls_after p earlier) is) (facts_after s a e passes p)
  where
    by_start : (is_started p e (Ok (site_answer s e)) ≡ true)
        ⊎ ((is_some (release_said p a e) ≡ true) × (calls_after p earlier ≡ true))
        → FactsAfter s e p → is_under_way (facts_in (points_after s e) p).state ≡ true
    by_start (inl started) (stays same away) =
        absurd (false≢true (sym (started_away s e p away) ∙ started))
    by_start (inr released) (stays same away) =
        absurd (false≢true (ap is_some (sym (release_away s a e p away)) ∙ released.0))
    by_start (inl started) (moves event own done taken) =
        ap (λ (f : Facts). is_under_way f.state) done ∙ started_moves s e p event own taken started
    by_start (inr released) (moves event own done taken) =
        ap (λ (f : Facts). is_under_way f.state) done
        ∙ release_moves s a e p event own taken released.0 (known.calls p released.1)

-- a row that starts a fuelling leaves it under way
starts_row : (c : Configured) (earlier : List Row) (s : SiteState) (r : Row) (p : ℕ)
    → KnowsCalls c earlier s → r.reply ≡ reply_to s r.actor r.event
    → starts p (moment_at earlier s r) ≡ true
    → is_under_way (facts_of (site_after s r.actor r.event) p).state ≡ true
starts_row c earlier s r p known replies =
    of_row (λ row new. starts p (moment_at earlier s row) ≡ true
    → is_under_way (facts_of new p).state ≡ true) s r replies
    (λ refusal is. absurd (false≢true (sym (refused_none c earlier s r known.runs p refusal) ∙ is)))
    (λ passes. starts_accepted c earlier s r.actor r.event p known passes)

neither : (a b d : Bool) → a ≡ false → b ≡ false → (a || (b && d)) ≡ false
neither a b d first second =
    ap (λ (x : Bool). x || (b && d)) first ∙ ap (λ (x : Bool). x && d) second

-- where one is under way, no row starts one
no_start : (c : Configured) (earlier : List Row) (s : SiteState) (r : Row) (p : ℕ)
    → KnowsCalls c earlier s → r.reply ≡ reply_to s r.actor r.event
    → is_under_way (facts_of s p).state ≡ true → starts p (moment_at earlier s r) ≡ false
no_start c earlier s r p known replies under_way =
    of_row (λ row new. starts p (moment_at earlier s row) ≡ false) s r replies
    (refused_none c earlier s r known.runs p)
    (λ passes. by_after (facts_after s r.actor r.event passes p))
  where
    by_after : FactsAfter s r.event p
        → starts p (moment_at earlier s (told_row r.actor r.event (Ok (site_answer s r.event))))
        ≡ false
    by_after (stays same away) =
        neither (is_started p r.event (Ok (site_answer s r.event)))
        (is_some (release_said p r.actor r.event)) (calls_after p earlier)
        (started_away s r.event p away) (ap is_some (release_away s r.actor r.event p away))
    by_after (moves event own done taken) =
        let none = not_started s r.actor r.event p event own taken under_way in
        neither (is_started p r.event (Ok (site_answer s r.event)))
        (is_some (release_said p r.actor r.event)) (calls_after p earlier)
        none.0 (ap is_some none.1)

goes_under_way : (s : SiteState) (e : Event) (p : ℕ) (event : PointEvent)
    → own_event s e ≡ Some (p, event) → refusal_of event (facts_of s p) ≡ None
    → is_under_way (facts_of s p).state ≡ true → end_said p e ≡ false
    → is_under_way (after event (facts_of s p)).state ≡ true
goes_under_way s e p event own taken under_way unended = grind (arith, nat_tests, common_steps)

-- a fuelling that a row doesn't end goes on
goes_on_row : (earlier : List Row) (s : SiteState) (r : Row) (p : ℕ)
    → r.reply ≡ reply_to s r.actor r.event → is_under_way (facts_of s p).state ≡ true
    → ends_at p (moment_at earlier s r) ≡ false
    → is_under_way (facts_of (site_after s r.actor r.event) p).state ≡ true
goes_on_row earlier s r p replies under_way =
    of_row (λ row new. ends_at p (moment_at earlier s row) ≡ false
    → is_under_way (facts_of new p).state ≡ true) s r replies
    (λ refusal unended. under_way)
    (λ passes. by_after (facts_after s r.actor r.event passes p))
  where
    by_after : FactsAfter s r.event p → end_said p r.event ≡ false
        → is_under_way (facts_in (points_after s r.event) p).state ≡ true
    by_after (stays same away) unended = ap (λ (f : Facts). is_under_way f.state) same ∙ under_way
    by_after (moves event own done taken) unended =
        ap (λ (f : Facts). is_under_way f.state) done
        ∙ goes_under_way s r.event p event own taken under_way unended

ended_between : (c : Configured) (p : ℕ) (earlier : List Row) (s : SiteState) (rs : List Row)
    (between since : List Moment) (second : Moment) → KnowsCalls c earlier s → IsLegal s rs
    → is_under_way (facts_of s p).state ≡ true
    → moments_after earlier s rs ≡ between ++ second ∷ since → starts p second ≡ true
    → list_any (ends_at p) between ≡ true
ended_between c p earlier s [] [] since second known legal under_way parts started = cc
ended_between c p earlier s [] (x ∷ between) since second known legal under_way parts started = cc
ended_between c p earlier s (r ∷ rs) [] since second known legal under_way parts started =
    let both = head_is (moment_at earlier s r) second
    (moments_after (earlier ++ r ∷ []) (site_after s r.actor r.event) rs) since parts in
    absurd (false≢true (sym (no_start c earlier s r p known legal.0 under_way)
    ∙ ap (starts p) both.0 ∙ started))
ended_between c p earlier s (r ∷ rs) (x ∷ between) since second known legal under_way parts
    started =
    let both = head_is (moment_at earlier s r) x
    (moments_after (earlier ++ r ∷ []) (site_after s r.actor r.event) rs)
    (between ++ second ∷ since) parts in
    ap (λ m. list_any (ends_at p) (m ∷ between)) (sym both.0)
    ∙ by_test (ends_at p (moment_at earlier s r)) refl
    (λ on. ended_between c p (earlier ++ r ∷ []) (site_after s r.actor r.event) rs between since
    second (calls_more c earlier s r known legal.0) legal.1 on both.1 started)
  where
    by_test : (b : Bool) → ends_at p (moment_at earlier s r) ≡ b
        → (is_under_way (facts_of (site_after s r.actor r.event) p).state ≡ true
        → list_any (ends_at p) between ≡ true)
        → list_any (ends_at p) (moment_at earlier s r ∷ between) ≡ true
    by_test true is rest = rw is refl
    by_test false is rest = rw is (rest (goes_on_row earlier s r p legal.0 under_way is))

-- ---- the law

pub tests_apart : OfBooks AreTestsApart
tests_apart c rows legal = record { sold = sold; drawn = drawn; started = started }
  where
    sold : (k : Key) (before since : List Moment) (m : Moment)
        → moments_of c rows ≡ before ++ m ∷ since → sold_as m ≡ Some k
        → IsReleasedAs false k.point m.earlier
    sold k before since m parts is =
        let at = placed c rows before since m legal parts in
        let fuel = subst (KnowsFuel c m.earlier) (sym at.led) (fuel_at c m.earlier at.legal) in
        let here = sells_here k m.earlier m.before m.row fuel.known.shift at.told is in
        let from = sold_from here.event (facts_of m.before here.point) here.nozzle here.volume
        here.price here.prepaid (fuel.known.whole here.point) here.taken here.sells in
        let so = fuel.known.released here.point
        (under_way_released (facts_of m.before here.point).state from.was) in
        subst (λ p. IsReleasedAs false p m.earlier) (ap (λ (j : Key). j.point) (sym here.name))
        (record { release = so.told; last = so.is; kind = sym so.test ∙ from.sale })

    drawn : (p : ℕ) (before since : List Moment) (m : Moment)
        → moments_of c rows ≡ before ++ m ∷ since → point_named m.row.event ≡ Some p
        → tells_drawn m.row.reply ≡ true → IsDrawnAsRead c p before m
    drawn p before since m parts named told =
        let at = placed c rows before since m legal parts in
        let fuel = subst (KnowsFuel c m.earlier) (sym at.led) (fuel_at c m.earlier at.legal) in
        let here = draws_here m.before m.row p at.told named told in
        let f : Facts = facts_of m.before p in
        let from = drawn_from here.event f here.nozzle here.volume (fuel.known.whole p) here.taken
        here.draws in
        let so = fuel.known.released p (under_way_released f.state from.was) in
        record {
          nozzle = nozzle_out f;
          price = f.price;
          flowed = f.volume;
          fuelling = subst (λ ms. HasFuelling c p ms (nozzle_out f) f.price f.volume)
              (sym at.moments) ((fuel.points p).fuels from.was).told;
          released = record { release = so.told; last = so.is; kind = sym so.test ∙ from.test };
        }

    started : (p : ℕ) (before between since : List Moment) (first second : Moment)
        → moments_of c rows ≡ before ++ first ∷ between ++ second ∷ since
        → starts p first ≡ true → starts p second ≡ true → list_any (ends_at p) between ≡ true
    started p before between since first second parts begun again =
        let split : moments_of c rows ≡ before ++ first ∷ (between ++ second ∷ since) =
        parts ∙ append_assoc before (first ∷ between) (second ∷ since) in
        let at = placed c rows before (between ++ second ∷ since) first legal split in
        let known = subst (KnowsCalls c first.earlier) (sym at.led)
        (calls_at c first.earlier at.legal) in
        ended_between c p (first.earlier ++ first.row ∷ [])
        (site_after first.before first.row.actor first.row.event) at.rest between since second
        (calls_more c first.earlier first.before first.row known at.told) at.later
        (starts_row c first.earlier first.before first.row p known at.told begun)
        (sym at.after) again
