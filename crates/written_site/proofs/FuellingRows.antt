-- The fuellings under way at a site are those that the rows so far tell.
use Rattle.std.proofs.Common.{◌≡◌, ℕ, ◌+◌, ◌==◌, ◌&&◌, ◌||◌, Bool, true, false, List, [], ◌∷◌, ◌++◌}
use Rattle.std.proofs.Common.{Option, option_and_then, Some, None, is_some, unwrap_or, Ok, Err}
use Rattle.std.proofs.Common.{refl, sym, ap, subst, ◌∙◌, if◌then◌else◌, ◌⊎◌, inl, inr, arith}
use Rattle.std.proofs.lemmas.Bool.{false≢true}
use Rattle.std.proofs.lemmas.Grind.{common_steps}
use Rattle.std.proofs.lemmas.List.{append_assoc}
use Rattle.std.proofs.lemmas.List.Folds.{list_any-append}
use Rattle.site_base.specs.declared.actor.Actor.{Actor}
use Rattle.site_base.specs.declared.event.Event.{Event}
use Rattle.site_base.specs.declared.event.Event.TheVariants.{SetPrice}
use Rattle.site_base.specs.declared.refusal.Refusal.{Refusal}
use Rattle.site_base.specs.declared.row.Row.{Row}
use Rattle.site_base.specs.declared.state.PointState.TheVariants as states
use Rattle.site_base.specs.Configured.{Configured}
use Rattle.site_base.specs.Events.{point_named}
use Rattle.site_base.specs.Prices.{prices_of}
use Rattle.site_base.specs.Table.{row_of, with_row}
use Rattle.fuelling_point.specs.declared.event.PointEvent.{PointEvent}
use Rattle.fuelling_point.specs.KeptPoints.{Facts, growth_of, is_under_way}
use Rattle.fuelling_point.specs.PointChecks.{refusal_of}
use Rattle.fuelling_point.specs.Step.{after}
use Rattle.fuelling_point.proofs.Whole.{whole_accepted}
use Rattle.meters.specs.Nozzles.{product_of, reading_of}
use Rattle.written_site.specs.SiteState.{SiteState, opening, facts_of, price_at_start}
use Rattle.written_site.specs.SiteChecks.{Passed, own_event, numbers}
use Rattle.written_site.specs.SiteStep.{accepted_site, site_answer, prices_after, reply_to}
use Rattle.written_site.specs.SiteStep.{site_after}
use Rattle.written_site.specs.SiteRun.{site_of_rows, IsLegal}
use Rattle.written_site.specs.Histories.{Moment, moments_of}
use Rattle.written_site.specs.Holders.{names_point}
use Rattle.written_site.specs.RowWords.{last_said, latest}
use Rattle.written_site.specs.SaleWords.{release_of, release_said}
use Rattle.written_site.specs.FuellingWords.{nozzle_said, nozzle_of_row, nozzle_after, calling_said}
use Rattle.written_site.specs.FuellingWords.{calling_of_row, calls_after, price_said, price_of_row}
use Rattle.written_site.specs.FuellingWords.{price_after, product_at, price_read, is_started}
use Rattle.written_site.specs.FuellingWords.{starts, ends_at, growth_at, HasFuelling}
use Rattle.written_site.specs.Volumes.{nozzle_out}
use Rattle.written_site.proofs.FuellingMoves.{nozzle_moves, nozzle_away, calls_moves, calling_away}
use Rattle.written_site.proofs.FuellingMoves.{starts_moves, not_ended, end_away, growth_moves}
use Rattle.written_site.proofs.FuellingMoves.{growth_away}
use Rattle.written_site.proofs.Histories.{site_of_rows-push}
use Rattle.written_site.proofs.MomentRows.{moments_push}
use Rattle.written_site.proofs.PointAfter.{FactsAfter, stays, moves, facts_after, opens_closed}
use Rattle.written_site.proofs.RowFacts.{Known, known_more, known_first}
use Rattle.written_site.proofs.RowWords.{told_row, of_row, kept, said_again, said_last, latest_push}
use Rattle.written_site.proofs.RowWords.{total_push}
use Rattle.written_site.proofs.SlotRows.{moment_at}
use Rattle.written_site.proofs.SoundMachine.{goes_on, starts as begins}
use Rattle.written_site.proofs.SoundMeters.{product_after}
use Rattle.written_site.proofs.SoundPoints.{price_start, out_under_way, flowed_read}
use Rattle.written_site.proofs.SoundReports.{IsRead, reading_elsewhere}
use Rattle.written_site.proofs.SoundTables.{same, turned, row_of-same, row_of-other}

-- ---- today's prices

-- a price that is given is the product's
set_row : (q r price : ℕ) (prices : List (ℕ × ℕ)) → is_some (row_of r prices) ≡ true
    → row_of q (with_row r price prices)
    ≡ last_said (row_of q prices) (if r == q then Some price else None)
set_row q r price prices there = by_test (r == q) refl
  where
    by_row : (o : Option ℕ) → row_of r prices ≡ o → is_some o ≡ true
        → row_of r (with_row r price prices) ≡ Some price
    by_row None is some = cc
    by_row (Some old) is some = row_of-same r price old prices is

    by_test : (b : Bool) → (r == q) ≡ b
        → row_of q (with_row r price prices)
        ≡ last_said (row_of q prices) (if b then Some price else None)
    by_test true at =
        ap (λ (k : ℕ). row_of k (with_row r price prices)) (sym (same r q at))
        ∙ by_row (row_of r prices) refl there
    by_test false at = row_of-other r q price prices (turned q r ∙ at)

priced_there : (s : SiteState) (r price : ℕ) → numbers s (SetPrice r price) ≡ None
    → is_some (row_of r s.prices) ≡ true
priced_there s r price names = grind (arith, common_steps)

price_accepted : (q : ℕ) (s : SiteState) (a : Actor) (e : Event) → Passed s a e
    → row_of q (prices_after s e) ≡ last_said (row_of q s.prices) (price_said q e)
price_accepted q s a (SetPrice r price) passes =
    set_row q r price s.prices (priced_there s r price passes.names)
price_accepted q s a e passes = refl

pub price_row : (q : ℕ) (s : SiteState) (r : Row) → r.reply ≡ reply_to s r.actor r.event
    → row_of q (site_after s r.actor r.event).prices
    ≡ last_said (row_of q s.prices) (price_of_row q r)
price_row q s r replies =
    of_row (λ row new. row_of q new.prices ≡ last_said (row_of q s.prices) (price_of_row q row)) s r
    replies
    (λ refusal. refl)
    (λ passes. price_accepted q s r.actor r.event passes)

-- ---- what is known

-- the fuelling under way at the point: its volume is what its meter has grown since the start, and
-- the rows tell its nozzle, price and volume
pub record IsFuelling (c : Configured) (earlier : List Row) (s : SiteState) (p : ℕ) : Type 0 where
  pub meter : (facts_of s p).start + (facts_of s p).volume
      ≡ reading_of p (nozzle_out (facts_of s p)) s.nozzles
  pub told : HasFuelling c p (moments_of c earlier) (nozzle_out (facts_of s p)) (facts_of s p).price
      (facts_of s p).volume

pub record KnowsPoint (c : Configured) (earlier : List Row) (s : SiteState) (p : ℕ) : Type 0 where
  pub out : (facts_of s p).out ≡ nozzle_after p earlier
  pub calls : (facts_of s p).state ≡ states.Calling → calls_after p earlier ≡ true
  pub fuels : is_under_way (facts_of s p).state ≡ true → IsFuelling c earlier s p

pub record KnowsFuel (c : Configured) (earlier : List Row) (s : SiteState) : Type 0 where
  pub known : Known earlier s
  pub led : s ≡ site_of_rows (opening c) earlier
  pub products : (p n : ℕ) → product_of p n s.nozzles ≡ product_at c p n
  pub prices : (q : ℕ) → row_of q s.prices ≡ price_after c q earlier
  pub points : (p : ℕ) → KnowsPoint c earlier s p

-- ---- one row more

-- the fuelling that goes on, with one moment more
more : (c : Configured) (p : ℕ) (ms : List Moment) (m : Moment) (nozzle price volume volume' : ℕ)
    → HasFuelling c p ms nozzle price volume → ends_at p m ≡ false
    → volume' ≡ volume + growth_at p m
    → HasFuelling c p (ms ++ m ∷ []) nozzle price volume'
more c p ms m nozzle price volume volume' was unended grown = record {
  before = was.before;
  start = was.start;
  since = was.since ++ m ∷ [];
  parts = ap (λ xs. xs ++ m ∷ []) was.parts
      ∙ append_assoc was.before (was.start ∷ was.since) (m ∷ []);
  started = was.started;
  goes_on = list_any-append (ends_at p) was.since (m ∷ [])
      ∙ ap (λ (b : Bool). b || (ends_at p m || false)) was.goes_on
      ∙ ap (λ (b : Bool). b || false) unended;
  lifted = was.lifted;
  priced = was.priced;
  flowed = (let sum = total_push (growth_at p) was.since m in
      let flowed = was.flowed in omega (arith, grown, flowed, sum));
}

unchanged : (v g : ℕ) → g ≡ 0 → v ≡ v + g
unchanged v g none = omega (arith, none)

module _ (c : Configured) (earlier : List Row) (s : SiteState) (r : Row)
    (fuel : KnowsFuel c earlier s)
  where
    -- the row of the event, accepted, and its moment
    abbrev row : Row
    row = told_row r.actor r.event (Ok (site_answer s r.event))

    abbrev new : SiteState
    new = accepted_site s r.actor r.event

    abbrev m : Moment
    m = moment_at earlier s row

    later : (x : Row) → moments_of c (earlier ++ x ∷ [])
        ≡ moments_of c earlier ++ moment_at earlier s x ∷ []
    later x = moments_push [] (opening c) earlier x
        ∙ ap (λ y. moments_of c earlier ++ moment_at earlier y x ∷ []) (sym fuel.led)

    -- the nozzle that is out
    out_more : (p : ℕ) → Passed s r.actor r.event → FactsAfter s r.event p
        → (facts_of new p).out ≡ nozzle_after p (earlier ++ row ∷ [])
    out_more p passes after_it =
        by_after after_it
        ∙ ap (unwrap_or (nozzle_said p r.event)) (fuel.points p).out
        ∙ sym (said_again (latest (nozzle_of_row p) earlier) (nozzle_said p r.event) None)
        ∙ ap (λ (o : Option (Option ℕ)). unwrap_or o None)
        (sym (latest_push (nozzle_of_row p) earlier row))
      where
        by_after : FactsAfter s r.event p
            → (facts_of new p).out ≡ unwrap_or (nozzle_said p r.event) (facts_of s p).out
        by_after (stays is away) =
            ap (λ (f : Facts). f.out) is
            ∙ ap (λ o. unwrap_or o (facts_of s p).out) (sym (nozzle_away s r.event p away))
        by_after (moves event own is taken) =
            ap (λ (f : Facts). f.out) is
            ∙ nozzle_moves s r.event p event (facts_of s p) own (fuel.known.whole p) taken

    -- a point that calls
    calls_more : (p : ℕ) → FactsAfter s r.event p → (facts_of new p).state ≡ states.Calling
        → calls_after p (earlier ++ row ∷ []) ≡ true
    calls_more p after_it calling =
        ap (λ (o : Option Bool). unwrap_or o false) (latest_push (calling_of_row p) earlier row)
        ∙ said_again (latest (calling_of_row p) earlier) (calling_of_row p row) false
        ∙ by_after after_it
      where
        by_said : (calling_said p r.event (Ok (site_answer s r.event)) ≡ Some true)
            ⊎ (((facts_of s p).state ≡ states.Calling)
            × (calling_said p r.event (Ok (site_answer s r.event)) ≡ None))
            → unwrap_or (calling_of_row p row) (calls_after p earlier) ≡ true
        by_said (inl is) = ap (λ (o : Option Bool). unwrap_or o (calls_after p earlier)) is
        by_said (inr was) =
            ap (λ (o : Option Bool). unwrap_or o (calls_after p earlier)) was.1
            ∙ (fuel.points p).calls was.0

        by_after : FactsAfter s r.event p
            → unwrap_or (calling_of_row p row) (calls_after p earlier) ≡ true
        by_after (stays is away) =
            by_said (inr (
              ap (λ (f : Facts). f.state) (sym is) ∙ calling,
              calling_away s r.event p away,
            ))
        by_after (moves event own is taken) =
            by_said (calls_moves s r.event p event own taken
            (ap (λ (f : Facts). f.state) (sym is) ∙ calling))

    -- a fuelling that the event starts
    pub starts_more : (p : ℕ) (event : PointEvent) → Passed s r.actor r.event
        → own_event s r.event ≡ Some (p, event) → refusal_of event (facts_of s p) ≡ None
        → is_under_way (after event (facts_of s p)).state ≡ true
        → is_under_way (facts_of s p).state ≡ false → starts p m ≡ true
    starts_more p event passes own taken under_way was =
        by_start (starts_moves s r.actor r.event p event passes own taken under_way was)
      where
        either : (a b : Bool) → b ≡ true → (a || b) ≡ true
        either true b is = refl
        either false b is = is

        by_start : (is_started p r.event (Ok (site_answer s r.event)) ≡ true)
            ⊎ ((is_some (release_said p r.actor r.event) ≡ true)
            × ((facts_of s p).state ≡ states.Calling))
            → starts p m ≡ true
        by_start (inl is) =
            ap (λ (b : Bool). b || (is_some (release_of p row) && calls_after p earlier)) is
        by_start (inr was) =
            either (is_started p r.event (Ok (site_answer s r.event)))
            (is_some (release_of p row) && calls_after p earlier)
            (ap (λ (b : Bool). b && calls_after p earlier) was.0 ∙ (fuel.points p).calls was.1)

    -- the price that it takes
    price_more : (p : ℕ) (out : Option ℕ) (nozzle : ℕ) → out ≡ Some nozzle
        → price_at_start s p out ≡ price_read c p nozzle earlier
    price_more p out nozzle is =
        ap (price_at_start s p) is
        ∙ ap (λ (o : Option ℕ). unwrap_or (option_and_then (λ q. row_of q s.prices) o) 1)
        (fuel.products p nozzle)
        ∙ by_product (product_at c p nozzle)
      where
        by_product : (o : Option ℕ)
            → unwrap_or (option_and_then (λ q. row_of q s.prices) o) 1
            ≡ unwrap_or (option_and_then (λ q. price_after c q earlier) o) 1
        by_product None = refl
        by_product (Some q) = ap (λ (o : Option ℕ). unwrap_or o 1) (fuel.prices q)

    some_out : (o : Option ℕ) → is_some o ≡ true → o ≡ Some (unwrap_or o 0)
    some_out None is = cc
    some_out (Some n) is = refl

    is_read : Passed s r.actor r.event → IsRead s r.event
    is_read passes = record { names = passes.names; takes = passes.takes; reads = passes.reads }

    -- the fuelling that stands after the event
    told_more : (p : ℕ) → Passed s r.actor r.event → FactsAfter s r.event p
        → is_under_way (facts_of new p).state ≡ true
        → HasFuelling c p (moments_of c earlier ++ m ∷ []) (nozzle_out (facts_of new p))
        (facts_of new p).price (facts_of new p).volume
    told_more p passes (stays is away) under_way =
        let was = (fuel.points p).fuels (ap (λ (f : Facts). is_under_way f.state) (sym is)
        ∙ under_way) in
        subst (λ (f : Facts). HasFuelling c p (moments_of c earlier ++ m ∷ [])
        (nozzle_out f) f.price
        f.volume) (sym is)
        (more c p (moments_of c earlier) m (nozzle_out (facts_of s p)) (facts_of s p).price
        (facts_of s p).volume (facts_of s p).volume was.told (end_away s r.event p away)
        (unchanged (facts_of s p).volume (growth_at p m)
        (growth_away s r.actor r.event p earlier passes away)))
    told_more p passes (moves event own is taken) under_way =
        subst (λ (f : Facts). HasFuelling c p (moments_of c earlier ++ m ∷ [])
        (nozzle_out f) f.price
        f.volume) (sym is)
        (by_test (is_under_way f.state) refl)
      where
        f : Facts
        f = facts_of s p

        now : is_under_way (after event f).state ≡ true
        now = ap (λ (g : Facts). is_under_way g.state) (sym is) ∙ under_way

        out_is : (after event f).out ≡ Some (nozzle_out (after event f))
        out_is = some_out (after event f).out
            ((whole_accepted event f (fuel.known.whole p) taken).nozzle
            ∙ out_under_way (after event f).state now)

        by_test : (b : Bool) → is_under_way f.state ≡ b
            → HasFuelling c p (moments_of c earlier ++ m ∷ []) (nozzle_out (after event f))
            (after event f).price (after event f).volume
        by_test true was =
            let on = goes_on event f now was in
            let before = (fuel.points p).fuels was in
            rw (on.price, on.volume, on.out)
            (more c p (moments_of c earlier) m (nozzle_out f) f.price f.volume
            (f.volume + growth_of event) before.told
            (not_ended s r.event p event f own taken now)
            (ap (λ (v : ℕ). f.volume + v)
            (sym (growth_moves s r.actor r.event p event earlier passes own))))
        by_test false was = record {
          before = moments_of c earlier;
          start = m;
          since = [];
          parts = refl;
          started = starts_more p event passes own taken now was;
          goes_on = refl;
          lifted = sym (out_more p passes (moves event own is taken))
              ∙ ap (λ (g : Facts). g.out) is ∙ out_is;
          priced = price_start s r.event p event f own refl now was
              ∙ price_more p (after event f).out (nozzle_out (after event f)) out_is;
          flowed = (begins event f now was).volume;
        }

    meter_more : (p : ℕ) → Passed s r.actor r.event → FactsAfter s r.event p
        → is_under_way (facts_of new p).state ≡ true
        → (facts_of new p).start + (facts_of new p).volume
        ≡ reading_of p (nozzle_out (facts_of new p)) new.nozzles
    meter_more p passes (stays is away) under_way =
        let was = (fuel.points p).fuels (ap (λ (f : Facts). is_under_way f.state) (sym is)
        ∙ under_way) in
        subst (λ (f : Facts). f.start + f.volume ≡ reading_of p (nozzle_out f) new.nozzles) (sym is)
        (was.meter ∙ sym (reading_elsewhere s r.event p (nozzle_out (facts_of s p)) away))
    meter_more p passes (moves event own is taken) under_way =
        subst (λ (f : Facts). f.start + f.volume ≡ reading_of p (nozzle_out f) new.nozzles) (sym is)
        (flowed_read s r.event p event (is_read passes) own (fuel.known.whole p)
        (λ was. ((fuel.points p).fuels was).meter)
        (whole_accepted event (facts_of s p) (fuel.known.whole p) taken)
        (ap (λ (g : Facts). is_under_way g.state) (sym is) ∙ under_way))

    point_more : (p : ℕ) → Passed s r.actor r.event → KnowsPoint c (earlier ++ row ∷ []) new p
    point_more p passes =
        let done = facts_after s r.actor r.event passes p in
        record {
          out = out_more p passes done;
          calls = calls_more p done;
          fuels = λ under_way. record {
            meter = meter_more p passes done under_way;
            told = subst (λ ms. HasFuelling c p ms (nozzle_out (facts_of new p))
                (facts_of new p).price (facts_of new p).volume) (sym (later row))
                (told_more p passes done under_way);
          };
        }

    -- a refused event changes nothing, and its row tells nothing
    point_refused : (p : ℕ) (refusal : Refusal)
        → KnowsPoint c (earlier ++ told_row r.actor r.event (Err refusal) ∷ []) s p
    point_refused p refusal =
        let x : Row = told_row r.actor r.event (Err refusal) in
        let was = fuel.points p in
        record {
          out = was.out
              ∙ ap (λ (o : Option (Option ℕ)). unwrap_or o None)
              (sym (latest_push (nozzle_of_row p) earlier x));
          calls = λ calling.
              ap (λ (o : Option Bool). unwrap_or o false) (latest_push (calling_of_row p) earlier x)
              ∙ was.calls calling;
          fuels = λ under_way. record {
            meter = (was.fuels under_way).meter;
            told = subst (λ ms. HasFuelling c p ms (nozzle_out (facts_of s p)) (facts_of s p).price
                (facts_of s p).volume) (sym (later x))
                (more c p (moments_of c earlier) (moment_at earlier s x) (nozzle_out (facts_of s p))
                (facts_of s p).price (facts_of s p).volume (facts_of s p).volume
                (was.fuels under_way).told refl
                (unchanged (facts_of s p).volume (growth_at p (moment_at earlier s x))
                (nothing (names_point p (point_named r.event)))));
          };
        }
      where
        nothing : (b : Bool) → ◌≡◌ {A = ℕ} (if b then 0 else 0) 0
        nothing true = refl
        nothing false = refl

pub fuel_more : (c : Configured) (earlier : List Row) (s : SiteState) (r : Row)
    → KnowsFuel c earlier s → r.reply ≡ reply_to s r.actor r.event
    → KnowsFuel c (earlier ++ r ∷ []) (site_after s r.actor r.event)
fuel_more c earlier s r fuel replies = record {
  known = known_more earlier s r fuel.known replies;
  led = ap (λ y. site_after y r.actor r.event) fuel.led ∙ sym
      (site_of_rows-push (opening c) earlier r);
  products = λ p n.
      of_row (λ x new. product_of p n new.nozzles ≡ product_at c p n) s r replies
      (λ refusal. fuel.products p n)
      (λ passes. product_after s r.event p n ∙ fuel.products p n);
  prices = λ q.
      price_row q s r replies
      ∙ ap (λ (o : Option ℕ). last_said o (price_of_row q r)) (fuel.prices q)
      ∙ sym (said_last (row_of q (prices_of c.products)) (latest (price_of_row q) earlier)
      (price_of_row q r))
      ∙ ap (last_said (row_of q (prices_of c.products)))
      (sym (latest_push (price_of_row q) earlier r));
  points =
      of_row (λ x new. (p : ℕ) → KnowsPoint c (earlier ++ x ∷ []) new p) s r replies
      (λ refusal p. point_refused c earlier s r fuel p refusal)
      (λ passes p. point_more c earlier s r fuel p passes);
}

pub fuel_first : (c : Configured) → KnowsFuel c [] (opening c)
fuel_first c = record {
  known = known_first c;
  led = refl;
  products = λ p n. refl;
  prices = λ q. refl;
  points = λ p. record {
    out = ap (λ (f : Facts). f.out) (opens_closed c p);
    calls = λ calling.
        absurd (let closed : states.Closed ≡ states.Calling =
        ap (λ (f : Facts). f.state) (sym (opens_closed c p)) ∙ calling in cc);
    fuels = λ under_way.
        absurd (false≢true (ap (λ (f : Facts). is_under_way f.state) (sym (opens_closed c p))
        ∙ under_way));
  };
}

pub fuel_at : (c : Configured) (rows : List Row) → IsLegal (opening c) rows
    → KnowsFuel c rows (site_of_rows (opening c) rows)
fuel_at c rows legal = kept (KnowsFuel c) (fuel_more c) [] (opening c) rows (fuel_first c) legal
