-- A sale finds room and the next number, for every legal history.
use Rattle.std.proofs.Common.{◌≡◌, ℕ, ◌+◌, ◌≤◌, ◌==◌, ◌&&◌, Bool, true, false, List, [], ◌∷◌, ◌++◌}
use Rattle.std.proofs.Common.{Option, Some, None, Ok, refl, sym, ap, subst, ◌∙◌, if◌then◌else◌}
use Rattle.std.proofs.Common.{arith}
use Rattle.std.proofs.lemmas.Bool.{false≢true}
use Rattle.std.specs.FinMap.{get-empty}
use Rattle.std.specs.Ordering.{nat_cmp}
use Rattle.site_base.specs.Events.{point_named}
use Rattle.site_base.specs.declared.actor.Actor.{Actor}
use Rattle.site_base.specs.declared.actor.Actor.TheVariants.{Till}
use Rattle.site_base.specs.declared.event.Event.{Event}
use Rattle.site_base.specs.declared.event.Event.TheVariants.{SignOff, Lock, Unlock, Clear}
use Rattle.site_base.specs.declared.event.Event.TheVariants.{Terminate, ReadTransaction, Lift, Flow}
use Rattle.site_base.specs.declared.event.Event.TheVariants.{Offline, HangUp}
use Rattle.transaction_buffer.specs.declared.shelf.TheConstants.{UNPAID_LIMIT}
use Rattle.site_base.specs.declared.row.Row.{Row}
use Rattle.site_base.specs.Configured.{Configured}
use Rattle.fuelling_point.specs.declared.event.PointEvent.{PointEvent}
use Rattle.fuelling_point.specs.declared.event.PointEvent.TheVariants as points
use Rattle.fuelling_point.specs.declared.step.PointStep.{PointStep}
use Rattle.fuelling_point.specs.declared.step.PointStep.TheVariants.{Sold}
use Rattle.fuelling_point.specs.KeptPoints.{Facts}
use Rattle.fuelling_point.specs.Step.{step_of}
use Rattle.fuelling_point.specs.Whole.{is_released}
use Rattle.meters.specs.Nozzles.{Nozzle}
use Rattle.transaction_buffer.specs.declared.request.Request.TheVariants as requests
use Rattle.transaction_buffer.specs.Sales.{Key, no_sales, made_at, unpaid_at}
use Rattle.transaction_buffer.proofs.Counting.{counted_after}
use Rattle.written_site.specs.SiteState.{SiteState, opening, facts_in, facts_of, key_named}
use Rattle.written_site.specs.SiteState.{open_shift}
use Rattle.written_site.specs.SiteChecks.{Passed, own_event, flow_since}
use Rattle.written_site.specs.SiteStep.{accepted_site, site_answer, step_at, step_told}
use Rattle.written_site.specs.SiteStep.{nozzles_after, points_after, sales_after, sales_by}
use Rattle.written_site.specs.SiteStep.{sale_made, reply_to, site_after}
use Rattle.written_site.specs.SiteRun.{site_of_rows, IsLegal}
use Rattle.written_site.specs.Histories.{Moment, moments_of}
use Rattle.written_site.specs.RowWords.{OfBooks, open_after, count}
use Rattle.written_site.specs.SaleWords.{key_sold, number_sold, sold_as}
use Rattle.written_site.specs.NumberLaws.{is_key_of, sells_in, sells_at, clears_at, AreNumbered}
use Rattle.written_site.specs.Sound.{MaySell}
use Rattle.written_site.proofs.MomentRows.{placed}
use Rattle.written_site.proofs.PointAfter.{FactsAfter, stays, moves, facts_after, opens_closed}
use Rattle.written_site.proofs.RowFacts.{own_after, Known, known_more, known_first}
use Rattle.written_site.proofs.RowWords.{told_row, of_row, kept}
use Rattle.written_site.proofs.SlotRows.{moment_at}
use Rattle.written_site.proofs.SoldRows.{sells_here, total_moments}
use Rattle.written_site.proofs.SoundDraws.{shifts_kept}
use Rattle.written_site.proofs.SoundMachine.{sold_from}
use Rattle.written_site.proofs.SoundPoints.{NoneLater, room_kept, room_own}
use Rattle.written_site.proofs.SoundSales.{sells, let_go_counts, asked_counts, counts_after}
use Rattle.written_site.proofs.SoundSales.{unpaid_by}
use Rattle.written_site.proofs.SoundSold.{order_after, under_way_released, sale_of_step}
use Rattle.written_site.proofs.SoundTables.{turned}
use Rattle.written_site.proofs.UnpaidRows.{unpaid_so_far}
use Rattle.written_site.proofs.ToldAnswers.{never_sold}

-- ---- numbers

unmade : (n : ℕ) → n ≡ n + 0
unmade n = omega arith

-- a sale is one more of its point in its shift
made_by : (q h : ℕ) (earlier : List Row) (s : SiteState) (nozzles : List Nozzle) (p growth : ℕ)
    (step : PointStep) → open_shift s ≡ open_after earlier
    → made_at q h (sales_by s nozzles p step)
    ≡ made_at q h s.sales
    + (if is_key_of q h (key_sold earlier (Some p) (number_sold (Ok (step_told s p growth step))))
    then 1 else 0)
made_by q h earlier s nozzles p growth (Sold nozzle volume price prepaid) shift =
    counted_after.made_sold p (sale_made s nozzles p) q h s.sales
    ∙ by_test (q == p && open_shift s == h) refl
    ∙ ap (λ (b : Bool). made_at q h s.sales + (if b then 1 else 0))
    (ap (λ (b : Bool). b && open_shift s == h) (turned q p)
    ∙ ap (λ (g : ℕ). p == q && g == h) shift)
  where
    by_test : (b : Bool) → (q == p && open_shift s == h) ≡ b
        → (if b then made_at q h s.sales + 1 else made_at q h s.sales)
        ≡ made_at q h s.sales + (if b then 1 else 0)
    by_test true is = refl
    by_test false is = unmade (made_at q h s.sales)
made_by q h earlier s nozzles p growth step shift = unmade (made_at q h s.sales)

-- no other event sells
not_made : (q h n : ℕ) (earlier : List Row) (p : ℕ) (o : Option ℕ) → o ≡ None
    → n ≡ n + (if is_key_of q h (key_sold earlier (Some p) o) then 1 else 0)
not_made q h n earlier p o none =
    unmade n
    ∙ ap (λ (x : Option ℕ). n + (if is_key_of q h (key_sold earlier (Some p) x) then 1 else 0))
    (sym none)

made_accepted : (q h : ℕ) (earlier : List Row) (s : SiteState) (a : Actor) (e : Event)
    → open_shift s ≡ open_after earlier
    → made_at q h (sales_after s a e)
    ≡ made_at q h s.sales
    + (if sells_in q h (moment_at earlier s (told_row a e (Ok (site_answer s e)))) then 1 else 0)
made_accepted q h earlier s (Till t) SignOff shift =
    (let_go_counts t q s.sales).made h ∙ unmade (made_at q h s.sales)
made_accepted q h earlier s (Till t) (Lock p id) shift =
    (asked_counts requests.Lock t (key_named s p id) q s.sales).made h ∙ unmade
    (made_at q h s.sales)
made_accepted q h earlier s (Till t) (Unlock p id) shift =
    (asked_counts requests.Unlock t (key_named s p id) q s.sales).made h
    ∙ unmade (made_at q h s.sales)
made_accepted q h earlier s (Till t) (Clear p id) shift =
    (asked_counts (requests.Clear (open_shift s)) t (key_named s p id) q s.sales).made h
    ∙ not_made q h (made_at q h s.sales) earlier p _ (never_sold s (Clear p id) refl)
made_accepted q h earlier s a (Offline p) shift =
    made_by q h earlier s s.nozzles p 0 (step_at s (Offline p)) shift
made_accepted q h earlier s a (HangUp p n reading) shift =
    made_by q h earlier s (nozzles_after s (HangUp p n reading)) p (flow_since s p n reading)
    (step_at s (HangUp p n reading)) shift
made_accepted q h earlier s a (Clear p id) shift =
    not_made q h (made_at q h s.sales) earlier p _ (never_sold s (Clear p id) refl)
made_accepted q h earlier s a (Terminate p) shift =
    not_made q h (made_at q h s.sales) earlier p _ (never_sold s (Terminate p) refl)
made_accepted q h earlier s a (Lift p n reading) shift =
    not_made q h (made_at q h s.sales) earlier p _ (never_sold s (Lift p n reading) refl)
made_accepted q h earlier s a (Flow p n reading) shift =
    not_made q h (made_at q h s.sales) earlier p _ (never_sold s (Flow p n reading) refl)
made_accepted q h earlier s a (ReadTransaction p id) shift =
    not_made q h (made_at q h s.sales) earlier p _ (never_sold s (ReadTransaction p id) refl)
made_accepted q h earlier s a e shift = unmade (made_at q h s.sales)

made_row : (q h : ℕ) (earlier : List Row) (s : SiteState) (r : Row) → Known earlier s
    → r.reply ≡ reply_to s r.actor r.event
    → made_at q h (site_after s r.actor r.event).sales
    ≡ made_at q h s.sales + (if sells_in q h (moment_at earlier s r) then 1 else 0)
made_row q h earlier s r known replies =
    of_row (λ row new. made_at q h new.sales
    ≡ made_at q h s.sales + (if sells_in q h (moment_at earlier s row) then 1 else 0)) s r replies
    (λ refusal. untold (point_named r.event))
    (λ passes. made_accepted q h earlier s r.actor r.event known.shift)
  where
    untold : (point : Option ℕ)
        → made_at q h s.sales
        ≡ made_at q h s.sales + (if is_key_of q h (key_sold earlier point None) then 1 else 0)
    untold None = unmade (made_at q h s.sales)
    untold (Some p) = unmade (made_at q h s.sales)

none_made : (q h : ℕ) → made_at q h no_sales ≡ 0
none_made q h = rw (get-empty nat_cmp q) refl

-- as many as the moments told
pub made_so_far : (c : Configured) (rows : List Row) → IsLegal (opening c) rows → (q h : ℕ)
    → made_at q h (site_of_rows (opening c) rows).sales ≡ count (sells_in q h) (moments_of c rows)
made_so_far c rows legal q h =
    let all = total_moments Known known_more (λ s. made_at q h s.sales)
    (λ m. if sells_in q h m then 1 else 0)
    (made_row q h) [] (opening c) rows (known_first c) legal in
    omega (arith, all, none_made q h)

-- ---- room

-- what is known of rooms: no sale is of a shift to come, no more are unpaid than may be, and a
-- point that is released for a sale may make one
record HasRooms (earlier : List Row) (s : SiteState) : Type 0 where
  known : Known earlier s
  order : NoneLater s
  unpaid : (p : ℕ) → unpaid_at p s.sales ≤ UNPAID_LIMIT
  room : (p : ℕ) → is_released (facts_of s p).state ≡ true → (facts_of s p).test ≡ false
      → MaySell s p

record Rooms (s : SiteState) : Type 0 where
  order : NoneLater s
  unpaid : (p : ℕ) → unpaid_at p s.sales ≤ UNPAID_LIMIT
  room : (p : ℕ) → is_released (facts_of s p).state ≡ true → (facts_of s p).test ≡ false
      → MaySell s p

-- a point that sells may
may_there : (earlier : List Row) (s : SiteState) (a : Actor) (e : Event) (p : ℕ)
    (event : PointEvent)
    → HasRooms earlier s → Passed s a e → own_event s e ≡ Some (p, event)
    → sells (step_of event (facts_of s p)) ≡ true → MaySell s p
may_there earlier s a e p event rooms passes own is =
    let sale = sale_of_step (step_of event (facts_of s p)) is in
    let from = sold_from event (facts_of s p) sale.nozzle sale.volume sale.price sale.prepaid
    (rooms.known.whole p) (own_after s a e p event passes own).1 sale.is in
    rooms.room p (under_way_released (facts_of s p).state from.was) from.sale

unpaid_accepted : (earlier : List Row) (s : SiteState) (a : Actor) (e : Event) → HasRooms earlier s
    → Passed s a e → (q : ℕ) → unpaid_at q (sales_after s a e) ≤ UNPAID_LIMIT
unpaid_accepted earlier s (Till t) SignOff rooms passes = λ q.
    omega (arith, (let_go_counts t q s.sales).unpaid, rooms.unpaid q)
unpaid_accepted earlier s (Till t) (Lock p id) rooms passes = λ q.
    omega (
      arith,
      (asked_counts requests.Lock t (key_named s p id) q s.sales).unpaid,
      rooms.unpaid q,
    )
unpaid_accepted earlier s (Till t) (Unlock p id) rooms passes = λ q.
    omega (
      arith,
      (asked_counts requests.Unlock t (key_named s p id) q s.sales).unpaid,
      rooms.unpaid q,
    )
unpaid_accepted earlier s (Till t) (Clear p id) rooms passes = λ q.
    omega (
      arith,
      (asked_counts (requests.Clear (open_shift s)) t (key_named s p id) q s.sales).unpaid,
      rooms.unpaid q,
    )
unpaid_accepted earlier s a (Offline p) rooms passes =
    unpaid_by s s.nozzles p (step_at s (Offline p))
    (may_there earlier s a (Offline p) p points.Offline rooms passes refl) rooms.unpaid
unpaid_accepted earlier s a (HangUp p n reading) rooms passes =
    unpaid_by s (nozzles_after s (HangUp p n reading)) p (step_at s (HangUp p n reading))
    (may_there earlier s a (HangUp p n reading) p
    (points.HangUp n (flow_since s p n reading)) rooms passes
    refl)
    rooms.unpaid
unpaid_accepted earlier s a e rooms passes = rooms.unpaid

room_accepted : (earlier : List Row) (s : SiteState) (a : Actor) (e : Event) → HasRooms earlier s
    → Passed s a e → (p : ℕ) → is_released (facts_in (points_after s e) p).state ≡ true
    → (facts_in (points_after s e) p).test ≡ false → MaySell (accepted_site s a e) p
room_accepted earlier s a e rooms passes p = by_after (facts_after s a e passes p)
  where
    by_after : FactsAfter s e p → is_released (facts_in (points_after s e) p).state ≡ true
        → (facts_in (points_after s e) p).test ≡ false → MaySell (accepted_site s a e) p
    by_after (stays same away) is sale =
        room_kept s a e p rooms.order
        (counts_after s a e p (λ event own. absurd (away event own)))
        (rooms.room p (ap (λ (f : Facts). is_released f.state) (sym same) ∙ is)
        (ap (λ (f : Facts). f.test) (sym same) ∙ sale))
    by_after (moves event own done taken) is sale =
        room_own s a e p event rooms.order passes own (rooms.known.whole p) (rooms.room p)
        (ap (λ (f : Facts). is_released f.state) (sym done) ∙ is)
        (ap (λ (f : Facts). f.test) (sym done) ∙ sale)

rooms_more : (earlier : List Row) (s : SiteState) (r : Row) → HasRooms earlier s
    → r.reply ≡ reply_to s r.actor r.event
    → HasRooms (earlier ++ r ∷ []) (site_after s r.actor r.event)
rooms_more earlier s r rooms replies =
    let now = of_row (λ row new. Rooms new) s r replies (λ refusal. record {
      order = rooms.order;
      unpaid = rooms.unpaid;
      room = rooms.room;
    }) (λ passes. record {
      order = λ q h later. order_after s r.actor r.event rooms.order q h
          (let shifts = shifts_kept s r.event in omega (arith, shifts, later));
      unpaid = unpaid_accepted earlier s r.actor r.event rooms passes;
      room = room_accepted earlier s r.actor r.event rooms passes;
    }) in
    record {
      known = known_more earlier s r rooms.known replies;
      order = now.order;
      unpaid = now.unpaid;
      room = now.room;
    }

rooms_first : (c : Configured) → HasRooms [] (opening c)
rooms_first c = record {
  known = known_first c;
  order = λ q h later. none_made q h;
  unpaid = λ p. let none : unpaid_at p no_sales ≡ 0 = rw (get-empty nat_cmp p) refl in
      omega (arith, none);
  room = λ p is sale.
      let none : false ≡ true =
      ap (λ (f : Facts). is_released f.state) (sym (opens_closed c p)) ∙ is in
      absurd (false≢true none);
}

rooms_at : (c : Configured) (rows : List Row) → IsLegal (opening c) rows
    → HasRooms rows (site_of_rows (opening c) rows)
rooms_at c rows legal = kept HasRooms rooms_more [] (opening c) rows (rooms_first c) legal

-- ---- every sale

-- a moment that sells
record SellsAt (c : Configured) (before : List Moment) (m : Moment) (k : Key) : Type 0 where
  next : k.number ≡ count (sells_in k.point k.shift) before + 1
  may : MaySell m.before k.point
  made : k.number ≡ made_at k.point (open_shift m.before) m.before.sales + 1

sells_at_name : (c : Configured) (rows : List Row) (before since : List Moment) (m : Moment)
    (k : Key)
    → IsLegal (opening c) rows → moments_of c rows ≡ before ++ m ∷ since → sold_as m ≡ Some k
    → SellsAt c before m k
sells_at_name c rows before since m k legal parts sold =
    let at = placed c rows before since m legal parts in
    let rooms = subst (HasRooms m.earlier) (sym at.led) (rooms_at c m.earlier at.legal) in
    let here = sells_here k m.earlier m.before m.row rooms.known.shift at.told sold in
    let point : here.point ≡ k.point = ap (λ (j : Key). j.point) (sym here.name) in
    let shift : open_shift m.before ≡ k.shift = ap (λ (j : Key). j.shift) (sym here.name) in
    let number : k.number ≡ made_at k.point (open_shift m.before) m.before.sales + 1 =
    ap (λ (j : Key). j.number) here.name
    ∙ ap (λ (p : ℕ). made_at p (open_shift m.before) m.before.sales + 1) point in
    let from = sold_from here.event (facts_of m.before here.point) here.nozzle here.volume
    here.price
    here.prepaid (rooms.known.whole here.point) here.taken here.sells in
    record {
      next = number
          ∙ ap (λ (h : ℕ). made_at k.point h m.before.sales + 1) shift
          ∙ ap (λ (s : SiteState). made_at k.point k.shift s.sales + 1) at.led
          ∙ ap (λ (n : ℕ). n + 1) (made_so_far c m.earlier at.legal k.point k.shift)
          ∙ ap (λ ms. count (sells_in k.point k.shift) ms + 1) (sym at.moments);
      may = subst (MaySell m.before) point (rooms.room here.point
          (under_way_released (facts_of m.before here.point).state from.was) from.sale);
      made = number;
    }

pub numbered : OfBooks AreNumbered
numbered c rows legal = record {
  next = λ k before since m parts sold. (sells_here_at k before since m parts sold).next;
  within = λ k before since m parts sold.
      let at = sells_here_at k before since m parts sold in
      let number = at.may.number in let made = at.made in omega (arith, number, made);
  room = λ k before since m parts sold.
      let at = placed c rows before since m legal parts in
      let may = (sells_here_at k before since m parts sold).may.unpaid in
      let unpaid : unpaid_at k.point m.before.sales + count (clears_at k.point) before
      ≡ count (sells_at k.point) before =
      ap (λ s. unpaid_at k.point s.sales + count (clears_at k.point) before) at.led
      ∙ ap (λ ms. unpaid_at k.point (site_of_rows (opening c) m.earlier).sales
      + count (clears_at k.point) ms) at.moments
      ∙ unpaid_so_far c m.earlier at.legal k.point
      ∙ ap (count (sells_at k.point)) (sym at.moments) in
      omega (arith, may, unpaid);
  few = λ p.
      let most = (rooms_at c rows legal).unpaid p in
      let unpaid = unpaid_so_far c rows legal p in
      omega (arith, most, unpaid);
  unpaid = unpaid_so_far c rows legal;
}
  where
    sells_here_at : (k : Key) (before since : List Moment) (m : Moment)
        → moments_of c rows ≡ before ++ m ∷ since → sold_as m ≡ Some k → SellsAt c before m k
    sells_here_at k before since m parts sold = sells_at_name c rows before since m k legal parts
        sold
