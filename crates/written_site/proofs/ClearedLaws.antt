-- What was cleared of each product in a shift is what the rows tell, for every legal history.
use Rattle.std.proofs.Common.{◌≡◌, ℕ, ◌+◌, ◌==◌, ◌&&◌, Bool, true, false, cond, List, [], ◌∷◌, ◌++◌}
use Rattle.std.proofs.Common.{Option, option_map, Some, None, Result, Ok, Err, refl, sym, ap, ◌∙◌}
use Rattle.std.proofs.Common.{if◌then◌else◌, arith, not}
use Rattle.std.specs.FinMap.{get-empty}
use Rattle.std.specs.Ordering.{nat_cmp}
use Rattle.site_base.specs.declared.actor.Actor.{Actor}
use Rattle.site_base.specs.declared.actor.Actor.TheVariants.{Till, Dispenser}
use Rattle.site_base.specs.declared.event.Event.{Event}
use Rattle.site_base.specs.declared.event.Event.TheVariants.{SignOff, Lock, Unlock, Clear}
use Rattle.site_base.specs.declared.event.Event.TheVariants.{Terminate, ReadTransaction, Lift, Flow}
use Rattle.site_base.specs.declared.event.Event.TheVariants.{Offline, HangUp}
use Rattle.site_base.specs.declared.refusal.Refusal.{Refusal}
use Rattle.site_base.specs.declared.row.Row.{Row}
use Rattle.site_base.specs.Configured.{Configured}
use Rattle.site_base.specs.Events.{point_named}
use Rattle.fuelling_point.specs.declared.event.PointEvent.{PointEvent}
use Rattle.fuelling_point.specs.declared.event.PointEvent.TheVariants as points
use Rattle.fuelling_point.specs.declared.step.PointStep.{PointStep}
use Rattle.fuelling_point.specs.declared.step.PointStep.TheVariants.{Sold}
use Rattle.fuelling_point.specs.Step.{step_of}
use Rattle.transaction_buffer.specs.declared.request.Request.{Request}
use Rattle.transaction_buffer.specs.declared.request.Request.TheVariants as requests
use Rattle.transaction_buffer.specs.declared.standing.Standing.TheVariants.{Payable, LockedBy}
use Rattle.transaction_buffer.specs.declared.standing.Standing.TheVariants.{ClearedBy}
use Rattle.transaction_buffer.specs.Sales.{Key, key, Sale, Sales, no_sales, made_at, next_key}
use Rattle.transaction_buffer.specs.Sales.{same_key, sales_at, sale_of, is_unpaid}
use Rattle.transaction_buffer.specs.Sums.{volume_in, volume_by, volume_with}
use Rattle.transaction_buffer.specs.TransactionTable.{Line, line_for, sale_after}
use Rattle.transaction_buffer.specs.TransactionTable.{sale_after_request, after_request}
use Rattle.transaction_buffer.specs.TransactionTable.{after_sign_off, is_locked_by, unlock_all_of}
use Rattle.transaction_buffer.specs.TransactionTable.{refusal_of, refusal_in, line_of, seen_by}
use Rattle.transaction_buffer.proofs.InShift.{none_next}
use Rattle.transaction_buffer.proofs.Reading.{read_after, one_sale}
use Rattle.transaction_buffer.proofs.Rules.{cleared_by_its_locker, accepted_unpaid}
use Rattle.transaction_buffer.specs.declared.standing.Standing.{Standing}
use Rattle.transaction_buffer.proofs.OnShelves.{nothing_sold}
use Rattle.transaction_buffer.proofs.Volumes.{move as volumes_move}
use Rattle.meters.specs.Nozzles.{Nozzle}
use Rattle.site_base.specs.declared.state.Status.TheVariants as statuses
use Rattle.written_site.proofs.UnpaidRows.{pays, unpaid_in, leaves_unpaid}
use Rattle.written_site.specs.ClearedLaws.{cleared_for, sold_as_told, sold_for, volume_told}
use Rattle.written_site.specs.ClearedLaws.{cleared_while, AreVolumesCleared}
use Rattle.written_site.specs.DrawLaws.{run_at, product_read}
use Rattle.written_site.specs.Histories.{Moment, moments_of}
use Rattle.written_site.specs.RowWords.{OfBooks, open_after}
use Rattle.written_site.specs.SaleWords.{key_sold, number_sold}
use Rattle.written_site.specs.ShiftFigures.{cleared_in}
use Rattle.written_site.specs.SiteChecks.{Passed, own_event, flow_since}
use Rattle.written_site.specs.SiteState.{SiteState, opening, facts_of, key_named, open_shift}
use Rattle.written_site.specs.SiteStep.{site_answer, step_at, step_told, nozzles_after, sales_after}
use Rattle.written_site.specs.SiteStep.{sales_by, sale_made, reply_to, site_after, first_locker}
use Rattle.written_site.specs.Volumes.{product_out, running_at}
use Rattle.written_site.proofs.ClearFigures.{none_cleared_in}
use Rattle.written_site.proofs.FigureMoves.{keeps_clears, has_clear, new_unpaid}
use Rattle.written_site.proofs.Lockers.{named_so}
use Rattle.written_site.proofs.MomentRows.{moments_push}
use Rattle.written_site.proofs.RowFacts.{own_after}
use Rattle.written_site.proofs.RowWords.{told_row, of_row, total_push}
use Rattle.written_site.proofs.RunRows.{KnowsRuns, runs_more, runs_first, product_so, run_so}
use Rattle.written_site.proofs.SlotRows.{moment_at}
use Rattle.written_site.proofs.SoldRows.{counted}
use Rattle.written_site.proofs.SoundMachine.{sold_from}
use Rattle.written_site.proofs.SoundTables.{turned}
use Rattle.written_site.proofs.ToldAnswers.{never_sold}

-- the millilitres of product q in a sale, if there is one
abbrev volume_if : ℕ → Option Sale → ℕ
volume_if q None = 0
volume_if q (Some x) = volume_in q x

-- of the transaction of this name
abbrev volume_named : ℕ → Key → Sales → ℕ
volume_named q k sales = volume_if q (sale_of k sales)

-- ---- how a sale stands isn't its volume

asked_volume : (q : ℕ) (request : Request) (t : ℕ) (o : Option Sale)
    → volume_if q (option_map (sale_after_request request t) o) ≡ volume_if q o
asked_volume q request t None = refl
asked_volume q request t (Some x) = by_line (line_for request t x)
  where
    by_line : (l : Result Line Refusal) → volume_in q (sale_after l x) ≡ volume_in q x
    by_line (Ok l) = refl
    by_line (Err refusal) = refl

asked_keeps : (q : ℕ) (request : Request) (t : ℕ) (j k : Key) (sales : Sales)
    → volume_named q k (after_request request t j sales) ≡ volume_named q k sales
asked_keeps q request t j k sales =
    ap (volume_if q) (read_after.asked_for t request j k sales) ∙ by_name (same_key k j)
  where
    by_name : (b : Bool)
        → volume_if q (cond b (option_map (sale_after_request request t) (sale_of k sales))
        (sale_of k sales)) ≡ volume_named q k sales
    by_name true = asked_volume q request t (sale_of k sales)
    by_name false = refl

let_go_volume : (q t : ℕ) (o : Option Sale)
    → volume_if q (option_map (unlock_all_of t) o) ≡ volume_if q o
let_go_volume q t None = refl
let_go_volume q t (Some x) = by_test (is_locked_by t x.standing)
  where
    by_test : (b : Bool)
        → volume_in q (cond b (record x { standing = Payable }) x) ≡ volume_in q x
    by_test true = refl
    by_test false = refl

signed_off_keeps : (q t : ℕ) (k : Key) (sales : Sales)
    → volume_named q k (after_sign_off t sales) ≡ volume_named q k sales
signed_off_keeps q t k sales =
    ap (volume_if q) (read_after.signed_off t k sales) ∙ let_go_volume q t (sale_of k sales)

-- ---- one row

nothing_more : (v : ℕ) → v ≡ v + 0
nothing_more v = omega arith

sold_none : (c : Configured) (q v : ℕ) (k : Key) (earlier : List Row) (m : Moment) (p : ℕ)
    (o : Option ℕ)
    → o ≡ None → v ≡ v + sold_as_told c q k (key_sold earlier (Some p) o) m
sold_none c q v k earlier m p o none =
    nothing_more v
    ∙ ap (λ x. v + sold_as_told c q k (key_sold earlier (Some p) x) m) (sym none)

sale_adds : (a b d : Bool) (v old : ℕ) → (a ≡ true → old ≡ 0) → b ≡ d
    → ◌≡◌ {A = ℕ} (if a then (if b then v else 0) else old) (old + (if a && d then v else 0))
sale_adds true b d v old none same =
    let nothing = none refl in
    ap (λ (x : Bool). if x then v else 0) same ∙ omega (arith, nothing)
sale_adds false b d v old none same = omega arith

module _ (c : Configured) (earlier : List Row) (s : SiteState) (a : Actor) (e : Event)
    (known : KnowsRuns c earlier s) (passes : Passed s a e) where
  abbrev m : Moment
  m = moment_at earlier s (told_row a e (Ok (site_answer s e)))

  run_here : (p : ℕ) (event : PointEvent) → own_event s e ≡ Some (p, event)
      → (nozzle volume price : ℕ) (prepaid : Option ℕ)
      → step_of event (facts_of s p) ≡ Sold nozzle volume price prepaid
      → running_at (nozzles_after s e) p (facts_of s p) ≡ run_at c p m
  run_here p event own nozzle volume price prepaid is =
      run_so c earlier s a e known passes p event own
      (sold_from event (facts_of s p) nozzle volume price prepaid (known.volumes.fuel.known.whole p)
      (own_after s a e p event passes own).1 is).was

  sold_step : (q : ℕ) (k : Key) (p growth : ℕ) (event : PointEvent) → own_event s e ≡ Some
      (p, event)
      → (step : PointStep) → step_of event (facts_of s p) ≡ step
      → volume_named q k (sales_by s (nozzles_after s e) p step)
      ≡ volume_named q k s.sales
      + sold_as_told c q k (key_sold earlier (Some p)
      (number_sold (Ok (step_told s p growth step)))) m
  sold_step q k p growth event own (Sold nozzle volume price prepaid) is =
      let x : Sale = sale_made s (nozzles_after s e) p in
      let n : ℕ = made_at p (open_shift s) s.sales + 1 in
      ap (volume_if q) (read_after.sold p x k s.sales)
      ∙ by_cond (same_key k (next_key p (open_shift s) s.sales))
      ∙ sale_adds (same_key k (next_key p (open_shift s) s.sales))
      (product_out (nozzles_after s e) p (facts_of s p) == q) (product_read c p earlier == q)
      (running_at (nozzles_after s e) p (facts_of s p)) (volume_named q k s.sales)
      (λ named. ap (volume_if q) (one_sale k (next_key p (open_shift s) s.sales) s.sales named
      ∙ none_next (open_shift s) (sales_at p s.sales)))
      (ap (λ (r : ℕ). r == q) (product_so c earlier s e known p))
      ∙ ap (λ (v : ℕ). volume_named q k s.sales
      + (if same_key k (key (open_shift s) p n) && product_read c p earlier == q then v else 0))
      (run_here p event own nozzle volume price prepaid is)
      ∙ ap (λ (h : ℕ). volume_named q k s.sales
      + (if same_key k (key h p n) && product_read c p earlier == q then run_at c p m else 0))
      known.volumes.fuel.known.shift
    where
      by_cond : (b : Bool)
          → volume_if q (cond b (Some (sale_made s (nozzles_after s e) p)) (sale_of k s.sales))
          ≡ (if b then volume_in q (sale_made s (nozzles_after s e) p) else volume_named q k
          s.sales)
      by_cond true = refl
      by_cond false = refl
  sold_step q k p growth event own step is = nothing_more (volume_named q k s.sales)

named_accepted : (q : ℕ) (k : Key) (c : Configured) (earlier : List Row) (s : SiteState) (a : Actor)
    (e : Event) → KnowsRuns c earlier s → Passed s a e
    → volume_named q k (sales_after s a e)
    ≡ volume_named q k s.sales
    + sold_for c q k (moment_at earlier s (told_row a e (Ok (site_answer s e))))
named_accepted q k c earlier s (Till t) SignOff known passes =
    signed_off_keeps q t k s.sales ∙ nothing_more (volume_named q k s.sales)
named_accepted q k c earlier s (Till t) (Lock p id) known passes =
    asked_keeps q requests.Lock t (key_named s p id) k s.sales ∙ nothing_more
    (volume_named q k s.sales)
named_accepted q k c earlier s (Till t) (Unlock p id) known passes =
    asked_keeps q requests.Unlock t (key_named s p id) k s.sales
    ∙ nothing_more (volume_named q k s.sales)
named_accepted q k c earlier s (Till t) (Clear p id) known passes =
    asked_keeps q (requests.Clear (open_shift s)) t (key_named s p id) k s.sales
    ∙ sold_none c q (volume_named q k s.sales) k earlier _ p _ (never_sold s (Clear p id) refl)
named_accepted q k c earlier s a (Offline p) known passes =
    sold_step c earlier s a (Offline p) known passes q k p 0 points.Offline refl
    (step_at s (Offline p))
    refl
named_accepted q k c earlier s a (HangUp p n reading) known passes =
    sold_step c earlier s a (HangUp p n reading) known passes q k p (flow_since s p n reading)
    (points.HangUp n (flow_since s p n reading)) refl (step_at s (HangUp p n reading)) refl
named_accepted q k c earlier s a (Clear p id) known passes =
    sold_none c q (volume_named q k s.sales) k earlier _ p _ (never_sold s (Clear p id) refl)
named_accepted q k c earlier s a (Terminate p) known passes =
    sold_none c q (volume_named q k s.sales) k earlier _ p _ (never_sold s (Terminate p) refl)
named_accepted q k c earlier s a (Lift p n reading) known passes =
    sold_none c q (volume_named q k s.sales) k earlier _ p _ (never_sold s (Lift p n reading) refl)
named_accepted q k c earlier s a (Flow p n reading) known passes =
    sold_none c q (volume_named q k s.sales) k earlier _ p _ (never_sold s (Flow p n reading) refl)
named_accepted q k c earlier s a (ReadTransaction p id) known passes =
    sold_none c q (volume_named q k s.sales) k earlier _ p _
    (never_sold s (ReadTransaction p id) refl)
named_accepted q k c earlier s a e known passes = nothing_more (volume_named q k s.sales)

named_row : (q : ℕ) (k : Key) (c : Configured) (earlier : List Row) (s : SiteState) (r : Row)
    → KnowsRuns c earlier s → r.reply ≡ reply_to s r.actor r.event
    → volume_named q k (site_after s r.actor r.event).sales
    ≡ volume_named q k s.sales + sold_for c q k (moment_at earlier s r)
named_row q k c earlier s r known replies =
    of_row (λ row new. volume_named q k new.sales
    ≡ volume_named q k s.sales + sold_for c q k (moment_at earlier s row)) s r replies
    (λ refusal. untold refusal (point_named r.event))
    (λ passes. named_accepted q k c earlier s r.actor r.event known passes)
  where
    untold : (refusal : Refusal) (point : Option ℕ)
        → volume_named q k s.sales
        ≡ volume_named q k s.sales + sold_as_told c q k (key_sold earlier point None)
        (moment_at earlier s (told_row r.actor r.event (Err refusal)))
    untold refusal None = nothing_more (volume_named q k s.sales)
    untold refusal (Some p) = nothing_more (volume_named q k s.sales)

-- ---- what is known

record KnowsSales (c : Configured) (earlier : List Row) (s : SiteState) : Type 0 where
  runs : KnowsRuns c earlier s
  volumes : (q : ℕ) (k : Key) → volume_named q k s.sales ≡ volume_told c q k (moments_of c earlier)

sales_more : (c : Configured) (earlier : List Row) (s : SiteState) (r : Row)
    → KnowsSales c earlier s → r.reply ≡ reply_to s r.actor r.event
    → KnowsSales c (earlier ++ r ∷ []) (site_after s r.actor r.event)
sales_more c earlier s r known replies = record {
  runs = runs_more c earlier s r known.runs replies;
  volumes = λ q k.
      named_row q k c earlier s r known.runs replies
      ∙ ap (λ (v : ℕ). v + sold_for c q k (moment_at earlier s r)) (known.volumes q k)
      ∙ sym (total_push (sold_for c q k) (moments_of c earlier) (moment_at earlier s r))
      ∙ sym (ap (volume_told c q k) later);
}
  where
    later : moments_of c (earlier ++ r ∷ []) ≡ moments_of c earlier ++ moment_at earlier s r ∷ []
    later = moments_push [] (opening c) earlier r
        ∙ ap (λ y. moments_of c earlier ++ moment_at earlier y r ∷ [])
        (sym known.runs.volumes.fuel.led)

sales_first : (c : Configured) → KnowsSales c [] (opening c)
sales_first c = record {
  runs = runs_first c;
  volumes = λ q k. none_named q k;
}
  where
    none_named : (q : ℕ) (k : Key) → volume_named q k no_sales ≡ 0
    none_named q k = rw (get-empty nat_cmp k.point) refl

-- ---- a clear

clear_adds : (a b d e : Bool) (v : ℕ) → a ≡ b → d ≡ e
    → ◌≡◌ {A = ℕ} (if a && d then v else 0) (if b then (if e then v else 0) else 0)
clear_adds true b d e v same same' =
    ap (λ (x : Bool). if x then v else 0) same'
    ∙ ap (λ (x : Bool). if x then (if e then v else 0) else 0) same
clear_adds false b d e v same same' =
    ap (λ (x : Bool). if x then (if e then v else 0) else 0) same

unmoved : (v : ℕ) (b : Bool) → v ≡ v + (if b then 0 else 0)
unmoved v true = omega arith
unmoved v false = omega arith

cleared_accepted : (h q : ℕ) (c : Configured) (earlier : List Row) (s : SiteState) (a : Actor)
    (e : Event) → KnowsSales c earlier s → Passed s a e
    → cleared_in h q (sales_after s a e)
    ≡ cleared_in h q s.sales
    + cleared_while c h q (moment_at earlier s (told_row a e (Ok (site_answer s e))))
cleared_accepted h q c earlier s (Till t) (Clear p id) known passes =
    let k : Key = key_named s p id in
    let clear = cleared_by_its_locker t (open_shift s) k s.sales passes.pays in
    let x : Sale = clear.0 in
    let shift = known.runs.volumes.fuel.known.shift in
    (has_clear s t p id x clear.1.there passes.pays).cleared h q
    ∙ ap (λ (v : ℕ). cleared_in h q s.sales + v)
    (clear_adds (h == open_shift s) (open_after earlier == h) (q == x.product)
    (x.product == q) x.volume
    (turned h (open_shift s) ∙ ap (λ (g : ℕ). g == h) shift) (turned q x.product)
    ∙ ap (λ (v : ℕ). if open_after earlier == h then v else 0)
    (sym (ap (volume_if q) clear.1.there) ∙ known.volumes q k
    ∙ ap (λ (j : Key). volume_told c q j (moments_of c earlier)) (named_so earlier s p id shift)))
cleared_accepted h q c earlier s (Dispenser d) (Clear p id) known passes =
    (let asks = passes.asks in absurd cc)
cleared_accepted h q c earlier s a e known passes =
    (keeps_clears s a e refl).cleared h q ∙ unmoved (cleared_in h q s.sales)
    (open_after earlier == h)

cleared_row : (h q : ℕ) (c : Configured) (earlier : List Row) (s : SiteState) (r : Row)
    → KnowsSales c earlier s → r.reply ≡ reply_to s r.actor r.event
    → cleared_in h q (site_after s r.actor r.event).sales
    ≡ cleared_in h q s.sales + cleared_while c h q (moment_at earlier s r)
cleared_row h q c earlier s r known replies =
    of_row (λ row new. cleared_in h q new.sales
    ≡ cleared_in h q s.sales + cleared_while c h q (moment_at earlier s row)) s r replies
    (λ refusal. unmoved (cleared_in h q s.sales) (open_after earlier == h))
    (λ passes. cleared_accepted h q c earlier s r.actor r.event known passes)

-- ---- what is cleared in all

-- only a sale that isn't unpaid counts as cleared
cleared_or : (q : ℕ) (x : Sale) (y : Standing)
    → volume_with q statuses.Cleared (record x { standing = y })
    ≡ (if is_unpaid y then 0 else volume_in q x)
cleared_or q x Payable = none_of (x.product == q) x.volume
  where
    none_of : (b : Bool) (v : ℕ) → ◌≡◌ {A = ℕ} (if b && false then v else 0) 0
    none_of true v = refl
    none_of false v = refl
cleared_or q x (LockedBy t) = none_of (x.product == q) x.volume
  where
    none_of : (b : Bool) (v : ℕ) → ◌≡◌ {A = ℕ} (if b && false then v else 0) 0
    none_of true v = refl
    none_of false v = refl
cleared_or q x (ClearedBy t h) = all_of (x.product == q) x.volume
  where
    all_of : (b : Bool) (v : ℕ) → ◌≡◌ {A = ℕ} (if b && true then v else 0) (if b then v else 0)
    all_of true v = refl
    all_of false v = refl

asked_cleared : (request : Request) (t q : ℕ) (j : Key) (sales : Sales)
    → refusal_of request t j sales ≡ None
    → volume_by q statuses.Cleared (after_request request t j sales)
    ≡ volume_by q statuses.Cleared sales
    + (if not (pays request) then 0 else volume_named q j sales)
asked_cleared request t q j sales accepted = by_sale (sale_of j sales) refl accepted
  where
    by_line : (x : Sale) (l : Result Line Refusal) → sale_of j sales ≡ Some x
        → line_for request t x ≡ l → refusal_in l ≡ None
        → volume_by q statuses.Cleared (after_request request t j sales)
        ≡ volume_by q statuses.Cleared sales
        + (if unpaid_in l then 0 else volume_named q j sales)
    by_line x (Ok l) there is accepted =
        let moves = volumes_move.by_request q statuses.Cleared t request j x sales there in
        let before : volume_with q statuses.Cleared x ≡ 0 =
        cleared_or q x x.standing
        ∙ ap (λ (b : Bool). if b then 0 else volume_in q x) (accepted_unpaid request t x l is) in
        let after : volume_with q statuses.Cleared (sale_after_request request t x)
        ≡ (if is_unpaid l.leaves then 0 else volume_named q j sales) =
        ap (λ y. volume_with q statuses.Cleared (sale_after y x)) is
        ∙ cleared_or q x l.leaves
        ∙ ap (λ (v : ℕ). if is_unpaid l.leaves then 0 else v)
        (sym (ap (volume_if q) there)) in
        omega (arith, moves, before, after)
    by_line x (Err refusal) there is accepted = cc

    by_sale : (o : Option Sale) → sale_of j sales ≡ o
        → refusal_in (line_of request t o) ≡ None
        → volume_by q statuses.Cleared (after_request request t j sales)
        ≡ volume_by q statuses.Cleared sales
        + (if not (pays request) then 0 else volume_named q j sales)
    by_sale None there accepted = cc
    by_sale (Some x) there accepted =
        by_line x (line_for request t x) there refl accepted
        ∙ ap (λ (b : Bool). volume_by q statuses.Cleared sales
        + (if b then 0 else volume_named q j sales))
        (leaves_unpaid request t x.cents (seen_by t x.standing) accepted)

sold_cleared : (q : ℕ) (s : SiteState) (nozzles : List Nozzle) (p : ℕ) (step : PointStep)
    → volume_by q statuses.Cleared (sales_by s nozzles p step)
    ≡ volume_by q statuses.Cleared s.sales + 0
sold_cleared q s nozzles p (Sold nozzle volume price prepaid) =
    let x : Sale = sale_made s nozzles p in
    let none : volume_with q statuses.Cleared x ≡ 0 =
    cleared_or q x x.standing
    ∙ ap (λ (b : Bool). if b then 0 else volume_in q x)
    (new_unpaid (first_locker s p (facts_of s p).prepaid)) in
    let more = volumes_move.by_sale q statuses.Cleared p x s.sales in
    omega (arith, more, none)
sold_cleared q s nozzles p step = omega arith

all_accepted : (q : ℕ) (c : Configured) (earlier : List Row) (s : SiteState) (a : Actor) (e : Event)
    → KnowsSales c earlier s → Passed s a e
    → volume_by q statuses.Cleared (sales_after s a e)
    ≡ volume_by q statuses.Cleared s.sales
    + cleared_for c q (moment_at earlier s (told_row a e (Ok (site_answer s e))))
all_accepted q c earlier s (Till t) SignOff known passes =
    volumes_move.cleared_at_sign_off q t s.sales
    ∙ nothing_more (volume_by q statuses.Cleared s.sales)
all_accepted q c earlier s (Till t) (Lock p id) known passes =
    asked_cleared requests.Lock t q (key_named s p id) s.sales passes.pays
all_accepted q c earlier s (Till t) (Unlock p id) known passes =
    asked_cleared requests.Unlock t q (key_named s p id) s.sales passes.pays
all_accepted q c earlier s (Till t) (Clear p id) known passes =
    let shift = known.runs.volumes.fuel.known.shift in
    asked_cleared (requests.Clear (open_shift s)) t q (key_named s p id) s.sales passes.pays
    ∙ ap (λ (v : ℕ). volume_by q statuses.Cleared s.sales + v)
    (known.volumes q (key_named s p id)
    ∙ ap (λ (j : Key). volume_told c q j (moments_of c earlier)) (named_so earlier s p id shift))
all_accepted q c earlier s (Dispenser d) (Clear p id) known passes =
    (let asks = passes.asks in absurd cc)
all_accepted q c earlier s a (Offline p) known passes =
    sold_cleared q s s.nozzles p (step_at s (Offline p))
all_accepted q c earlier s a (HangUp p n reading) known passes =
    sold_cleared q s (nozzles_after s (HangUp p n reading)) p (step_at s (HangUp p n reading))
all_accepted q c earlier s a e known passes = nothing_more (volume_by q statuses.Cleared s.sales)

all_row : (q : ℕ) (c : Configured) (earlier : List Row) (s : SiteState) (r : Row)
    → KnowsSales c earlier s → r.reply ≡ reply_to s r.actor r.event
    → volume_by q statuses.Cleared (site_after s r.actor r.event).sales
    ≡ volume_by q statuses.Cleared s.sales + cleared_for c q (moment_at earlier s r)
all_row q c earlier s r known replies =
    of_row (λ row new. volume_by q statuses.Cleared new.sales
    ≡ volume_by q statuses.Cleared s.sales + cleared_for c q (moment_at earlier s row)) s r replies
    (λ refusal. nothing_more (volume_by q statuses.Cleared s.sales))
    (λ passes. all_accepted q c earlier s r.actor r.event known passes)

pub volumes_cleared : OfBooks AreVolumesCleared
volumes_cleared c rows legal = record {
  cleared = λ h q.
      counted (KnowsSales c) (sales_more c) (λ s. cleared_in h q s.sales) (cleared_while c h q)
      (cleared_row h q c) c rows (sales_first c) legal (none_cleared_in h q);
  all = λ q.
      counted (KnowsSales c) (sales_more c) (λ s. volume_by q statuses.Cleared s.sales)
      (cleared_for c q) (all_row q c) c rows (sales_first c) legal
      (nothing_sold (volume_with q statuses.Cleared));
}
