-- The unpaid sales of a point are those that rows sold and no row has cleared.
use Rattle.std.proofs.Common.{◌≡◌, ℕ, ◌+◌, ◌==◌, not, Bool, true, false, cond, List, [], ◌∷◌, ◌++◌}
use Rattle.std.proofs.Common.{Option, Some, None, Result, Ok, Err, refl, sym, ap, ◌∙◌}
use Rattle.std.proofs.Common.{if◌then◌else◌, arith}
use Rattle.std.specs.FinMap.{get-empty}
use Rattle.std.specs.Ordering.{nat_cmp}
use Rattle.site_base.specs.declared.actor.Actor.{Actor}
use Rattle.site_base.specs.declared.actor.Actor.TheVariants.{Till, Dispenser}
use Rattle.site_base.specs.declared.event.Event.{Event}
use Rattle.site_base.specs.declared.event.Event.TheVariants.{SignOff, Lock, Unlock, Clear}
use Rattle.site_base.specs.declared.event.Event.TheVariants.{Terminate, ReadTransaction, Lift, Flow}
use Rattle.site_base.specs.declared.event.Event.TheVariants.{Offline, HangUp}
use Rattle.site_base.specs.declared.refusal.Refusal.{Refusal}
use Rattle.site_base.specs.declared.row.Row.{Row}
use Rattle.site_base.specs.Configured.{Configured}
use Rattle.site_base.specs.Events.{point_named}
use Rattle.fuelling_point.specs.declared.step.PointStep.{PointStep}
use Rattle.fuelling_point.specs.declared.step.PointStep.TheVariants.{Sold}
use Rattle.meters.specs.Nozzles.{Nozzle}
use Rattle.transaction_buffer.specs.declared.request.Request.{Request}
use Rattle.transaction_buffer.specs.declared.request.Request.TheVariants as requests
use Rattle.transaction_buffer.specs.Sales.{Key, Sale, Sales, no_sales, is_unpaid, sales_at, sale_of}
use Rattle.transaction_buffer.specs.Sales.{unpaid_among, unpaid_at, with_in, with_sale}
use Rattle.transaction_buffer.specs.TransactionTable.{Line, Seen, payable, locked_by_it}
use Rattle.transaction_buffer.specs.TransactionTable.{locked_by_other, cleared_by, line, line_for}
use Rattle.transaction_buffer.specs.TransactionTable.{line_of, seen_by, refusal_in, refusal_of}
use Rattle.transaction_buffer.specs.TransactionTable.{after_at, after_line, after_request}
use Rattle.transaction_buffer.proofs.Counting.{counted_after}
use Rattle.transaction_buffer.proofs.Reading.{sales_at_insert}
use Rattle.transaction_buffer.proofs.Rules.{accepted_unpaid}
use Rattle.transaction_buffer.proofs.Unpaid.{unpaid_moved}
use Rattle.written_site.specs.Histories.{Moment, moments_of}
use Rattle.written_site.specs.NumberLaws.{is_key_at, sells_at, clears_at}
use Rattle.written_site.specs.RowWords.{count}
use Rattle.written_site.specs.SaleWords.{key_sold, number_sold}
use Rattle.written_site.specs.SiteChecks.{Passed, flow_since}
use Rattle.written_site.specs.SiteRun.{site_of_rows, IsLegal}
use Rattle.written_site.specs.SiteState.{SiteState, opening, facts_of, key_named, open_shift}
use Rattle.written_site.specs.SiteStep.{site_answer, step_at, step_told, first_locker}
use Rattle.written_site.specs.SiteStep.{nozzles_after, sales_after, sales_by, sale_made, reply_to}
use Rattle.written_site.specs.SiteStep.{site_after}
use Rattle.written_site.proofs.FigureMoves.{new_unpaid}
use Rattle.written_site.proofs.Histories.{site_of_rows-push}
use Rattle.written_site.proofs.MomentRows.{moments_push}
use Rattle.written_site.proofs.RowWords.{told_row, of_row, kept, total_push}
use Rattle.written_site.proofs.SlotRows.{moment_at}
use Rattle.written_site.proofs.SoundTables.{same, turned}
use Rattle.written_site.proofs.ToldAnswers.{never_sold}

-- ---- an accepted request

-- a transaction is unpaid afterwards but for a clear
abbrev pub pays : Request → Bool
pays (requests.Clear h) = true
pays request = false

abbrev pub unpaid_in : Result Line Refusal → Bool
unpaid_in (Ok l) = is_unpaid l.leaves
unpaid_in (Err refusal) = true

pub leaves_unpaid : (request : Request) (t cents : ℕ) (v : Seen)
    → refusal_in (line request t cents v) ≡ None
    → unpaid_in (line request t cents v) ≡ not (pays request)
leaves_unpaid requests.Lock t cents payable accepted = refl
leaves_unpaid requests.Lock t cents locked_by_it accepted = refl
leaves_unpaid requests.Lock t cents (locked_by_other u) accepted = cc
leaves_unpaid requests.Lock t cents (cleared_by u) accepted = cc
leaves_unpaid requests.Unlock t cents payable accepted = cc
leaves_unpaid requests.Unlock t cents locked_by_it accepted = refl
leaves_unpaid requests.Unlock t cents (locked_by_other u) accepted = cc
leaves_unpaid requests.Unlock t cents (cleared_by u) accepted = cc
leaves_unpaid (requests.Clear h) t cents payable accepted = cc
leaves_unpaid (requests.Clear h) t cents locked_by_it accepted = refl
leaves_unpaid (requests.Clear h) t cents (locked_by_other u) accepted = cc
leaves_unpaid (requests.Clear h) t cents (cleared_by u) accepted = cc

-- one sale in the place of another that is unpaid
moved_at : (q : ℕ) (j : Key) (x y : Sale) (sales : Sales) → sale_of j sales ≡ Some x
    → is_unpaid x.standing ≡ true
    → unpaid_at q (with_sale j y sales) + (if q == j.point then 1 else 0)
    ≡ unpaid_at q sales
    + (if q == j.point then (if is_unpaid y.standing then 1 else 0) else 0)
moved_at q j x y sales there unpaid =
    ap (λ (xs : List Sale). unpaid_among xs + (if q == j.point then 1 else 0))
    (sales_at_insert sales j.point (with_in j.shift j.number y (sales_at j.point sales)) q)
    ∙ by_point (q == j.point) refl
  where
    by_point : (b : Bool) → (q == j.point) ≡ b
        → unpaid_among (cond b (with_in j.shift j.number y (sales_at j.point sales))
        (sales_at q sales)) + (if b then 1 else 0)
        ≡ unpaid_at q sales + (if b then (if is_unpaid y.standing then 1 else 0) else 0)
    by_point true at =
        unpaid_moved j.shift j.number (sales_at j.point sales) x y there unpaid
        ∙ ap (λ (r : ℕ). unpaid_at r sales + (if is_unpaid y.standing then 1 else 0))
        (sym (same q j.point at))
    by_point false at = refl

asked_unpaid : (request : Request) (t q : ℕ) (j : Key) (sales : Sales)
    → refusal_of request t j sales ≡ None
    → unpaid_at q (after_request request t j sales) + (if q == j.point then 1 else 0)
    ≡ unpaid_at q sales + (if q == j.point then (if not (pays request) then 1 else 0) else 0)
asked_unpaid request t q j sales accepted = by_sale (sale_of j sales) refl accepted
  where
    by_line : (x : Sale) (l : Result Line Refusal) → sale_of j sales ≡ Some x
        → line_for request t x ≡ l → refusal_in l ≡ None
        → unpaid_at q (after_line j x l sales) + (if q == j.point then 1 else 0)
        ≡ unpaid_at q sales + (if q == j.point then (if unpaid_in l then 1 else 0) else 0)
    by_line x (Ok l) there is accepted =
        moved_at q j x (record x { standing = l.leaves }) sales there
        (accepted_unpaid request t x l is)
    by_line x (Err refusal) there is accepted = cc

    by_sale : (o : Option Sale) → sale_of j sales ≡ o
        → refusal_in (line_of request t o) ≡ None
        → unpaid_at q (after_at request t j o sales) + (if q == j.point then 1 else 0)
        ≡ unpaid_at q sales + (if q == j.point then (if not (pays request) then 1 else 0) else 0)
    by_sale None there accepted = cc
    by_sale (Some x) there accepted =
        by_line x (line_for request t x) there refl accepted
        ∙ ap (λ (b : Bool). unpaid_at q sales + (if q == j.point then (if b then 1 else 0) else 0))
        (leaves_unpaid request t x.cents (seen_by t x.standing) accepted)

-- ---- one row

-- how a row changes the unpaid sales of point q
abbrev Balances : ℕ → Sales → Sales → Bool → Bool → Type 0
Balances q old new clears sells =
    unpaid_at q new + (if clears then 1 else 0) ≡ unpaid_at q old + (if sells then 1 else 0)

stays_so : (q : ℕ) (old new : Sales) → unpaid_at q new ≡ unpaid_at q old
    → Balances q old new false false
stays_so q old new is = omega (arith, is)

nothing_sold : (q : ℕ) (sales : Sales) (earlier : List Row) (p : ℕ) (o : Option ℕ) → o ≡ None
    → Balances q sales sales false (is_key_at q (key_sold earlier (Some p) o))
nothing_sold q sales earlier p o none =
    ap (λ x. unpaid_at q sales + (if is_key_at q (key_sold earlier (Some p) x) then 1 else 0))
    (sym none)

kept_by : (q p n m : ℕ) → m + (if q == p then 1 else 0) ≡ n + (if q == p then 1 else 0)
    → m + 0 ≡ n + 0
kept_by q p n m is = by_test (q == p) is
  where
    by_test : (b : Bool) → m + (if b then 1 else 0) ≡ n + (if b then 1 else 0) → m + 0 ≡ n + 0
    by_test true is = omega (arith, is)
    by_test false is = is

paid_by : (q p n m : ℕ) → m + (if q == p then 1 else 0) ≡ n + (if q == p then 0 else 0)
    → m + (if p == q then 1 else 0) ≡ n + 0
paid_by q p n m is =
    ap (λ (b : Bool). m + (if b then 1 else 0)) (turned p q) ∙ is ∙ by_test (q == p)
  where
    by_test : (b : Bool) → n + (if b then 0 else 0) ≡ n + 0
    by_test true = refl
    by_test false = refl

sells_by : (q : ℕ) (earlier : List Row) (s : SiteState) (nozzles : List Nozzle) (p growth : ℕ)
    (step : PointStep)
    → Balances q s.sales (sales_by s nozzles p step) false
    (is_key_at q (key_sold earlier (Some p) (number_sold (Ok (step_told s p growth step)))))
sells_by q earlier s nozzles p growth (Sold nozzle volume price prepaid) =
    let one = counted_after.unpaid_sold p (sale_made s nozzles p) q s.sales in
    let new = new_unpaid (first_locker s p (facts_of s p).prepaid) in
    ap (λ (v : ℕ). v + 0)
    (one ∙ ap (λ (b : Bool). if q == p then unpaid_at q s.sales + (if b then 1 else 0)
    else unpaid_at q s.sales) new)
    ∙ by_test (q == p)
    ∙ ap (λ (b : Bool). unpaid_at q s.sales + (if b then 1 else 0)) (turned q p)
  where
    by_test : (b : Bool)
        → (if b then unpaid_at q s.sales + 1 else unpaid_at q s.sales) + 0
        ≡ unpaid_at q s.sales + (if b then 1 else 0)
    by_test true = omega arith
    by_test false = refl
sells_by q earlier s nozzles p growth step = refl

balances_accepted : (q : ℕ) (earlier : List Row) (s : SiteState) (a : Actor) (e : Event)
    → Passed s a e
    → Balances q s.sales (sales_after s a e)
    (clears_at q (moment_at earlier s (told_row a e (Ok (site_answer s e)))))
    (sells_at q (moment_at earlier s (told_row a e (Ok (site_answer s e)))))
balances_accepted q earlier s (Till t) SignOff passes =
    ap (λ (v : ℕ). v + 0) (counted_after.unpaid_signed_off t q s.sales)
balances_accepted q earlier s (Till t) (Lock p id) passes =
    kept_by q p (unpaid_at q s.sales) _
    (asked_unpaid requests.Lock t q (key_named s p id) s.sales passes.pays)
balances_accepted q earlier s (Till t) (Unlock p id) passes =
    kept_by q p (unpaid_at q s.sales) _
    (asked_unpaid requests.Unlock t q (key_named s p id) s.sales passes.pays)
balances_accepted q earlier s (Till t) (Clear p id) passes =
    paid_by q p (unpaid_at q s.sales) _
    (asked_unpaid (requests.Clear (open_shift s)) t q (key_named s p id) s.sales passes.pays)
    ∙ ap (λ x. unpaid_at q s.sales + (if is_key_at q (key_sold earlier (Some p) x) then 1 else 0))
    (sym (never_sold s (Clear p id) refl))
balances_accepted q earlier s (Dispenser d) (Clear p id) passes =
    (let asks = passes.asks in absurd cc)
balances_accepted q earlier s a (Offline p) passes =
    sells_by q earlier s s.nozzles p 0 (step_at s (Offline p))
balances_accepted q earlier s a (HangUp p n reading) passes =
    sells_by q earlier s (nozzles_after s (HangUp p n reading)) p (flow_since s p n reading)
    (step_at s (HangUp p n reading))
balances_accepted q earlier s a (Terminate p) passes =
    nothing_sold q s.sales earlier p _ (never_sold s (Terminate p) refl)
balances_accepted q earlier s a (Lift p n reading) passes =
    nothing_sold q s.sales earlier p _ (never_sold s (Lift p n reading) refl)
balances_accepted q earlier s a (Flow p n reading) passes =
    nothing_sold q s.sales earlier p _ (never_sold s (Flow p n reading) refl)
balances_accepted q earlier s a (ReadTransaction p id) passes =
    nothing_sold q s.sales earlier p _ (never_sold s (ReadTransaction p id) refl)
balances_accepted q earlier s a e passes = refl

balances_row : (q : ℕ) (earlier : List Row) (s : SiteState) (r : Row)
    → r.reply ≡ reply_to s r.actor r.event
    → Balances q s.sales (site_after s r.actor r.event).sales (clears_at q (moment_at earlier s r))
    (sells_at q (moment_at earlier s r))
balances_row q earlier s r replies =
    of_row (λ row new. Balances q s.sales new.sales (clears_at q (moment_at earlier s row))
    (sells_at q (moment_at earlier s row))) s r replies
    (λ refusal. untold (point_named r.event))
    (λ passes. balances_accepted q earlier s r.actor r.event passes)
  where
    untold : (point : Option ℕ)
        → Balances q s.sales s.sales false (is_key_at q (key_sold earlier point None))
    untold None = refl
    untold (Some p) = refl

-- ---- all rows

record KnowsUnpaid (c : Configured) (earlier : List Row) (s : SiteState) : Type 0 where
  led : s ≡ site_of_rows (opening c) earlier
  unpaid : (p : ℕ) → unpaid_at p s.sales + count (clears_at p) (moments_of c earlier)
      ≡ count (sells_at p) (moments_of c earlier)

unpaid_more : (c : Configured) (earlier : List Row) (s : SiteState) (r : Row)
    → KnowsUnpaid c earlier s → r.reply ≡ reply_to s r.actor r.event
    → KnowsUnpaid c (earlier ++ r ∷ []) (site_after s r.actor r.event)
unpaid_more c earlier s r known replies = record {
  led = ap (λ y. site_after y r.actor r.event) known.led
      ∙ sym (site_of_rows-push (opening c) earlier r);
  unpaid = λ p.
      let so_far = known.unpaid p in
      let here = balances_row p earlier s r replies in
      let clears = total_push (λ x. if clears_at p x then 1 else 0) (moments_of c earlier) m in
      let sells = total_push (λ x. if sells_at p x then 1 else 0) (moments_of c earlier) m in
      let all_clears : count (clears_at p) (moments_of c (earlier ++ r ∷ []))
      ≡ count (clears_at p) (moments_of c earlier ++ m ∷ []) = ap (count (clears_at p)) later in
      let all_sells : count (sells_at p) (moments_of c (earlier ++ r ∷ []))
      ≡ count (sells_at p) (moments_of c earlier ++ m ∷ []) = ap (count (sells_at p)) later in
      omega (arith, so_far, here, clears, sells, all_clears, all_sells);
}
  where
    m : Moment
    m = moment_at earlier s r

    later : moments_of c (earlier ++ r ∷ []) ≡ moments_of c earlier ++ m ∷ []
    later = moments_push [] (opening c) earlier r
        ∙ ap (λ y. moments_of c earlier ++ moment_at earlier y r ∷ []) (sym known.led)

pub unpaid_so_far : (c : Configured) (rows : List Row) → IsLegal (opening c) rows → (p : ℕ)
    → unpaid_at p (site_of_rows (opening c) rows).sales + count (clears_at p) (moments_of c rows)
    ≡ count (sells_at p) (moments_of c rows)
unpaid_so_far c rows legal =
    (kept (KnowsUnpaid c) (unpaid_more c) [] (opening c) rows
    (record { led = refl; unpaid = none_unpaid }) legal).unpaid
  where
    none_unpaid : (p : ℕ) → unpaid_at p no_sales + 0 ≡ 0
    none_unpaid p = rw (get-empty nat_cmp p) refl
