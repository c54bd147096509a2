-- The locker of a transaction is a slot of the site's history.
use Rattle.std.proofs.Common.{◌≡◌, ℕ, ◌+◌, ◌==◌, ◌&&◌, Bool, true, false, List, Option}
use Rattle.std.proofs.Common.{option_and_then, Some, None, is_some, unwrap_or, Ok, ◌⊎◌, inl, inr}
use Rattle.std.proofs.Common.{refl, sym, ap, subst, ◌∙◌, if◌then◌else◌}
use Rattle.site_base.specs.declared.actor.Actor.{Actor}
use Rattle.site_base.specs.declared.actor.Actor.TheVariants.{Till}
use Rattle.site_base.specs.declared.event.Event.{Event}
use Rattle.site_base.specs.declared.event.Event.TheVariants.{SignOff, Lock, Unlock, Clear}
use Rattle.site_base.specs.declared.event.Event.TheVariants.{Terminate, ReadTransaction}
use Rattle.site_base.specs.declared.event.Event.TheVariants.{ReadProduct, Lift, Flow, Offline}
use Rattle.site_base.specs.declared.event.Event.TheVariants.{HangUp}
use Rattle.site_base.specs.declared.row.Row.{Row}
use Rattle.site_base.specs.declared.sale.SaleId.{SaleId}
use Rattle.fuelling_point.specs.declared.event.PointEvent.{PointEvent}
use Rattle.fuelling_point.specs.declared.event.PointEvent.TheVariants as points
use Rattle.fuelling_point.specs.declared.step.PointStep.{PointStep}
use Rattle.fuelling_point.specs.declared.step.PointStep.TheVariants.{Sold}
use Rattle.fuelling_point.specs.Step.{step_of}
use Rattle.transaction_buffer.specs.declared.request.Request.TheVariants as requests
use Rattle.transaction_buffer.specs.Laws.{unless_signed_off}
use Rattle.transaction_buffer.specs.Sales.{Key, key, Sale, Sales, made_at, next_key, new_standing}
use Rattle.transaction_buffer.specs.Sales.{same_key, sales_at, with_new}
use Rattle.transaction_buffer.specs.TransactionTable.{refusal_of, after_request, after_sign_off}
use Rattle.transaction_buffer.specs.TransactionTable.{locker, locker_of}
use Rattle.transaction_buffer.proofs.InShift.{none_next}
use Rattle.transaction_buffer.proofs.Reading.{one_sale}
use Rattle.transaction_buffer.proofs.Rules.{one_locker}
use Rattle.written_site.specs.SiteState.{SiteState, facts_of, key_named, open_shift}
use Rattle.written_site.specs.SiteChecks.{Passed, own_event, flow_since}
use Rattle.written_site.specs.SiteStep.{site_answer, step_at, step_told, nozzles_after, sales_after}
use Rattle.written_site.specs.SiteStep.{sales_by, sale_made, first_locker, if_signed_on, reply_to}
use Rattle.written_site.specs.SiteStep.{site_after}
use Rattle.written_site.specs.RowWords.{on_after, open_after}
use Rattle.written_site.specs.SaleWords.{key_after, key_sold, number_sold, locker_from, lock_sold}
use Rattle.written_site.specs.SaleWords.{locks_sale, ends_lock, release_after}
use Rattle.written_site.proofs.RowFacts.{Known, IsReleasedSo, own_after}
use Rattle.written_site.proofs.RowWords.{told_row, of_row}
use Rattle.written_site.proofs.Slots.{MayTake}
use Rattle.written_site.proofs.SlotRows.{Does, moment_at, idle, begins, given_back}
use Rattle.written_site.proofs.SoundMachine.{sold_from}
use Rattle.written_site.proofs.SoundSold.{under_way_released}
use Rattle.written_site.proofs.SoundTables.{turned}
use Rattle.written_site.proofs.ToldAnswers.{never_sold}

-- the name that a till says is that of the site
pub named_so : (earlier : List Row) (s : SiteState) (p : ℕ) (id : SaleId)
    → open_shift s ≡ open_after earlier → key_named s p id ≡ key_after earlier p id
named_so earlier s p id shift = ap (λ (h : ℕ). key (unwrap_or id.shift h) p id.seq) shift

-- ---- one request

may_lock : (t : ℕ) (j k : Key) (sales : Sales) → refusal_of requests.Lock t j sales ≡ None
    → same_key k j ≡ true → MayTake (Some t) (locker_of k sales)
may_lock t j k sales accepted is =
    let one : locker_of k sales ≡ locker_of j sales =
    ap (λ o. option_and_then (λ (x : Sale). locker x.standing) o) (one_sale k j sales is) in
    subst (MayTake (Some t)) (sym one) (by_free (one_locker.free t j sales accepted))
  where
    by_free : (locker_of j sales ≡ None) ⊎ (locker_of j sales ≡ Some t)
        → MayTake (Some t) (locker_of j sales)
    by_free (inl free) = subst (MayTake (Some t)) (sym free) tt
    by_free (inr own) = subst (MayTake (Some t)) (sym own) refl

locks : (t : ℕ) (j k : Key) (sales : Sales) → refusal_of requests.Lock t j sales ≡ None
    → Does (locker_of k sales) (locker_of k (after_request requests.Lock t j sales))
    (if same_key k j then Some t else None) (λ u. false)
locks t j k sales accepted =
    subst (λ new. Does (locker_of k sales) new (if same_key k j then Some t else None) (λ u. false))
    (sym (one_locker.by_lock t j k sales accepted)) (by_test (same_key k j) refl)
  where
    by_test : (b : Bool) → same_key k j ≡ b
        → Does (locker_of k sales) (if b then Some t else locker_of k sales)
        (if b then Some t else None) (λ u. false)
    by_test true is = record { holder = refl; may = may_lock t j k sales accepted is }
    by_test false is = idle (locker_of k sales)

-- an unlock or a clear leaves no locker
ends_so : (holder : Option ℕ) (b : Bool)
    → Does holder (if b then None else holder) None (λ u. b)
ends_so holder true = given_back holder
ends_so holder false = idle holder

unlocks : (t : ℕ) (j k : Key) (sales : Sales) → refusal_of requests.Unlock t j sales ≡ None
    → Does (locker_of k sales) (locker_of k (after_request requests.Unlock t j sales)) None
    (λ u. same_key k j)
unlocks t j k sales accepted =
    subst (λ new. Does (locker_of k sales) new None (λ u. same_key k j))
    (sym (one_locker.by_unlock t j k sales accepted)) (ends_so (locker_of k sales) (same_key k j))

clears : (t h : ℕ) (j k : Key) (sales : Sales) → refusal_of (requests.Clear h) t j sales ≡ None
    → Does (locker_of k sales) (locker_of k (after_request (requests.Clear h) t j sales)) None
    (λ u. same_key k j)
clears t h j k sales accepted =
    subst (λ new. Does (locker_of k sales) new None (λ u. same_key k j))
    (sym (one_locker.by_clear t h j k sales accepted)) (ends_so (locker_of k sales) (same_key k j))

signs_off : (t : ℕ) (k : Key) (sales : Sales)
    → Does (locker_of k sales) (locker_of k (after_sign_off t sales)) None (λ u. t == u)
signs_off t k sales =
    subst (λ new. Does (locker_of k sales) new None (λ u. t == u))
    (sym (one_locker.by_sign_off t k sales)) (by_holder (locker_of k sales))
  where
    by_holder : (holder : Option ℕ) → Does holder (unless_signed_off t holder) None (λ u. t == u)
    by_holder None = record { holder = refl; may = tt }
    by_holder (Some u) =
        record { holder = ap (λ (b : Bool). if b then None else Some u) (turned u t); may = tt }

-- ---- a sale

-- the locker with which it is made is the one that the rows say
locker_so : (earlier : List Row) (s : SiteState) (p : ℕ) → Known earlier s
    → IsReleasedSo earlier s p
    → first_locker s p (facts_of s p).prepaid ≡ locker_from earlier (release_after p earlier)
locker_so earlier s p known so =
    ap (first_locker s p) so.prepaid ∙ by_prepaid so.told.prepaid
    ∙ ap (locker_from earlier) (sym so.is)
  where
    by_prepaid : (prepaid : Option ℕ)
        → first_locker s p prepaid
        ≡ (if is_some prepaid && on_after so.told.till earlier then Some so.told.till else None)
    by_prepaid None = refl
    by_prepaid (Some cents) =
        ap (if_signed_on s) so.holder
        ∙ ap (λ (b : Bool). if b then Some so.told.till else None) (known.signed so.told.till)

locker_new : (o : Option ℕ) → locker (new_standing o) ≡ o
locker_new None = refl
locker_new (Some t) = refl

-- a name that is new has no sale
none_yet : (p h : ℕ) (k : Key) (sales : Sales) → same_key k (next_key p h sales) ≡ true
    → locker_of k sales ≡ None
none_yet p h k sales is =
    ap (λ o. option_and_then (λ (x : Sale). locker x.standing) o)
    (one_sale k (next_key p h sales) sales is ∙ none_next h (sales_at p sales))

new_lock : (p : ℕ) (x : Sale) (k : Key) (sales : Sales)
    → Does (locker_of k sales) (locker_of k (with_new p x sales))
    (if same_key k (next_key p x.shift sales) then locker x.standing else None) (λ t. false)
new_lock p x k sales =
    subst (λ new. Does (locker_of k sales) new
    (if same_key k (next_key p x.shift sales) then locker x.standing else None) (λ t. false))
    (sym (one_locker.by_sale p x k sales)) (by_test (same_key k (next_key p x.shift sales)) refl)
  where
    by_test : (b : Bool) → same_key k (next_key p x.shift sales) ≡ b
        → Does (locker_of k sales) (if b then locker x.standing else locker_of k sales)
        (if b then locker x.standing else None) (λ t. false)
    by_test true is =
        subst (λ old. Does old (locker x.standing) (locker x.standing) (λ t. false))
        (sym (none_yet p x.shift k sales is)) (begins (locker x.standing))
    by_test false is = idle (locker_of k sales)

-- what the step of the event's point does to the lock
steps : (k : Key) (earlier : List Row) (s : SiteState) (a : Actor) (e : Event) (p growth : ℕ)
    (event : PointEvent) → Known earlier s → Passed s a e → own_event s e ≡ Some (p, event)
    → (step : PointStep) → step_of event (facts_of s p) ≡ step
    → Does (locker_of k s.sales) (locker_of k (sales_by s (nozzles_after s e) p step))
    (lock_sold k earlier (key_sold earlier (Some p) (number_sold (Ok (step_told s p growth step)))))
    (λ t. false)
steps k earlier s a e p growth event known passes own (Sold nozzle volume price prepaid) is =
    let x : Sale = sale_made s (nozzles_after s e) p in
    let its = own_after s a e p event passes own in
    let from = sold_from event (facts_of s p) nozzle volume price prepaid
    (known.whole p) its.1 is in
    let so = known.released p (under_way_released (facts_of s p).state from.was) in
    let lock : locker x.standing ≡ locker_from earlier (release_after p earlier) =
    locker_new (first_locker s p (facts_of s p).prepaid) ∙ locker_so earlier s p known so in
    let new : Option ℕ = locker_of k (with_new p x s.sales) in
    subst (λ h. Does (locker_of k s.sales) new
    (if same_key k (key h p (made_at p (open_shift s) s.sales + 1))
    then locker_from earlier (release_after p earlier) else None) (λ t. false))
    known.shift
    (subst (λ o. Does (locker_of k s.sales) new
    (if same_key k (next_key p (open_shift s) s.sales) then o else None) (λ t. false)) lock
    (new_lock p x k s.sales))
steps k earlier s a e p growth event known passes own step is = idle (locker_of k s.sales)

-- ---- every event

-- the row of an accepted event
abbrev row_accepted : SiteState → Actor → Event → Row
row_accepted s a e = told_row a e (Ok (site_answer s e))

does_accepted : (k : Key) (earlier : List Row) (s : SiteState) (a : Actor) (e : Event)
    → Known earlier s → Passed s a e
    → Does (locker_of k s.sales) (locker_of k (sales_after s a e))
    (locks_sale k (moment_at earlier s (row_accepted s a e)))
    (λ t. ends_lock k t (moment_at earlier s (row_accepted s a e)))
does_accepted k earlier s (Till t) (Lock p id) known passes =
    subst (λ j. Does (locker_of k s.sales)
    (locker_of k (after_request requests.Lock t (key_named s p id) s.sales))
    (if same_key k j then Some t else None) (λ u. false))
    (named_so earlier s p id known.shift)
    (locks t (key_named s p id) k s.sales passes.pays)
does_accepted k earlier s (Till t) (Unlock p id) known passes =
    subst (λ j. Does (locker_of k s.sales)
    (locker_of k (after_request requests.Unlock t (key_named s p id) s.sales))
    None (λ u. same_key k j))
    (named_so earlier s p id known.shift)
    (unlocks t (key_named s p id) k s.sales passes.pays)
does_accepted k earlier s (Till t) (Clear p id) known passes =
    rw (never_sold s (Clear p id) refl)
    (subst (λ j. Does (locker_of k s.sales)
    (locker_of k (after_request (requests.Clear (open_shift s)) t (key_named s p id) s.sales))
    None (λ u. same_key k j))
    (named_so earlier s p id known.shift)
    (clears t (open_shift s) (key_named s p id) k s.sales passes.pays))
does_accepted k earlier s (Till t) SignOff known passes = signs_off t k s.sales
does_accepted k earlier s a (Offline p) known passes =
    steps k earlier s a (Offline p) p 0 points.Offline known passes refl
    (step_at s (Offline p)) refl
does_accepted k earlier s a (HangUp p n reading) known passes =
    steps k earlier s a (HangUp p n reading) p (flow_since s p n reading)
    (points.HangUp n (flow_since s p n reading)) known passes refl (step_at s (HangUp p n reading))
    refl
does_accepted k earlier s a (Clear p id) known passes =
    rw (never_sold s (Clear p id) refl) (idle (locker_of k s.sales))
does_accepted k earlier s a (Terminate p) known passes =
    rw (never_sold s (Terminate p) refl) (idle (locker_of k s.sales))
does_accepted k earlier s a (Lift p n reading) known passes =
    rw (never_sold s (Lift p n reading) refl) (idle (locker_of k s.sales))
does_accepted k earlier s a (Flow p n reading) known passes =
    rw (never_sold s (Flow p n reading) refl) (idle (locker_of k s.sales))
does_accepted k earlier s a (ReadTransaction p id) known passes =
    rw (never_sold s (ReadTransaction p id) refl) (idle (locker_of k s.sales))
does_accepted k earlier s a (ReadProduct q) known passes = idle (locker_of k s.sales)
does_accepted k earlier s a e known passes = idle (locker_of k s.sales)

pub does_lock : (k : Key) (earlier : List Row) (s : SiteState) (r : Row) → Known earlier s
    → r.reply ≡ reply_to s r.actor r.event
    → Does (locker_of k s.sales) (locker_of k (site_after s r.actor r.event).sales)
    (locks_sale k (moment_at earlier s r)) (λ t. ends_lock k t (moment_at earlier s r))
does_lock k earlier s r known replies =
    of_row (λ row new. Does (locker_of k s.sales) (locker_of k new.sales)
    (locks_sale k (moment_at earlier s row)) (λ t. ends_lock k t (moment_at earlier s row))) s r
    replies
    (λ refusal. idle (locker_of k s.sales))
    (λ passes. does_accepted k earlier s r.actor r.event known passes)
