-- What holds of sales and draws stays so.
use Rattle.std.proofs.Common.{◌≡◌, ℕ, ◌+◌, ◌≤◌, ◌<◌, ◌==◌, ◌&&◌, Bool, true, false, cond, List}
use Rattle.std.proofs.Common.{Option, Some, Result, Ok, Err, refl, sym, ap, subst, ◌∙◌, arith}
use Rattle.std.proofs.lemmas.Bool.{and_right, true≢false}
use Rattle.std.proofs.lemmas.Bool.Decides.{nat_tests}
use Rattle.site_base.specs.declared.actor.Actor.{Actor}
use Rattle.site_base.specs.declared.actor.Actor.TheVariants.{Till}
use Rattle.site_base.specs.declared.event.Event.{Event}
use Rattle.site_base.specs.declared.event.Event.TheVariants.{SignOff, Lock, Unlock, Clear, Offline}
use Rattle.site_base.specs.declared.event.Event.TheVariants.{HangUp}
use Rattle.fuelling_point.specs.declared.event.PointEvent.{PointEvent}
use Rattle.fuelling_point.specs.declared.event.PointEvent.TheVariants as points
use Rattle.fuelling_point.specs.declared.step.PointStep.{PointStep}
use Rattle.fuelling_point.specs.declared.step.PointStep.TheVariants.{Sold}
use Rattle.fuelling_point.specs.Step.{step_of}
use Rattle.meters.specs.Nozzles.{Nozzle}
use Rattle.site_base.specs.declared.refusal.Refusal.{Refusal}
use Rattle.transaction_buffer.specs.declared.request.Request.{Request}
use Rattle.transaction_buffer.specs.declared.request.Request.TheVariants as requests
use Rattle.transaction_buffer.specs.declared.standing.Standing.TheVariants.{Payable}
use Rattle.transaction_buffer.specs.declared.shelf.TheConstants.{UNPAID_LIMIT}
use Rattle.transaction_buffer.specs.Sales.{Key, Sale, Sales, made_at, unpaid_at, with_new}
use Rattle.transaction_buffer.specs.Sales.{is_unpaid}
use Rattle.transaction_buffer.specs.TransactionTable.{Line, line_for, sale_after}
use Rattle.transaction_buffer.specs.TransactionTable.{sale_after_request, after_request}
use Rattle.transaction_buffer.specs.TransactionTable.{after_sign_off, unlock_all_of, is_locked_by}
use Rattle.transaction_buffer.proofs.Counting.{counted_after}
use Rattle.written_site.specs.SiteState.{SiteState, facts_of, key_named, open_shift}
use Rattle.written_site.specs.SiteChecks.{own_event, flow_since}
use Rattle.written_site.specs.SiteStep.{step_at, nozzles_after, sales_after, sales_by, sale_made}
use Rattle.written_site.specs.Sound.{IsSaleSound, MaySell}
use Rattle.written_site.proofs.EachSale.{Each, each_let_go, each_asked, each_sold}
use Rattle.written_site.proofs.SoundTables.{same}

-- ---- how many sales a point has made, and how many are unpaid

-- point q has made as many sales as before in each shift, and no more of them are unpaid
pub record SellsNoMore (q : ℕ) (old new : Sales) : Type 0 where
  pub unpaid : unpaid_at q new ≤ unpaid_at q old
  pub made : (h : ℕ) → made_at q h new ≡ made_at q h old

no_more : (q : ℕ) (sales : Sales) → SellsNoMore q sales sales
no_more q sales = record { unpaid = omega arith; made = λ h. refl }

pub let_go_counts : (t q : ℕ) (sales : Sales) → SellsNoMore q sales (after_sign_off t sales)
let_go_counts t q sales = record {
  unpaid = omega (arith, counted_after.unpaid_signed_off t q sales);
  made = λ h. counted_after.made_signed_off t q h sales;
}

pub asked_counts : (request : Request) (t : ℕ) (k : Key) (q : ℕ) (sales : Sales)
    → SellsNoMore q sales (after_request request t k sales)
asked_counts request t k q sales = record {
  unpaid = counted_after.unpaid_asked t request k q sales;
  made = λ h. counted_after.made_asked t request k q h sales;
}

other_counts : (p q : ℕ) (x : Sale) (sales : Sales) → (q == p) ≡ false
    → SellsNoMore q sales (with_new p x sales)
other_counts p q x sales other = record {
  unpaid = let same_unpaid : unpaid_at q (with_new p x sales) ≡ unpaid_at q sales =
      counted_after.unpaid_sold p x q sales ∙ rw other refl in omega (arith, same_unpaid);
  made = λ h. counted_after.made_sold p x q h sales ∙ rw other refl;
}

-- the step is a sale
abbrev pub sells : PointStep → Bool
sells (Sold nozzle volume price prepaid) = true
sells step = false

-- the step of the event's own point
own_step : (s : SiteState) (p q : ℕ) (event : PointEvent) → (q == p) ≡ true
    → ((other : PointEvent) → ◌≡◌ {A = Option (ℕ × PointEvent)} (Some (p, event)) (Some (q, other))
    → sells (step_of other (facts_of s q)) ≡ false)
    → sells (step_of event (facts_of s p)) ≡ false
own_step s p q event at none =
    let one : p ≡ q = sym (same q p at) in
    ap (λ (r : ℕ). sells (step_of event (facts_of s r))) one
    ∙ none event (ap (λ (r : ℕ). Some (r, event)) one)

apart : (n m : ℕ) → n < m → (n == m) ≡ false
apart n m less = grind (arith, nat_tests)

both_false : (a b : Bool) → b ≡ false → (a && b) ≡ false
both_false a b is = and_right a b is

-- what a step of point p leaves of another point's counts, and of its own where it sells nothing
by_step : (s : SiteState) (nozzles : List Nozzle) (p q : ℕ) (step : PointStep)
    → ((q == p) ≡ true → sells step ≡ false)
    → SellsNoMore q s.sales (sales_by s nozzles p step)
by_step s nozzles p q (Sold nozzle volume price prepaid) none = by_test (q == p) refl
  where
    by_test : (b : Bool) → (q == p) ≡ b
        → SellsNoMore q s.sales (with_new p (sale_made s nozzles p) s.sales)
    by_test true at = absurd (true≢false (none at))
    by_test false other = other_counts p q (sale_made s nozzles p) s.sales other
by_step s nozzles p q step none = no_more q s.sales

-- a point that sells nothing in an event makes no more sales, and no more are unpaid
pub counts_after : (s : SiteState) (a : Actor) (e : Event) (q : ℕ)
    → ((event : PointEvent) → own_event s e ≡ Some (q, event)
    → sells (step_of event (facts_of s q)) ≡ false)
    → SellsNoMore q s.sales (sales_after s a e)
counts_after s (Till t) SignOff q none = let_go_counts t q s.sales
counts_after s (Till t) (Lock p id) q none =
    asked_counts requests.Lock t (key_named s p id) q s.sales
counts_after s (Till t) (Unlock p id) q none =
    asked_counts requests.Unlock t (key_named s p id) q s.sales
counts_after s (Till t) (Clear p id) q none =
    asked_counts (requests.Clear (open_shift s)) t (key_named s p id) q s.sales
counts_after s a (Offline p) q none =
    by_step s s.nozzles p q (step_at s (Offline p)) (λ at. own_step s p q points.Offline at none)
counts_after s a (HangUp p n reading) q none =
    by_step s (nozzles_after s (HangUp p n reading)) p q (step_at s (HangUp p n reading))
    (λ at. own_step s p q (points.HangUp n (flow_since s p n reading)) at none)
counts_after s a e q none = no_more q s.sales

-- ---- no more are unpaid than may be, and none is of a later shift

pub unpaid_by : (s : SiteState) (nozzles : List Nozzle) (p : ℕ) (step : PointStep)
    → (sells step ≡ true → MaySell s p) → ((q : ℕ) → unpaid_at q s.sales ≤ UNPAID_LIMIT)
    → (q : ℕ) → unpaid_at q (sales_by s nozzles p step) ≤ UNPAID_LIMIT
unpaid_by s nozzles p (Sold nozzle volume price prepaid) may all q =
    subst (λ (n : ℕ). n ≤ UNPAID_LIMIT)
    (sym (counted_after.unpaid_sold p (sale_made s nozzles p) q s.sales))
    (by_test (q == p) refl (is_unpaid (sale_made s nozzles p).standing))
  where
    by_test : (b : Bool) → (q == p) ≡ b → (unpaid : Bool)
        → cond b (unpaid_at q s.sales + cond unpaid 1 0) (unpaid_at q s.sales) ≤ UNPAID_LIMIT
    by_test true at true =
        let one : unpaid_at q s.sales ≡ unpaid_at p s.sales =
        ap (λ (r : ℕ). unpaid_at r s.sales) (same q p at) in
        omega (arith, (may refl).unpaid)
    by_test true at false = omega (arith, all q)
    by_test false at unpaid = all q
unpaid_by s nozzles p step may all q = all q

pub order_by : (s : SiteState) (nozzles : List Nozzle) (p : ℕ) (step : PointStep)
    → ((q h : ℕ) → open_shift s < h → made_at q h s.sales ≡ 0)
    → (q h : ℕ) → open_shift s < h → made_at q h (sales_by s nozzles p step) ≡ 0
order_by s nozzles p (Sold nozzle volume price prepaid) none q h later =
    counted_after.made_sold p (sale_made s nozzles p) q h s.sales
    ∙ rw (both_false (q == p) (open_shift s == h) (apart (open_shift s) h later)) (none q h later)
order_by s nozzles p step none q h later = none q h later

-- ---- each sale is as it always is

sound_let_go : (t : ℕ) (x : Sale) → IsSaleSound x → IsSaleSound (unlock_all_of t x)
sound_let_go t x is = by_test (is_locked_by t x.standing)
  where
    by_test : (b : Bool) → IsSaleSound (cond b (record x { standing = Payable }) x)
    by_test true = record { something = is.something; price = is.price; cents = is.cents }
    by_test false = is

pub signed_off_sales : (t : ℕ) (sales : Sales) → Each IsSaleSound sales
    → Each IsSaleSound (after_sign_off t sales)
signed_off_sales t sales = each_let_go IsSaleSound IsSaleSound t sales (sound_let_go t)

sound_asked : (request : Request) (t : ℕ) (x : Sale) → IsSaleSound x
    → IsSaleSound (sale_after_request request t x)
sound_asked request t x is = by_line (line_for request t x)
  where
    by_line : (line : Result Line Refusal) → IsSaleSound (sale_after line x)
    by_line (Ok l) = record { something = is.something; price = is.price; cents = is.cents }
    by_line (Err refusal) = is

pub asked_sales : (request : Request) (t : ℕ) (k : Key) (sales : Sales) → Each IsSaleSound sales
    → Each IsSaleSound (after_request request t k sales)
asked_sales request t k sales =
    each_asked IsSaleSound IsSaleSound request t k sales (λ x is. is) (sound_asked request t)

pub sales_by_step : (s : SiteState) (nozzles : List Nozzle) (p : ℕ) (step : PointStep)
    → (sells step ≡ true → IsSaleSound (sale_made s nozzles p)) → Each IsSaleSound s.sales
    → Each IsSaleSound (sales_by s nozzles p step)
sales_by_step s nozzles p (Sold nozzle volume price prepaid) sound =
    each_sold IsSaleSound IsSaleSound p (sale_made s nozzles p) s.sales (λ x is. is) (sound refl)
sales_by_step s nozzles p step sound = λ all. all
