-- What the site tells of a lock, an unlock and a clear is what the transaction table tells.
use Rattle.std.proofs.Common.{◌≡◌, ℕ, Option, Some, None, Ok, refl, sym, ap, ◌∙◌}
use Rattle.site_base.specs.declared.actor.Actor.TheVariants.{Till}
use Rattle.site_base.specs.declared.answer.Answer.{Answer}
use Rattle.site_base.specs.declared.answer.Answer.TheVariants as answers
use Rattle.site_base.specs.declared.event.Event.{Event}
use Rattle.site_base.specs.declared.event.Event.TheVariants.{Lock, Unlock, Clear}
use Rattle.site_base.specs.declared.refusal.Refusal.{Refusal}
use Rattle.site_base.specs.declared.sale.SaleId.{SaleId}
use Rattle.site_base.specs.Checks.{◌or_else◌, reply_or, value_or}
use Rattle.transaction_buffer.specs.declared.request.Request.{Request}
use Rattle.transaction_buffer.specs.declared.request.Request.TheVariants as requests
use Rattle.transaction_buffer.specs.Requests.{reply_of}
use Rattle.transaction_buffer.specs.Sales.{Key, Sale, Sales, sale_of}
use Rattle.transaction_buffer.specs.TransactionTable.{Seen, payable, locked_by_it, locked_by_other}
use Rattle.transaction_buffer.specs.TransactionTable.{cleared_by, line, line_of, seen_by, answer_in}
use Rattle.transaction_buffer.specs.TransactionTable.{refusal_in, answer_of, refusal_of}
use Rattle.transaction_buffer.specs.TransactionTable.{after_request}
use Rattle.written_site.specs.SiteChecks.{may_ask, can_do, first_refusal}
use Rattle.written_site.specs.SiteState.{SiteState, key_named, open_shift}
use Rattle.written_site.specs.SiteStep.{accepted_site, site_after, site_answer, clear_told}
use Rattle.written_site.specs.SiteStep.{reply_to}
use Rattle.written_site.proofs.ClearFigures.{refused_leaves}

-- what an accepted request of a sale is answered with
abbrev told_of : Request → Option Sale → Answer
told_of requests.Lock sale = answers.Locked
told_of requests.Unlock sale = answers.Unlocked
told_of (requests.Clear h) sale = clear_told sale

line_answer : (request : Request) (t : ℕ) (x : Sale) (v : Seen)
    → refusal_in (line request t x.cents v) ≡ None
    → answer_in (line request t x.cents v) ≡ told_of request (Some x)
line_answer requests.Lock t x payable accepted = refl
line_answer requests.Lock t x locked_by_it accepted = refl
line_answer requests.Lock t x (locked_by_other u) accepted = cc
line_answer requests.Lock t x (cleared_by u) accepted = cc
line_answer requests.Unlock t x payable accepted = cc
line_answer requests.Unlock t x locked_by_it accepted = refl
line_answer requests.Unlock t x (locked_by_other u) accepted = cc
line_answer requests.Unlock t x (cleared_by u) accepted = cc
line_answer (requests.Clear h) t x payable accepted = cc
line_answer (requests.Clear h) t x locked_by_it accepted = refl
line_answer (requests.Clear h) t x (locked_by_other u) accepted = cc
line_answer (requests.Clear h) t x (cleared_by u) accepted = cc

answer_told : (request : Request) (t : ℕ) (sale : Option Sale)
    → refusal_in (line_of request t sale) ≡ None
    → answer_in (line_of request t sale) ≡ told_of request sale
answer_told request t None accepted = cc
answer_told request t (Some x) accepted = line_answer request t x (seen_by t x.standing) accepted

-- The event of till t, which may ask for it, is its request for the sale of this name: it is told
-- what the request is told, and leads to the site with the sales that the request leads to.
pub record IsAsked (s : SiteState) (t : ℕ) (event : Event) (request : Request) (k : Key)
    : Type 0 where
  pub replies : reply_to s (Till t) event ≡ reply_of request t k s.sales
  pub leads : site_after s (Till t) event
      ≡ record s { sales = after_request request t k s.sales }

or_none : (refusal : Option Refusal) → refusal or_else None ≡ refusal
or_none None = refl
or_none (Some refusal) = refl

by_first : (s : SiteState) (t : ℕ) (event : Event) (request : Request) (k : Key)
    → first_refusal s (Till t) event ≡ refusal_of request t k s.sales
    → (refusal_of request t k s.sales ≡ None
    → answer_of request t k s.sales ≡ site_answer s event)
    → accepted_site s (Till t) event ≡ record s { sales = after_request request t k s.sales }
    → IsAsked s t event request k
by_first s t event request k first answers leads = record {
  replies = ap (λ (o : Option Refusal). reply_or o (site_answer s event)) first
      ∙ told (refusal_of request t k s.sales) refl;
  leads = ap (λ (o : Option Refusal). value_or o (accepted_site s (Till t) event) s) first
      ∙ led (refusal_of request t k s.sales) refl;
}
  where
    told : (o : Option Refusal) → refusal_of request t k s.sales ≡ o
        → reply_or o (site_answer s event) ≡ reply_or o (answer_of request t k s.sales)
    told None is = ap Ok (sym (answers is))
    told (Some refusal) is = refl

    led : (o : Option Refusal) → refusal_of request t k s.sales ≡ o
        → value_or o (accepted_site s (Till t) event) s
        ≡ record s { sales = after_request request t k s.sales }
    led None is = leads
    led (Some refusal) is =
        ap (λ (sales : Sales). record s { sales = sales })
        (sym (refused_leaves request t k s.sales refusal is))

-- a till that may ask is refused by the table alone
asked_first : (s : SiteState) (t : ℕ) (event : Event) (refusal : Option Refusal)
    → may_ask s (Till t) event ≡ None → can_do s (Till t) event ≡ refusal or_else None
    → first_refusal s (Till t) event ≡ refusal
asked_first s t event refusal may can =
    ap (λ (o : Option Refusal). o or_else can_do s (Till t) event) may ∙ can ∙ or_none refusal

pub asks_lock : (s : SiteState) (t p : ℕ) (id : SaleId) → may_ask s (Till t) (Lock p id) ≡ None
    → IsAsked s t (Lock p id) requests.Lock (key_named s p id)
asks_lock s t p id may =
    let k : Key = key_named s p id in
    by_first s t (Lock p id) requests.Lock k
    (asked_first s t (Lock p id) (refusal_of requests.Lock t k s.sales) may refl)
    (answer_told requests.Lock t (sale_of k s.sales)) refl

pub asks_unlock : (s : SiteState) (t p : ℕ) (id : SaleId) → may_ask s (Till t) (Unlock p id) ≡ None
    → IsAsked s t (Unlock p id) requests.Unlock (key_named s p id)
asks_unlock s t p id may =
    let k : Key = key_named s p id in
    by_first s t (Unlock p id) requests.Unlock k
    (asked_first s t (Unlock p id) (refusal_of requests.Unlock t k s.sales) may refl)
    (answer_told requests.Unlock t (sale_of k s.sales)) refl

pub asks_clear : (s : SiteState) (t p : ℕ) (id : SaleId) → may_ask s (Till t) (Clear p id) ≡ None
    → IsAsked s t (Clear p id) (requests.Clear (open_shift s)) (key_named s p id)
asks_clear s t p id may =
    let k : Key = key_named s p id in
    let request : Request = requests.Clear (open_shift s) in
    by_first s t (Clear p id) request k
    (asked_first s t (Clear p id) (refusal_of request t k s.sales) may refl)
    (answer_told request t (sale_of k s.sales)) refl
