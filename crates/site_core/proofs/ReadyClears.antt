-- A clear that has passed its checks is ready.
use Rattle.std.proofs.Common.{◌≡◌, ℕ, length, Some, None, Result, Ok, refl, sym, ap, subst, ◌∙◌}
use Rattle.site_base.specs.Checks.{◌or_else◌, reply_or, unless}
use Rattle.site_base.specs.declared.actor.Actor.TheVariants.{Till}
use Rattle.site_base.specs.declared.answer.Answer.{Answer}
use Rattle.site_base.specs.declared.event.Event.TheVariants as events
use Rattle.site_base.specs.declared.refusal.Refusal.{Refusal}
use Rattle.site_base.specs.declared.refusal.Refusal.TheVariants.{NotSignedOn}
use Rattle.site_base.specs.declared.sale.SaleId.{SaleId}
use Rattle.transaction_buffer.specs.declared.found_sale.FoundSale.{FoundSale}
use Rattle.transaction_buffer.specs.declared.request.Request.TheVariants as requests
use Rattle.transaction_buffer.specs.FoundSales.{IsPlaced, key_of}
use Rattle.transaction_buffer.specs.Sales.{Key}
use Rattle.transaction_buffer.specs.TransactionTable.{after_request, answer_of, refusal_of}
use Rattle.written_site.specs.SiteState.{SiteState, is_signed_on, key_named, open_shift}
use Rattle.written_site.specs.SiteChecks.{first_refusal, is_sale_there, is_there, may_ask}
use Rattle.written_site.specs.SiteStep.{reply_to, site_answer}
use Rattle.written_site.specs.Sound.{Sound}
use Rattle.written_site.proofs.AskedAnswers.{asks_clear}
use Rattle.written_site.proofs.FigureBounds.{figures_fit}
use Rattle.site_core.specs.declared.ready.Ready.TheVariants as ready
use Rattle.site_core.specs.Ready.{IsReady}

-- two answers that are told are one
one_answer : (a b : Answer) → ◌≡◌ {A = Result Answer Refusal} (Ok a) (Ok b) → a ≡ b
one_answer a b is = cc

pub clear_ready : (s : SiteState) (t p : ℕ) (id : SaleId) (h : ℕ) (sale : FoundSale) → Sound s
    → unless (is_signed_on s t) NotSignedOn ≡ None
    → (is_there s (Some p) or_else is_sale_there s (Some p) (Some id)) ≡ None
    → key_of sale ≡ key_named s p id → IsPlaced sale s.sales → h ≡ open_shift s
    → refusal_of (requests.Clear h) t (key_of sale) s.sales ≡ None
    → IsReady s (Till t) (events.Clear p id) (ready.Ask sale (requests.Clear h) t)
clear_ready s t p id h sale sound signed names own placed shift takes =
    let event = events.Clear p id in
    let k : Key = key_named s p id in
    let may : may_ask s (Till t) event ≡ None = rw (signed, names) refl in
    let taken : refusal_of (requests.Clear (open_shift s)) t k s.sales ≡ None =
    subst (λ j. refusal_of (requests.Clear (open_shift s)) t j s.sales ≡ None) own
    (subst (λ (g : ℕ). refusal_of (requests.Clear g) t (key_of sale) s.sales ≡ None) shift takes) in
    let accepted : first_refusal s (Till t) event ≡ None = rw (may, taken) refl in
    let told : reply_to s (Till t) event
    ≡ reply_or (refusal_of (requests.Clear (open_shift s)) t k s.sales)
    (answer_of (requests.Clear (open_shift s)) t k s.sales) = (asks_clear s t p id may).replies in
    record {
      accepted = accepted;
      leads =
          ap (λ (g : ℕ). record s {
            sales = after_request (requests.Clear g) t (key_of sale) s.sales;
          }) shift
          ∙ ap (λ (j : Key). record s {
            sales = after_request (requests.Clear (open_shift s)) t j s.sales;
          }) own;
      answers =
          ap (λ (g : ℕ). answer_of (requests.Clear g) t (key_of sale) s.sales) shift
          ∙ ap (λ (j : Key). answer_of (requests.Clear (open_shift s)) t j s.sales) own
          ∙ (sym (one_answer (site_answer s event)
          (answer_of (requests.Clear (open_shift s)) t k s.sales)
          (ap (λ o. reply_or o (site_answer s event)) (sym accepted) ∙ told
          ∙ ap (λ o. reply_or o (answer_of (requests.Clear (open_shift s)) t k s.sales)) taken)));
      can = (
        placed,
        takes,
        (
          shift,
          λ x is unpaid. figures_fit.clears s t (open_shift s) (key_of sale) x sound is unpaid,
        ),
      );
      fits = λ room has. tt;
      leaves = λ answer room. refl;
    }
