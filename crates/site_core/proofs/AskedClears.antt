-- What is granted, and what a clear does to the figures of the sales.
use Rattle.std.proofs.Common.{◌≡◌, ℕ, true, Option, Some, None, unwrap_or, option_map, refl, sym}
use Rattle.std.proofs.Common.{ap, ◌∙◌}
use Rattle.site_base.specs.declared.view.TransactionView.{TransactionView}
use Rattle.transaction_buffer.specs.declared.request.Request.{Request}
use Rattle.transaction_buffer.specs.declared.request.Request.TheVariants.{Lock, Unlock, Clear}
use Rattle.transaction_buffer.specs.Sales.{Key, Sale, Sales, is_unpaid, sale_of, view_of_sale}
use Rattle.transaction_buffer.specs.Sales.{view_of}
use Rattle.transaction_buffer.specs.TransactionTable.{after_request, refusal_of}
use Rattle.transaction_buffer.proofs.Rules.{cleared_by_its_locker}
use Rattle.written_site.specs.FigureSteps.{HasClear, HasSameClears}
use Rattle.written_site.proofs.ClearFigures.{clear_counts, lock_keeps, unlock_keeps}

-- what isn't a clear leaves the figures of what was cleared
pub unpaid_keeps : (request : Request) (t : ℕ) (k : Key) (sales : Sales)
    → ((h : ℕ) → request ≡ Clear h → ⊥) → HasSameClears sales (after_request request t k sales)
unpaid_keeps Lock t k sales other = lock_keeps t k sales
unpaid_keeps Unlock t k sales other = unlock_keeps t k sales
unpaid_keeps (Clear h) t k sales other = absurd (other h refl)

-- Sale x, which isn't paid, is shown so, and it is cleared once by the till in this shift.
pub record IsOneClear (h t : ℕ) (k : Key) (old : Sales) (view : TransactionView) (x : Sale)
    : Type 0 where
  pub there : sale_of k old ≡ Some x
  pub shows : view_of x ≡ view
  pub unpaid : is_unpaid x.standing ≡ true
  pub counts : HasClear old (after_request (Clear h) t k old) t h x

-- so is the sale of a clear that is accepted
pub accepted_clear : (h t : ℕ) (k : Key) (old : Sales) (view : TransactionView)
    → refusal_of (Clear h) t k old ≡ None → view_of_sale k old ≡ Some view
    → (x : Sale) × IsOneClear h t k old view x
accepted_clear h t k old view accepted told =
    let clear = cleared_by_its_locker t h k old accepted in
    let seen : Some (view_of clear.0) ≡ Some view =
    sym (ap (option_map view_of) clear.1.there) ∙ told in (
      clear.0,
      record {
        there = clear.1.there;
        shows = ap (λ o. unwrap_or o view) seen;
        unpaid = ap (λ standing. is_unpaid standing) clear.1.locked;
        counts = clear_counts t h k clear.0 old clear.1.there accepted;
      },
    )
