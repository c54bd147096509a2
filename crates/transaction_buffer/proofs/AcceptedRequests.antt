-- What an accepted request leaves of a sale.
use Rattle.std.proofs.Common.{◌≡◌, ℕ, true, Option, Some, None, Result, Ok, Err, refl, sym, ap, ◌∙◌}
use Rattle.site_base.specs.declared.refusal.Refusal.{Refusal}
use Rattle.transaction_buffer.specs.declared.request.Request.{Request}
use Rattle.transaction_buffer.specs.Sales.{Key, Sale, Sales, is_unpaid, sale_of, with_sale}
use Rattle.transaction_buffer.specs.TransactionTable.{Line, after_at, after_line, after_request}
use Rattle.transaction_buffer.specs.TransactionTable.{line_for, refusal_in, sale_after}
use Rattle.transaction_buffer.specs.TransactionTable.{sale_after_request}
use Rattle.transaction_buffer.proofs.Rules.{accepted_unpaid}

-- a sale that was unpaid, and the same sale in another standing
pub record IsAccepted (x y : Sale) : Type 0 where
  pub shift : y.shift ≡ x.shift
  pub product : y.product ≡ x.product
  pub volume : y.volume ≡ x.volume
  pub unpaid : is_unpaid x.standing ≡ true

pub accepted : (request : Request) (t : ℕ) (x : Sale)
    → refusal_in (line_for request t x) ≡ None
    → IsAccepted x (sale_after_request request t x)
accepted request t x is = by_line (line_for request t x) refl is
  where
    by_line : (l : Result Line Refusal) → line_for request t x ≡ l → refusal_in l ≡ None
        → IsAccepted x (sale_after l x)
    by_line (Ok l) line is = record {
      shift = refl;
      product = refl;
      volume = refl;
      unpaid = accepted_unpaid request t x l line;
    }
    by_line (Err refusal) line is = absurd cc

-- the sales once the request for this sale is granted
pub granted : (request : Request) (t : ℕ) (k : Key) (x : Sale) (s : Sales) → sale_of k s ≡ Some x
    → refusal_in (line_for request t x) ≡ None
    → with_sale k (sale_after_request request t x) s ≡ after_request request t k s
granted request t k x s there is =
    by_line (line_for request t x) is
    ∙ sym (ap (λ (o : Option Sale). after_at request t k o s) there)
  where
    by_line : (l : Result Line Refusal) → refusal_in l ≡ None
        → with_sale k (sale_after l x) s ≡ after_line k x l s
    by_line (Ok l) is = refl
    by_line (Err refusal) is = absurd cc
