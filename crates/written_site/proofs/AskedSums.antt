-- What a till asks of a sale, and the sums of figures over all sales.
use Rattle.std.proofs.Common.{◌≡◌, ℕ, ◌+◌, Option, Some, None, Result, Ok, Err, refl, ap, ◌∙◌}
use Rattle.std.proofs.Common.{arith}
use Rattle.site_base.specs.declared.refusal.Refusal.{Refusal}
use Rattle.transaction_buffer.specs.declared.request.Request.{Request}
use Rattle.transaction_buffer.specs.declared.standing.Standing.{Standing}
use Rattle.transaction_buffer.specs.Sales.{Key, Sale, Sales, sale_of}
use Rattle.transaction_buffer.specs.Sums.{sum_of}
use Rattle.transaction_buffer.specs.TransactionTable.{Line, line_for, sale_after}
use Rattle.transaction_buffer.specs.TransactionTable.{sale_after_request, after_line, after_at}
use Rattle.transaction_buffer.specs.TransactionTable.{after_request}
use Rattle.transaction_buffer.proofs.Summing.{replaced_sum}

-- a figure, after the table's line for a sale that is there
line_sum : (figure : Sale → ℕ) (k : Key) (x : Sale) (line : Result Line Refusal) (sales : Sales)
    → sale_of k sales ≡ Some x
    → sum_of figure (after_line k x line sales) + figure x
    ≡ sum_of figure sales + figure (sale_after line x)
line_sum figure k x (Ok l) sales is =
    replaced_sum figure k x (record x { standing = l.leaves }) sales is
line_sum figure k x (Err refusal) sales is = refl

pub asked_sum : (figure : Sale → ℕ) (request : Request) (t : ℕ) (k : Key) (x : Sale) (sales : Sales)
    → sale_of k sales ≡ Some x
    → sum_of figure (after_request request t k sales) + figure x
    ≡ sum_of figure sales + figure (sale_after_request request t x)
asked_sum figure request t k x sales is =
    ap (λ (o : Option Sale). sum_of figure (after_at request t k o sales) + figure x) is
    ∙ line_sum figure k x (line_for request t x) sales is

-- a figure that the request leaves of each sale
pub asked_leaves : (figure : Sale → ℕ) (request : Request) (t : ℕ) (k : Key) (sales : Sales)
    → ((x : Sale) → figure (sale_after_request request t x) ≡ figure x)
    → sum_of figure (after_request request t k sales) ≡ sum_of figure sales
asked_leaves figure request t k sales same = by_sale (sale_of k sales) refl
  where
    by_sale : (o : Option Sale) → sale_of k sales ≡ o
        → sum_of figure (after_at request t k o sales) ≡ sum_of figure sales
    by_sale None is = refl
    by_sale (Some x) is =
        omega (arith, line_sum figure k x (line_for request t x) sales is, same x)

-- a figure that doesn't depend on how a sale stands
pub asked_keeps : (figure : Sale → ℕ) (request : Request) (t : ℕ) (k : Key) (sales : Sales)
    → ((x : Sale) (y : Standing) → figure (record x { standing = y }) ≡ figure x)
    → sum_of figure (after_request request t k sales) ≡ sum_of figure sales
asked_keeps figure request t k sales same =
    asked_leaves figure request t k sales (λ x. by_line x (line_for request t x))
  where
    by_line : (x : Sale) (line : Result Line Refusal) → figure (sale_after line x) ≡ figure x
    by_line x (Ok l) = same x l.leaves
    by_line x (Err refusal) = refl
