-- What a till is told of its request for a sale, and the sales that it leads to.
use Rattle.std.specs.Prelude.{◌≡◌, ℕ, Result, Ok, Err}
use Rattle.site_base.specs.declared.answer.Answer.{Answer}
use Rattle.site_base.specs.declared.refusal.Refusal.{Refusal}
use Rattle.site_base.specs.Checks.{reply_or}
use Rattle.transaction_buffer.specs.declared.request.Request.{Request}
use Rattle.transaction_buffer.specs.Sales.{Key, Sale, Sales}
use Rattle.transaction_buffer.specs.TransactionTable.{Line, refusal_of, answer_of, after_request}

-- what till t is told of its request for the sale of this name
abbrev pub reply_of : Request → ℕ → Key → Sales → Result Answer Refusal
reply_of request t k s = reply_or (refusal_of request t k s) (answer_of request t k s)

-- from old, the request of till t for the sale of this name is told the reply and leads to new; a
-- refusal leaves the sales
pub record Asked (request : Request) (t : ℕ) (k : Key) (old new : Sales)
    (reply : Result Answer Refusal) : Type 0 where
  pub replies : reply ≡ reply_of request t k old
  pub leads : new ≡ after_request request t k old
