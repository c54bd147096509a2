-- What the table's line for a sale tells of a till's request.
use Rattle.std.proofs.Common.{◌≡◌, ℕ, Option, Some, None, Result, Ok, Err, refl, sym, ap, ◌∙◌}
use Rattle.site_base.specs.declared.answer.Answer.{Answer}
use Rattle.site_base.specs.declared.refusal.Refusal.{Refusal}
use Rattle.site_base.specs.declared.refusal.Refusal.TheVariants.{NoSuchTransaction}
use Rattle.transaction_buffer.specs.declared.request.Request.{Request}
use Rattle.site_base.specs.Checks.{reply_or}
use Rattle.transaction_buffer.specs.Requests.{Asked}
use Rattle.transaction_buffer.specs.Laws.{DoTell}
use Rattle.transaction_buffer.specs.Sales.{Key, Sale, Sales, sale_of, with_sale}
use Rattle.transaction_buffer.specs.TransactionTable.{Line, line_for, line_of, refusal_in}
use Rattle.transaction_buffer.specs.TransactionTable.{answer_in, after_line, after_at}

-- what an answer and a refusal tell
pub replies_tell : DoTell
replies_tell = record {
  accepted = λ request t k old new answer asked.
      of_answer (line_of request t (sale_of k old)) answer asked.replies;
  refused = λ request t k old new refusal asked.
      let line = line_of request t (sale_of k old) in
      let is : line ≡ Err refusal = of_refusal line refusal asked.replies in
      (ap refusal_in is, asked.leads ∙ stays request t k old (sale_of k old) refusal is);
}
  where
    of_answer : (l : Result Line Refusal) (answer : Answer)
        → Ok answer ≡ reply_or (refusal_in l) (answer_in l)
        → (refusal_in l ≡ None) × (answer ≡ answer_in l)
    of_answer (Ok l) answer is = (refl, cc)
    of_answer (Err other) answer is = cc

    of_refusal : (l : Result Line Refusal) (refusal : Refusal)
        → Err refusal ≡ reply_or (refusal_in l) (answer_in l)
        → l ≡ Err refusal
    of_refusal (Ok l) refusal is = cc
    of_refusal (Err other) refusal is = let same : refusal ≡ other = cc in ap Err (sym same)

    stays : (request : Request) (t : ℕ) (k : Key) (s : Sales) (o : Option Sale) (refusal : Refusal)
        → line_of request t o ≡ Err refusal → after_at request t k o s ≡ s
    stays request t k s None refusal is = refl
    stays request t k s (Some x) refusal is =
        ap (λ (l : Result Line Refusal). after_line k x l s) is
