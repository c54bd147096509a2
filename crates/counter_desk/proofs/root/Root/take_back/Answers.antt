use Rattle.std.proofs.Common.{◌≡◌, ◌+◌, ◌++◌, ◌∷◌, [], length, ap, ◌∙◌, arith}
use Rattle.std.proofs.lemmas.List.{map-append}
use Rattle.counter_desk.specs.Receipts.{ReceiptList}
use Rattle.counter_desk.specs.Roots.{calls_in, lists_of}
use Rattle.counter_desk.proofs.Lists.{total_last}
use Rattle.counter_desk.proofs.root.Root.take_back.Goals as goal

pub invariant_of-self : goal.invariant_of-self
invariant_of-self g c =
    let old = c.self.inside.returned.items in
    let came = c.into_parts-receipts.result.0 in
    let lists : lists_of c.push_reserved.new.self.items ≡ lists_of old ++ came.receipts ∷ [] =
    ap lists_of c.push_reserved.ensures.items
    ∙ map-append (λ (l : ReceiptList). l.receipts) old (came ∷ []) in
    let calls : calls_in (lists_of c.push_reserved.new.self.items) ≡ calls_in (lists_of old)
    + length came.receipts =
    ap calls_in lists ∙ total_last length (lists_of old) came.receipts in
    let same : length came.receipts ≡ length c.args.share.receipts =
    ap length c.into_parts-receipts.ensures.receipts in
    record {
      whole = c.self.invariant.whole;
      rest = omega arith;
      counted = omega arith;
      reserved = omega arith;
    }
