use Rattle.std.proofs.Common.{◌+◌, length, arith}
use Rattle.counter_desk.specs.Receipts.{cents_receipted, growth_receipted}
use Rattle.counter_desk.proofs.Amounts.{total_few, total_more}
use Rattle.counter_desk.proofs.marks.sum_amounts.Goals as goal

pub overflow_add-cents : goal.overflow_add-cents
overflow_add-cents c =
    let next = total_more length c.args.lists.now c.loop-receipts.receipts-index
    c.receipts-item.result (omega arith) c.receipts-item.is in
    let few = total_few length c.args.lists.now (c.loop-receipts.receipts-index + 1) in
    omega (arith, next, few, c.cents-cents.ensures.few)

pub overflow_add-millilitres : goal.overflow_add-millilitres
overflow_add-millilitres c =
    let next = total_more length c.args.lists.now c.loop-receipts.receipts-index
    c.receipts-item.result (omega arith) c.receipts-item.is in
    let few = total_few length c.args.lists.now (c.loop-receipts.receipts-index + 1) in
    omega (arith, next, few, c.millilitres-millilitres.ensures.few)

pub loop-receipts-preserved : goal.loop-receipts-preserved
loop-receipts-preserved c =
    let i = c.loop-receipts.receipts-index in
    let r = c.receipts-item.result in
    let calls = total_more length c.args.lists.now i r (omega arith) c.receipts-item.is in
    let cents = total_more cents_receipted c.args.lists.now i r (omega arith) c.receipts-item.is in
    let millilitres = total_more growth_receipted c.args.lists.now i r (omega arith)
    c.receipts-item.is in
    record {
      cents = omega (arith, cents, c.cents-cents.ensures.value, c.loop-receipts.invariant.cents);
      millilitres = omega (
        arith,
        millilitres,
        c.millilitres-millilitres.ensures.value,
        c.loop-receipts.invariant.millilitres,
      );
      few_cents = omega (
        arith,
        calls,
        c.cents-cents.ensures.few,
        c.loop-receipts.invariant.few_cents,
      );
      few_millilitres = omega (
        arith,
        calls,
        c.millilitres-millilitres.ensures.few,
        c.loop-receipts.invariant.few_millilitres,
      );
    }
