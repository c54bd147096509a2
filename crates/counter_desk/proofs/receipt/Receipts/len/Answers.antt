use Rattle.std.proofs.Common.{length, ap, arith}
use Rattle.counter_desk.proofs.KeptReceipts.{as_many}
use Rattle.counter_desk.proofs.receipt.Receipts.len.Goals as goal

pub returns : goal.returns
returns c = omega (
  arith,
  c.len.ensures,
  as_many c.self.inside.places.items c.self.inside.rows.rows c.self.invariant.as_many,
  ap (λ list. length list.receipts) c.self.view_is,
)
