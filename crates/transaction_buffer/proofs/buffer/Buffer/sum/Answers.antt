use Rattle.std.proofs.Common.{◌∙◌, arith}
use Rattle.transaction_buffer.proofs.buffer.Buffer.sum.Goals as goal

pub returns : goal.returns
returns c = rw (← c.self.view_is) (record {
  value = c.get-2.ensures
      ∙ c.self.invariant.sums.kept c.args.q c.args.status (omega arith) (omega arith);
  fits = c.self.invariant.sums.fit c.args.q;
})
