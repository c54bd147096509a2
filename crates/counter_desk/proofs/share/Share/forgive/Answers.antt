use Rattle.std.proofs.Common.{◌-◌, arith}
use Rattle.counter_desk.proofs.OwedTills.{set_fewer}
use Rattle.counter_desk.proofs.share.Share.forgive.Goals as goal

pub invariant_of-self : goal.invariant_of-self
invariant_of-self g c = record {
  part = c.self.invariant.part;
  counted = c.self.invariant.counted;
  reserved = rw c.set.ensures (omega
      (arith, set_fewer c.self.inside.owed (c.args.t - 1), c.self.invariant.reserved));
}
