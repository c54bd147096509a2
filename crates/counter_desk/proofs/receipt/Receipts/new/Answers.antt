use Rattle.std.proofs.Common.{◌≡◌, [], length, arith, ap, refl, sym, subst}
use Rattle.counter_desk.specs.Receipts.{IsTallied, receipts_at}
use Rattle.counter_desk.proofs.receipt.Receipts.new.Goals as goal

pub returns : goal.returns
unfolding receipts_at
returns c = ap (λ places. receipts_at places c.new-2.result.rows) c.new.ensures.items

pub invariant_of-result : goal.invariant_of-result
invariant_of-result c = record {
  as_many = omega (arith, ap length c.new.ensures.items, ap length c.new-2.ensures.rows);
  room_in_rows = omega arith;
  room_in_places = omega arith;
  tallied = subst (IsTallied 0 0) (sym (returns c)) (record {
    cents_are = refl;
    millilitres_are = refl;
    few_cents = omega arith;
    few_millilitres = omega arith;
  });
}
