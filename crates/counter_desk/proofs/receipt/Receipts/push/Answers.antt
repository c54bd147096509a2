use Rattle.std.proofs.Common.{◌≡◌, ◌+◌, ◌++◌, ◌∷◌, [], length, arith, ap, sym, subst, ◌∙◌}
use Rattle.std.proofs.lemmas.List.{length_push}
use Rattle.site_base.specs.Events.{cents_in_reply, growth_in_reply}
use Rattle.counter_desk.specs.declared.receipt.Receipt.{Receipt}
use Rattle.counter_desk.specs.Receipts.{IsTallied, receipt_at, receipts_at}
use Rattle.counter_desk.proofs.KeptReceipts.{one_more}
use Rattle.counter_desk.proofs.Lists.{total_last}
use Rattle.counter_desk.proofs.receipt.Receipts.push.Goals as goal
use Rattle.counter_desk.proofs.receipt.Receipts.push.Goals.{After-push}

-- the receipts are one more
pushed : (c : After-push)
    → receipts_at c.push_reserved.new.self.items c.push.new.self.rows
    ≡ receipts_at c.self.inside.places.items c.self.inside.rows.rows
    ++ receipt_at c.args.place c.args.row.now ∷ []
pushed c =
    let inside = c.self.inside in
    ap (λ places. receipts_at places c.push.new.self.rows) c.push_reserved.ensures.items
    ∙ ap (receipts_at (inside.places.items ++ c.args.place ∷ [])) c.push.ensures.rows
    ∙ one_more inside.places.items inside.rows.rows c.args.place c.args.row.now
    c.self.invariant.as_many

pub invariant_of-self : goal.invariant_of-self
invariant_of-self c =
    let inside = c.self.inside in
    let kept = c.self.invariant in
    let receipts = receipts_at inside.places.items inside.rows.rows in
    let receipt = receipt_at c.args.place c.args.row.now in
    let one = length_push receipts receipt in
    let tallied = kept.tallied in
    record {
      as_many = omega (
        arith,
        kept.as_many,
        ap length c.push_reserved.ensures.items,
        ap length c.push.ensures.rows,
        length_push inside.places.items c.args.place,
        length_push inside.rows.rows c.args.row.now,
      );
      room_in_rows = omega (arith, kept.room_in_rows, c.push.ensures.room);
      room_in_places = omega (
        arith,
        kept.room_in_places,
        c.push_reserved.ensures.len,
        c.push_reserved.ensures.capacity,
      );
      tallied = subst (IsTallied (inside.cents + c.cents_of.result)
          (inside.millilitres + c.growth_in_reply.result))
          (sym (pushed (goal.at.invariant_of-self c).After-push)) (record {
            cents_are = omega (
              arith,
              tallied.cents_are,
              c.cents_of.ensures.value,
              total_last (λ (r : Receipt). cents_in_reply r.reply) receipts receipt,
            );
            millilitres_are = omega (
              arith,
              tallied.millilitres_are,
              c.growth_in_reply.ensures,
              total_last (λ (r : Receipt). growth_in_reply r.reply) receipts receipt,
            );
            few_cents = omega (arith, tallied.few_cents, c.cents_of.ensures.range, one);
            few_millilitres = omega (
              arith,
              tallied.few_millilitres,
              c.growth_in_reply.ensures,
              c.requires.growth,
              one,
            );
          });
    }

pub returns-clause-receipts : goal.returns-clause-receipts
returns-clause-receipts c =
    pushed (goal.at.returns-clause-receipts c).After-push
    ∙ ap (λ list. list.receipts ++ receipt_at c.args.place c.args.row.now ∷ []) c.self.view_is
