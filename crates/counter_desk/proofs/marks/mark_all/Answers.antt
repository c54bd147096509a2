use Rattle.std.proofs.Common.{[], false, length, take, drop, suc, ap, sym, subst, ◌∙◌, arith}
use Rattle.std.proofs.lemmas.List.{length-replicate}
use Rattle.counter_desk.specs.Marks.{AreAllMarked}
use Rattle.counter_desk.specs.Roots.{lists_of}
use Rattle.counter_desk.specs.Settlement.{IsStrangeAmong, one_at}
use Rattle.counter_desk.proofs.Amounts.{lists_more, lists_split}
use Rattle.counter_desk.proofs.MarkedLists.{all_marked_more, all_marked_none}
use Rattle.counter_desk.proofs.marks.mark_all.Goals as goal

pub loop-receipts-init : goal.loop-receipts-init
loop-receipts-init g c = record {
  len = ap length c.requires ∙ length-replicate (length c.args.site.now) false;
  all =
      subst (λ marks. AreAllMarked c.args.site.now marks []) (sym c.requires)
      (all_marked_none c.args.site.now (length c.args.site.now));
}

pub returns-in-Err-clause-err : goal.returns-in-Err-clause-err
returns-in-Err-clause-err g c =
    let i = c.loop-receipts.receipts-index in
    let r = c.receipts-item.result in
    record {
      before = lists_of (take i c.args.lists.now);
      after = lists_of (drop (suc i) c.args.lists.now);
      receipts = r.receipts;
      parts = lists_split c.args.lists.now i r (omega arith) c.receipts-item.is;
      there =
          subst (λ earlier. IsStrangeAmong c.args.site.now earlier r.receipts c.in-Err.place)
          (c.loop-receipts.invariant.all.weighed (one_at c.in-Err.place)) c.in-Err.ensures.err;
    }

pub loop-receipts-preserved : goal.loop-receipts-preserved
loop-receipts-preserved g c =
    let i = c.loop-receipts.receipts-index in
    let r = c.receipts-item.result in
    record {
      len = c.mark_list.ensures.length ∙ c.loop-receipts.invariant.len;
      all =
          subst (λ lists. AreAllMarked c.args.site.now c.mark_list.new.marks lists)
          (sym (lists_more c.args.lists.now i r (omega arith) c.receipts-item.is))
          (all_marked_more c.args.site.now c.loop-receipts.marks c.mark_list.new.marks
          (lists_of (take i c.args.lists.now)) r.receipts c.loop-receipts.invariant.all
          c.in-Ok.ensures.ok);
    }
