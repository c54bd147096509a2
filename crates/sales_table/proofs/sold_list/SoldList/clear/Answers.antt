use Rattle.std.proofs.Common.{◌≡◌, ◌-◌, List, suc, arith, drop, false, true, ap, subst, sym, ◌∙◌}
use Rattle.std.specs.List.{list_any}
use Rattle.sales_table.specs.declared.timed_sale.TimedSale.{TimedSale}
use Rattle.sales_table.specs.TimedSales.{is_named, with_clear_of}
use Rattle.sales_table.proofs.Clears.{none_cleared, one_cleared, same_there}
use Rattle.sales_table.proofs.sold_list.SoldList.clear.Goals as goal

pub returns-then-is_named : goal.returns-then-is_named
returns-then-is_named c =
    let sales = c.loop-at.self-inside.sales.items in
    let at = c.loop-at.at - 1 in
    let next : c.loop-at.at ≡ suc at = omega arith in
    let same : c.index.result.now ≡ c.index_mut.result.now =
    same_there sales at c.index.result.now c.index_mut.result.now (omega arith) c.index.ensures
    c.index_mut.ensures.value in
    one_cleared c.args.name.now c.args.time sales at c.index_mut.result.now
    (omega arith) c.index_mut.ensures.value
    (subst (λ x. is_named c.args.name.now x ≡ true) same (sym c.is_named.ensures ∙ c.if-is_named.true))
    (subst (λ n. list_any (is_named c.args.name.now) (drop n sales) ≡ false) next
    c.loop-at.invariant.none)
    ∙ ap (with_clear_of c.args.name.now c.args.time) c.loop-at.invariant.same

pub returns : goal.returns
returns c =
    let first : c.loop-at.at ≡ 0 = omega arith in
    let all : list_any (is_named c.args.name.now) c.loop-at.self-inside.sales.items ≡ false =
    subst
    (λ n. list_any (is_named c.args.name.now) (drop n c.loop-at.self-inside.sales.items) ≡ false)
    first c.loop-at.invariant.none in
    c.loop-at.invariant.same
    ∙ sym (none_cleared c.args.name.now c.args.time c.args.self.now
    (subst (λ (ts : List TimedSale). list_any (is_named c.args.name.now) ts ≡ false)
    c.loop-at.invariant.same all))
