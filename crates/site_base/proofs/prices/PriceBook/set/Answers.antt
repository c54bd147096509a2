use Rattle.std.proofs.Common.{◌≡◌, ℕ, ◌≤◌, List, false, is_some, sym, ap, subst, ◌∙◌}
use Rattle.site_base.specs.declared.amounts.TheConstants.{GREATEST_PRICE}
use Rattle.site_base.specs.Table.{row_of}
use Rattle.site_base.proofs.PriceRanges.{in_range-set}
use Rattle.site_base.proofs.Places.{with_row_by-absent}
use Rattle.site_base.proofs.prices.PriceBook.set.Goals as goal

pub returns-in-None-clause-prices : goal.returns-in-None-clause-prices
returns-in-None-clause-prices c =
    let same : c.args.self.now ≡ c.deref.result.now =
    sym (c.deref.ensures.value ∙ c.self.view_is) in
    let none : is_some (row_of c.args.q c.args.self.now) ≡ false =
    ap (λ (x : List (ℕ × ℕ)). is_some (row_of c.args.q x)) same ∙ sym c.in-None.ensures.there in
    sym (with_row_by-absent (λ n. n) c.args.q c.args.price c.args.self.now none)

pub invariant_of-self : goal.invariant_of-self
invariant_of-self c = in_range-set c.self.inside.rows.items c.in-Some.place c.index_mut.result.now.0
    c.args.price c.self.invariant
    (subst (λ (m : ℕ). 1 ≤ m) c.get-mills.ensures.value c.get-mills.ensures.range.0)
    (subst (λ (m : ℕ). m ≤ GREATEST_PRICE) c.get-mills.ensures.value
    c.get-mills.ensures.range.1)
