use Rattle.std.proofs.Common.{◌≡◌, ◌++◌, drop, map}
use Rattle.next_opening.specs.NextOpening.{priced}
use Rattle.next_opening.proofs.next_site.priced_products.Given as goal

-- what is to follow is the products that are left
abbrev pub invariant-loop-at : goal.invariant-loop-at
invariant-loop-at l =
    l.at_prices.items ++ priced (drop l.at l.products) (map (λ v. v.price) (drop l.at l.views))
    ≡ priced l.products (map (λ v. v.price) l.views)
