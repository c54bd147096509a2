-- Today's prices.
use Rattle.std.specs.Prelude.{ℕ, Bool, List, map}
use Rattle.std.specs.List.{list_all}
use Rattle.site_base.specs.declared.amounts.TheConstants.{GREATEST_PRICE}
use Rattle.site_base.specs.Ranges.{is_between}
use Rattle.site_base.specs.declared.config.ProductEntry.{ProductEntry}

-- the products' numbers with their configured prices, in configured order
abbrev pub prices_of : List ProductEntry → List (ℕ × ℕ)
prices_of products = map (λ p. (p.number, p.price)) products

-- each product's price is one that a product may have
abbrev pub are_in_range : List (ℕ × ℕ) → Bool
are_in_range prices = list_all (λ p. is_between 1 GREATEST_PRICE p.1) prices
