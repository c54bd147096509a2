-- The figures of the rows between two moments of a history, from the totals at both.
use Rattle.std.specs.Prelude.{ℕ, ◌-◌, List, [], ◌∷◌}
use Rattle.site_base.specs.declared.totals.Totals.{Totals}
use Rattle.site_base.specs.declared.view.ProductView.{ProductView}

-- what was metered, cleared and adjusted of a product between them; what is running, payable and
-- locked at the later one, and its price
abbrev pub product_between : ProductView → ProductView → ProductView
product_between before after = record after {
  metered = after.metered - before.metered;
  cleared = after.cleared - before.cleared;
  adjusted = after.adjusted - before.adjusted;
}

abbrev pub products_between : List ProductView → List ProductView → List ProductView
products_between (b ∷ before) (a ∷ after) = product_between b a ∷ products_between before after
products_between before after = []

-- a till with the transactions that it cleared between them, and their cents
abbrev pub till_between : ℕ × ℕ × ℕ → ℕ × ℕ × ℕ → ℕ × ℕ × ℕ
till_between before after = (after.0, after.1 - before.1, after.2 - before.2)

abbrev pub tills_between : List (ℕ × ℕ × ℕ) → List (ℕ × ℕ × ℕ) → List (ℕ × ℕ × ℕ)
tills_between (b ∷ before) (a ∷ after) = till_between b a ∷ tills_between before after
tills_between before after = []

-- the rows between them, each product's figures, and what each till cleared
abbrev pub figures_between : Totals → Totals → Totals
figures_between before after = record {
  rows = after.rows - before.rows;
  products = products_between before.products after.products;
  tills = tills_between before.tills after.tills;
}
