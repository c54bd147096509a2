-- The figures that can be counted over the sales.
use Rattle.std.specs.Prelude.{ℕ, if◌then◌else◌}
use Rattle.transaction_buffer.specs.declared.figure.Figure.{Figure}
use Rattle.transaction_buffer.specs.declared.figure.Figure.TheVariants.{Volume, Clears, Cents}
use Rattle.transaction_buffer.specs.declared.figure.Figure.TheVariants.{ClearsIn, CentsIn}
use Rattle.transaction_buffer.specs.declared.figure.Figure.TheVariants.{ClearedIn, ProductCentsIn}
use Rattle.transaction_buffer.specs.Clears.{is_clear_of, is_cleared_by, is_cleared_in}
use Rattle.transaction_buffer.specs.Sales.{Sale, Sales}
use Rattle.transaction_buffer.specs.Sums.{product_cents, sum_of, volume_in, volume_with}

-- what a sale adds to the figure
abbrev pub figure_in : Figure → Sale → ℕ
figure_in (Volume q status) = volume_with q status
figure_in (Clears t) = λ x. if is_cleared_by t x.standing then 1 else 0
figure_in (Cents t) = λ x. if is_cleared_by t x.standing then x.cents else 0
figure_in (ClearsIn h t) = λ x. if is_clear_of h t x then 1 else 0
figure_in (CentsIn h t) = λ x. if is_clear_of h t x then x.cents else 0
figure_in (ClearedIn h q) = λ x. if is_cleared_in h x.standing then volume_in q x else 0
figure_in (ProductCentsIn h q) = λ x. if is_cleared_in h x.standing then product_cents q x else 0

-- the figure over all sales
abbrev pub figure_of : Figure → Sales → ℕ
figure_of figure sales = sum_of (figure_in figure) sales
