-- The figures of a book: those of its rows.
use Rattle.std.specs.Prelude.{◌≡◌, ℕ, length}
use Rattle.site_base.specs.declared.totals.Totals.{Totals}
use Rattle.site_base.specs.Events.{cents_in_reply, growth_in_reply}
use Rattle.written_site.specs.RowWords.{total}
use Rattle.written_site.specs.ShiftFigures.{product_totals, till_totals}
use Rattle.site_book.specs.Book.{Book, site_of_book}

-- the totals are the figures of the book's rows: how many there are, and of the site that they lead
-- to each product's figures in configured order, and each till's clears and their cents
pub record AreFiguresOf (b : Book) (totals : Totals) : Type 0 where
  pub rows : totals.rows ≡ length b.rows
  pub products : totals.products ≡ product_totals (site_of_book b)
  pub tills : totals.tills ≡ till_totals (site_of_book b)

-- the millilitres that were metered of all products
abbrev pub metered_in : Totals → ℕ
metered_in totals = total (λ q. q.metered) totals.products

-- the cents that all tills cleared
abbrev pub cents_in : Totals → ℕ
cents_in totals = total (λ t. t.2) totals.tills

-- The totals add up to what the book's rows tell: the products' metered volumes to the growths, the
-- tills' cents to those of the Cleared answers.
pub record AddUp (b : Book) (totals : Totals) : Type 0 where
  pub metered : metered_in totals ≡ total (λ r. growth_in_reply r.reply) b.rows
  pub cleared : cents_in totals ≡ total (λ r. cents_in_reply r.reply) b.rows

-- so do all figures of the book
abbrev pub DoFiguresAddUp : Book → Type 0
DoFiguresAddUp b = (totals : Totals) → AreFiguresOf b totals → AddUp b totals
