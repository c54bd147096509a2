use Rattle.std.proofs.Common.{ℕ, sym, ap, ◌∙◌, arith}
use Rattle.site_book.specs.Book.{site_of_book}
use Rattle.site_core.specs.Accounts.{takings_of}
use Rattle.site_json.proofs.Takings.{takings_there}
use Rattle.site_json.proofs.tills.takings.Goals as goal

pub returns : goal.returns
returns c =
    let s = site_of_book c.args.book.now in
    takings_there c.open_shift.result c.cell.result c.args.till s.sales s.drawn c.in-Some.figures
    (sym c.shift.ensures ∙ c.in-Some.is) c.cell.ensures.place
    (omega (arith, c.cell.ensures.within))
    ∙ ap (λ (h : ℕ). takings_of h s.sales c.args.till) c.open_shift.ensures
