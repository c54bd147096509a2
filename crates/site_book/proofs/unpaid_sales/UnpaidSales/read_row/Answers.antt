use Rattle.std.proofs.Common.{◌+◌, List, slice_get, subst, sym, ap, ◌∙◌}
use Rattle.site_book.specs.declared.named_sale.NamedSale.{NamedSale}
use Rattle.site_book.specs.Unpaid.{GoesBy, Kept}
use Rattle.site_book.proofs.Reading.{row_kept}
use Rattle.site_book.proofs.unpaid_sales.UnpaidSales.read_row.Goals as goal

pub returns-clause-kept : goal.returns-clause-kept
returns-clause-kept c = λ goes.
    let b = c.args.book.now in
    let inside = c.self.inside in
    let kept : Kept =
    record { place = inside.place; shift = inside.shift; sales = inside.sales.items } in
    let next = c.shift_after-self-inside.result in
    subst (λ (sales : List NamedSale).
    GoesBy (record { place = inside.place + 1; shift = next; sales = sales }) b)
    (sym c.in_ok-push_if.ensures.ok)
    (row_kept b kept c.args.row.now c.sale_made.result next
    (ap (λ (k : Kept). slice_get b.rows k.place) c.self.view_is ∙ c.requires)
    c.len.ensures.legal c.sale_made.ensures c.shift_after-self-inside.ensures
    (subst (λ (k : Kept). GoesBy k b) (sym c.self.view_is) goes))
