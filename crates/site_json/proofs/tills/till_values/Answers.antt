use Rattle.std.proofs.Common.{◌++◌, ◌∷◌, [], ℕ, List, map, sym, ap, ◌∙◌}
use Rattle.std.specs.List.{range_with_len}
use Rattle.serde_json.specs.Data.{Data}
use Rattle.site_book.specs.Book.{site_of_book}
use Rattle.site_core.proofs.ToldInOrder.{one_more}
use Rattle.site_json.specs.Tills.{till_data}
use Rattle.site_json.proofs.tills.till_values.Goals as goal

pub loop-cell-preserved : goal.loop-cell-preserved
loop-cell-preserved c =
    let shown : ℕ → Data = till_data (site_of_book c.args.book.now) in
    c.in_ok-add_till.ensures
    ∙ ap (λ (xs : List Data). xs ++ shown c.of_cell.result ∷ []) c.loop-cell.invariant
    ∙ ap (λ (t : ℕ). map shown (range_with_len 1 c.loop-cell.cell) ++ shown t ∷ [])
    c.of_cell.ensures
    ∙ sym (one_more shown c.loop-cell.cell)
