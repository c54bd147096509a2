use Rattle.std.proofs.Common.{◌≡◌, map}
use Rattle.std.specs.List.{range_with_len}
use Rattle.serde_json.specs.View.{view}
use Rattle.site_book.specs.Book.{site_of_book}
use Rattle.site_json.specs.Tills.{till_data}
use Rattle.site_json.proofs.tills.till_values.Given as goal

abbrev pub invariant-loop-cell : goal.invariant-loop-cell
invariant-loop-cell l =
    map view l.values.items ≡ map (till_data (site_of_book l.book)) (range_with_len 1 l.cell)
