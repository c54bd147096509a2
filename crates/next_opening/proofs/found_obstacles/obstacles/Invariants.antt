use Rattle.std.proofs.Common.{◌≡◌, flat_map}
use Rattle.std.specs.List.{range_with_len}
use Rattle.site_book.specs.Book.{site_of_book}
use Rattle.next_opening.specs.Obstacles.{at_point}
use Rattle.next_opening.proofs.found_obstacles.obstacles.Given as goal

abbrev pub invariant-loop-cell : goal.invariant-loop-cell
invariant-loop-cell l =
    l.found.items
    ≡ flat_map (at_point (site_of_book l.book) l.sales) (range_with_len 1 l.cell)
