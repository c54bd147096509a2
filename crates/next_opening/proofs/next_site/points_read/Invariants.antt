use Rattle.std.proofs.Common.{◌≡◌, map, take}
use Rattle.site_book.specs.Book.{site_of_book}
use Rattle.next_opening.specs.NextOpening.{with_last_readings}
use Rattle.next_opening.proofs.next_site.points_read.Given as goal

abbrev pub invariant-loop-point : goal.invariant-loop-point
invariant-loop-point l =
    l.points.items
    ≡ map (with_last_readings (site_of_book l.book).nozzles) (take l.point-index l.point-items)
