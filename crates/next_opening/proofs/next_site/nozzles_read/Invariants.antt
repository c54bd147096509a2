use Rattle.std.proofs.Common.{◌≡◌, ◌+◌, ◌++◌, drop}
use Rattle.site_book.specs.Book.{site_of_book}
use Rattle.next_opening.specs.NextOpening.{read_from}
use Rattle.next_opening.proofs.next_site.nozzles_read.Given as goal

-- what is to follow is the nozzles that are left
abbrev pub invariant-loop-place : goal.invariant-loop-place
invariant-loop-place l =
    l.nozzles.items
    ++ read_from (site_of_book l.book).nozzles l.point.number (l.place + 1)
    (drop l.place l.point.nozzles)
    ≡ read_from (site_of_book l.book).nozzles l.point.number 1 l.point.nozzles
