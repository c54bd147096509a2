use Rattle.std.proofs.Common.{◌≡◌, ◌+◌, ◌++◌, drop, map}
use Rattle.serde_json.specs.View.{view}
use Rattle.meters.specs.Nozzles.{number_nozzles}
use Rattle.site_book.specs.Book.{site_of_book}
use Rattle.site_json.specs.Nozzles.{nozzle_data}
use Rattle.site_json.proofs.nozzles.nozzle_values.Given as goal

-- what is to follow is the nozzles that are left
abbrev pub invariant-loop-place : goal.invariant-loop-place
invariant-loop-place l =
    map view l.values.items ++ map (nozzle_data (site_of_book l.book))
    (number_nozzles l.point.number (l.place + 1) (drop l.place l.point.nozzles))
    ≡ map (nozzle_data (site_of_book l.book)) (number_nozzles l.point.number 1 l.point.nozzles)
