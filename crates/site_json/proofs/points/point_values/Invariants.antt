use Rattle.std.proofs.Common.{◌≡◌, map, take}
use Rattle.serde_json.specs.View.{view}
use Rattle.site_book.specs.Book.{site_of_book}
use Rattle.site_json.specs.Points.{points_data}
use Rattle.site_json.proofs.points.point_values.Given as goal

abbrev pub invariant-loop-point : goal.invariant-loop-point
invariant-loop-point l =
    map view l.values.items
    ≡ points_data (site_of_book l.book) l.sessions (take l.point-index l.point-items)
