use Rattle.std.proofs.Common.{◌≡◌, map, take}
use Rattle.serde_json.specs.View.{view}
use Rattle.site_book.specs.Book.{site_of_book}
use Rattle.site_gaps.specs.MomentData.{calls_data}
use Rattle.site_gaps.proofs.moments.call_values.Given as goal

abbrev pub invariant-loop-point : goal.invariant-loop-point
invariant-loop-point l =
    map view l.values.items
    ≡ calls_data (site_of_book l.book) l.moments (take l.point-index l.point-items)
