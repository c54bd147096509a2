use Rattle.std.proofs.Common.{◌≡◌, [], drop}
use Rattle.toml.specs.View.{items_view}
use Rattle.site_file.specs.SiteFile.{points_from}
use Rattle.site_file.proofs.points.points_in.Given as goal

abbrev pub invariant-loop-member : goal.invariant-loop-member
invariant-loop-member l =
    points_from l.products l.points.items (items_view (drop l.member-index l.members))
    ≡ points_from l.products [] (items_view l.members)
