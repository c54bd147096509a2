use Rattle.std.proofs.Common.{◌≡◌, [], drop}
use Rattle.toml.specs.View.{items_view}
use Rattle.site_file.specs.SiteFile.{nozzles_from}
use Rattle.site_file.proofs.points.nozzles_in.Given as goal

abbrev pub invariant-loop-member : goal.invariant-loop-member
invariant-loop-member l =
    nozzles_from l.products l.nozzles.items (items_view (drop l.member-index l.members))
    ≡ nozzles_from l.products [] (items_view l.members)
