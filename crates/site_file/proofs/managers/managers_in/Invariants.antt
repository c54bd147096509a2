use Rattle.std.proofs.Common.{◌≡◌, [], drop}
use Rattle.toml.specs.View.{items_view}
use Rattle.site_file.specs.SiteFile.{managers_from}
use Rattle.site_file.proofs.managers.managers_in.Given as goal

abbrev pub invariant-loop-member : goal.invariant-loop-member
invariant-loop-member l =
    managers_from l.managers.items (items_view (drop l.member-index l.members))
    ≡ managers_from [] (items_view l.members)
