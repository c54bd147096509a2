use Rattle.std.proofs.Common.{◌≡◌, ◌++◌, string_bytes, drop, flat_map}
use Rattle.site_text.specs.SiteText.{point_text}
use Rattle.site_text.proofs.text.put_points.Given as goal

-- what is to follow is the points that are left
abbrev pub invariant-loop-point : goal.invariant-loop-point
invariant-loop-point l =
    string_bytes l.text ++ flat_map point_text (drop l.point-index l.points)
    ≡ string_bytes l.fn.text ++ flat_map point_text l.points
