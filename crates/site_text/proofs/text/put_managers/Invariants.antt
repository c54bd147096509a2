use Rattle.std.proofs.Common.{◌≡◌, ◌++◌, codes, decimal, string_bytes, drop, flat_map}
use Rattle.site_text.specs.SiteText.{listed}
use Rattle.site_text.proofs.text.put_managers.Given as goal

-- what is to follow is the managers that are left, each after a comma
abbrev pub invariant-loop-till : goal.invariant-loop-till
invariant-loop-till l =
    string_bytes l.text ++ flat_map (λ t. codes ", " ++ decimal t) (drop l.till-index l.others)
    ≡ string_bytes l.fn.text ++ listed decimal l.fn.managers
