use Rattle.std.proofs.Common.{◌≡◌, ◌++◌, codes, string_bytes, drop, flat_map}
use Rattle.site_text.specs.SiteText.{listed, nozzle_text}
use Rattle.site_text.proofs.text.put_nozzles.Given as goal

-- what is to follow is the nozzles that are left, each after a comma
abbrev pub invariant-loop-nozzle : goal.invariant-loop-nozzle
invariant-loop-nozzle l =
    string_bytes l.text
    ++ flat_map (λ n. codes ", " ++ nozzle_text n) (drop l.nozzle-index l.others)
    ≡ string_bytes l.fn.text ++ listed nozzle_text l.fn.nozzles
