use Rattle.std.proofs.Common.{◌≡◌, ◌++◌, take}
use Rattle.std.specs.Prelude.{flat_map, string_bytes}
use Rattle.site_metrics.specs.Tallied.{refusal_text}
use Rattle.site_metrics.proofs.tallied.put_each.Given as goal

abbrev pub invariant-loop-refusal : goal.invariant-loop-refusal
invariant-loop-refusal l =
    string_bytes l.text
    ≡ string_bytes l.fn.text ++ flat_map (refusal_text l.tally) (take l.refusal-index l.refusals)
