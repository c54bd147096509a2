use Rattle.std.proofs.Common.{◌≡◌, ◌++◌, take}
use Rattle.std.specs.Prelude.{flat_map, string_bytes}
use Rattle.site_metrics.specs.Metrics.{state_text}
use Rattle.site_metrics.proofs.figures.put_states.Given as goal

abbrev pub invariant-loop-state : goal.invariant-loop-state
invariant-loop-state l =
    string_bytes l.text
    ≡ string_bytes l.fn.text ++ flat_map (state_text l.book) (take l.state-index l.states)
