use Rattle.std.proofs.Common.{rules, map}
use Rattle.site_base.specs.declared.event.Event.{Event}
use Rattle.forecourt_engines.specs.EventNames.{IsSaid}
use Rattle.forecourt_engines.specs.declared.words.event_name.EventName.TheVariants as names
use Rattle.forecourt_engines.proofs.Unsaid.{unsaid}
use Rattle.forecourt_engines.proofs.words.event.read_event.Goals as goal

pub returns-in_err-p-in-Release-clause-other : goal.returns-in_err-p-in-Release-clause-other
returns-in_err-p-in-Release-clause-other c =
    let none : (event : Event)
    → ¬ IsSaid c.args.name (map (λ w. w.now) c.args.words.now) event =
    rw c.in-Release.is
    (unsaid names.Release (map (λ w. w.now) c.args.words.now)
    c.in_err-p-in-Release.ensures.other) in
    search rules
