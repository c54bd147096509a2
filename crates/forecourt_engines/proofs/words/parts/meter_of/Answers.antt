use Rattle.forecourt_engines.proofs.TextParts.{meter_parts}
use Rattle.forecourt_engines.proofs.words.parts.meter_of.Goals as goal

pub returns-in_default-nozzle_of-clause-other : goal.returns-in_default-nozzle_of-clause-other
returns-in_default-nozzle_of-clause-other c = λ n reading said.
    c.in_default-nozzle_of.ensures.other n
    (meter_parts c.args.word.now c.in-Some.first.now c.in-Some.last.now n reading
    c.in-Some.ensures.found.0 c.in-Some.ensures.found.1 said).0

pub returns-in_default-reading_of-clause-other : goal.returns-in_default-reading_of-clause-other
returns-in_default-reading_of-clause-other c = λ n reading said.
    c.in_default-reading_of.ensures.other reading
    (meter_parts c.args.word.now c.in-Some.first.now c.in-Some.last.now n reading
    c.in-Some.ensures.found.0 c.in-Some.ensures.found.1 said).1
