use Rattle.forecourt_engines.proofs.TextParts.{sale_parts}
use Rattle.forecourt_engines.proofs.words.parts.sale_of.Goals as goal

pub returns-in_default-point_of-clause-other : goal.returns-in_default-point_of-clause-other
returns-in_default-point_of-clause-other c = λ p sale said.
    c.in_default-point_of.ensures.other p
    (sale_parts c.args.word.now c.in-Some.first.now c.in-Some.last.now p sale
    c.in-Some.ensures.found.0 c.in-Some.ensures.found.1 said).0

pub returns-in_default-id_of-clause-other : goal.returns-in_default-id_of-clause-other
returns-in_default-id_of-clause-other c = λ p sale said.
    c.in_default-id_of.ensures.other sale
    (sale_parts c.args.word.now c.in-Some.first.now c.in-Some.last.now p sale
    c.in-Some.ensures.found.0 c.in-Some.ensures.found.1 said).1
