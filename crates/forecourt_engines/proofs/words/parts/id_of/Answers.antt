use Rattle.forecourt_engines.proofs.TextParts.{no_seq, no_shift}
use Rattle.forecourt_engines.proofs.words.parts.id_of.Goals as goal

pub returns-in_default-shift_of-clause-other : goal.returns-in_default-shift_of-clause-other
returns-in_default-shift_of-clause-other c = λ sale.
    no_shift c.args.word.now c.in-Some.first.now c.in-Some.last.now sale
    c.in-Some.ensures.found.0 c.in-Some.ensures.found.1 c.in_default-shift_of.ensures.other

pub returns-in_default-seq_of-clause-other : goal.returns-in_default-seq_of-clause-other
returns-in_default-seq_of-clause-other c = λ sale.
    no_seq c.args.word.now c.in-Some.first.now c.in-Some.last.now sale
    c.in-Some.ensures.found.0 c.in-Some.ensures.found.1 c.in_default-seq_of.ensures.other
