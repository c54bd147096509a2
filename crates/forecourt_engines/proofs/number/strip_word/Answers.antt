use Rattle.std.proofs.Common.{◌≡◌, true, false}
use Rattle.forecourt_engines.proofs.Numerals.{front_is}
use Rattle.forecourt_engines.proofs.number.strip_word.Goals as goal

pub returns-else-is_word-clause-other : goal.returns-else-is_word-clause-other
returns-else-is_word-clause-other c = λ rest is.
    let found : false ≡ true = c.if-is_word.ensures.1
    (front_is c.args.word.now c.args.text.now c.split_at.result.0.now rest
    c.split_at.ensures.front is) in
    cc
