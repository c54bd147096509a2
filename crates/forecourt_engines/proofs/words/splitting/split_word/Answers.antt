use Rattle.std.proofs.Common.{arith, sym, ◌∙◌}
use Rattle.forecourt_engines.proofs.Splitting.{all_word, split_there}
use Rattle.forecourt_engines.proofs.words.splitting.split_word.Goals as goal

pub returns-then-is_space-clause-words : goal.returns-then-is_space-clause-words
returns-then-is_space-clause-words c =
    rw (c.split_at.ensures.front, c.split_at.ensures.back)
    (split_there c.args.text.now c.loop-at.at (omega arith) c.loop-at.invariant c.requires.begins
    (sym c.is_space.ensures ∙ c.if-is_space.true))

pub returns-clause-words : goal.returns-clause-words
returns-clause-words c =
    all_word c.args.text.now c.requires.some (λ k low. c.loop-at.invariant k (omega arith))
