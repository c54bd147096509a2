use Rattle.std.proofs.Common.{arith}
use Rattle.forecourt_engines.proofs.Splitting.{all_comment, all_skipped, comment_skipped, skipped}
use Rattle.forecourt_engines.proofs.words.splitting.skip_spaces.Goals as goal

pub returns-then-not-is_space-clause-words : goal.returns-then-not-is_space-clause-words
returns-then-not-is_space-clause-words c =
    rw c.split_at.ensures.back
    (skipped c.loop-at.at c.args.text.now (omega arith) c.loop-at.invariant)

pub returns-clause-words : goal.returns-clause-words
returns-clause-words c =
    all_skipped c.args.text.now (λ k low. c.loop-at.invariant k (omega arith))

pub returns-then-not-is_space-clause-comment : goal.returns-then-not-is_space-clause-comment
returns-then-not-is_space-clause-comment c =
    rw c.split_at.ensures.back
    (comment_skipped c.loop-at.at c.args.text.now (omega arith) c.loop-at.invariant)

pub returns-clause-comment : goal.returns-clause-comment
returns-clause-comment c =
    all_comment c.args.text.now (λ k low. c.loop-at.invariant k (omega arith))
