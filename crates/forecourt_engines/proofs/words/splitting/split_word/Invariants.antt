use Rattle.forecourt_engines.proofs.Splitting.{AreNoSpaces}
use Rattle.forecourt_engines.proofs.words.splitting.split_word.Given as goal

abbrev pub invariant-loop-at : goal.invariant-loop-at
invariant-loop-at l = AreNoSpaces l.at l.text
