use Rattle.forecourt_engines.proofs.Splitting.{AreSpaces}
use Rattle.forecourt_engines.proofs.words.splitting.skip_spaces.Given as goal

abbrev pub invariant-loop-at : goal.invariant-loop-at
invariant-loop-at l = AreSpaces l.at l.text
