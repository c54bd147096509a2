use Rattle.std.proofs.Common.{◌≡◌, ◌+◌, ◌≤◌, length}
use Rattle.forecourt_engines.specs.LineWords.{BeginsNoSpace, words_in}
use Rattle.forecourt_engines.proofs.words.splitting.count_words.Given as goal

abbrev pub invariant-loop-rest : goal.invariant-loop-rest
invariant-loop-rest l = record {
  counted : l.count + length (words_in l.rest) ≡ length (words_in l.fn.text);
  begins : BeginsNoSpace l.rest;
  short : l.count + length l.rest ≤ length l.fn.text;
}

abbrev pub decreases-loop-rest : goal.decreases-loop-rest
decreases-loop-rest l = length l.rest
