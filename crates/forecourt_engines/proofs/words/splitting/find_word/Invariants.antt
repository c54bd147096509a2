use Rattle.std.proofs.Common.{◌≡◌, ◌+◌, length, slice_get}
use Rattle.forecourt_engines.specs.LineWords.{BeginsNoSpace, words_in}
use Rattle.forecourt_engines.proofs.words.splitting.find_word.Given as goal

abbrev pub invariant-loop-rest : goal.invariant-loop-rest
invariant-loop-rest l = record {
  same : slice_get (words_in l.rest) l.left ≡ slice_get (words_in l.fn.text) l.others;
  begins : BeginsNoSpace l.rest;
  passed : length (words_in l.fn.text) + l.left ≡ length (words_in l.rest) + l.others;
}

abbrev pub decreases-loop-rest : goal.decreases-loop-rest
decreases-loop-rest l = length l.rest
