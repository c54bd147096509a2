use Rattle.std.proofs.Common.{◌≡◌, ◌++◌, length, map}
use Rattle.forecourt_engines.specs.LineWords.{BeginsNoSpace, words_in}
use Rattle.forecourt_engines.proofs.words.splitting.split_words.Given as goal

abbrev pub invariant-loop-rest : goal.invariant-loop-rest
invariant-loop-rest l = record {
  words : map (λ w. w.now) l.words.items ++ words_in l.rest ≡ words_in l.fn.text;
  begins : BeginsNoSpace l.rest;
}

abbrev pub decreases-loop-rest : goal.decreases-loop-rest
decreases-loop-rest l = length l.rest
