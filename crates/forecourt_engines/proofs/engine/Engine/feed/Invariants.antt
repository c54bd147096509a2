use Rattle.std.proofs.Common.{◌≡◌, ◌++◌, length}
use Rattle.forecourt_engines.specs.Text.{after, text_from}
use Rattle.forecourt_engines.proofs.engine.Engine.feed.Given as goal

-- what is left leads where the piece leads, and says what the piece says and wasn't said
abbrev pub invariant-loop-end : goal.invariant-loop-end
invariant-loop-end l = record {
  state : after l.self l.rest ≡ after l.fn.self l.piece;
  text : l.out.items ++ text_from l.self l.rest ≡ l.fn.out.items ++ text_from l.fn.self l.piece;
}

abbrev pub decreases-loop-end : goal.decreases-loop-end
decreases-loop-end l = length l.rest
