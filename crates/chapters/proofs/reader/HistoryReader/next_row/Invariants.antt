use Rattle.std.proofs.Common.{length}
use Rattle.chapters.proofs.Reading.{ReadsOn}
use Rattle.chapters.proofs.reader.HistoryReader.next_row.Given as goal

-- so far the reader has read the lines ahead of what is left, none of which made a row
abbrev pub invariant-loop-end : goal.invariant-loop-end
invariant-loop-end l = ReadsOn l.text l.rest l.fn.self l.self

abbrev pub decreases-loop-end : goal.decreases-loop-end
decreases-loop-end l = length l.rest
