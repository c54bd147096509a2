use Rattle.std.proofs.Common.{◌+◌, length, if◌then◌else◌}
use Rattle.chapters.proofs.ReadingChapters.{ReadsChapter}
use Rattle.chapters.proofs.reader.HistoryReader.read_chapter.Given as goal

-- so far the reader has read the chapter's lines ahead of what is left
abbrev pub invariant-loop-is_left : goal.invariant-loop-is_left
invariant-loop-is_left l = ReadsChapter l.text l.rest l.is_left l.fn.self l.self

abbrev pub decreases-loop-is_left : goal.decreases-loop-is_left
decreases-loop-is_left l = length l.rest + (if l.is_left then 1 else 0)
