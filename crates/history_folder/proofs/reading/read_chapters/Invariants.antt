use Rattle.history_folder.specs.Reading.{HasReadSome}
use Rattle.history_folder.proofs.reading.read_chapters.Given as goal

-- so far the reader has read so many chapters
abbrev pub invariant-loop-place : goal.invariant-loop-place
invariant-loop-place g l = HasReadSome l.place l.reader
