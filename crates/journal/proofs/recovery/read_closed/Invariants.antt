use Rattle.std.proofs.Common.{◌≡◌}
use Rattle.journal.specs.Recovering.{HasReadTo}
use Rattle.journal.proofs.recovery.read_closed.Given as goal

-- so far the reader has read so many closed chapters, and nothing was done to the disk
abbrev pub invariant-loop-place : goal.invariant-loop-place
invariant-loop-place g l = record {
  read : HasReadTo l.place (g.D.Disk.file l.fn.disk) l.reader;
  same : g.D.Disk.file l.disk ≡ g.D.Disk.file l.fn.disk;
  site : l.reader.site ≡ l.fn.reader.site;
  config : l.reader.book.config ≡ l.fn.reader.book.config;
}
