use Rattle.std.proofs.Common.{take}
use Rattle.written_site.specs.SiteState.{opening}
use Rattle.meter_table.specs.Figures.{HasRead}
use Rattle.offline_commands.proofs.book_text.count_nozzles.Given as goal

-- the rows so far are read
abbrev pub invariant-loop-place : goal.invariant-loop-place
invariant-loop-place l =
    HasRead l.book.config (opening l.book.config) (take l.place l.book.rows) l.reader
