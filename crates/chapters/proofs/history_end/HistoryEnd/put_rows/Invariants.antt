use Rattle.std.proofs.Common.{take}
use Rattle.std.specs.Prelude.{◌≤◌, ◌<◌}
use Rattle.chapters.specs.declared.history_end.TheConstants.{SEAL_ROWS}
use Rattle.chapters.specs.RowText.{kept_behind}
use Rattle.chapters.specs.Rounds.{WritesFirst}
use Rattle.chapters.proofs.history_end.HistoryEnd.put_rows.Given as goal

-- the text has what is written of the rows up to this place
abbrev pub invariant-loop-place : goal.invariant-loop-place
invariant-loop-place l = record {
  high : l.from ≤ l.place;
  first : WritesFirst l.now (kept_behind l.from (take l.place l.book.rows)) l.fn.self l.self
      l.text.items;
  few : l.fn.self.rows < SEAL_ROWS → l.self.rows < SEAL_ROWS;
}
