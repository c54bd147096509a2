use Rattle.std.proofs.Common.{◌≡◌, ◌≤◌, take}
use Rattle.chapters.specs.RowText.{kept_behind}
use Rattle.peer_connections.specs.Fed.{with_rows}
use Rattle.peer_connections.proofs.feed.read_rows.Given as goal

-- the rows up to this place are read
abbrev pub invariant-loop-place : goal.invariant-loop-place
invariant-loop-place l = record {
  high : l.first ≤ l.place;
  rows : l.fed.rows
      ≡ with_rows l.time (kept_behind l.first (take l.place l.book.rows)) l.fn.fed.rows;
  starts : l.fed.starts ≡ l.fn.fed.starts;
}
