use Rattle.std.proofs.Common.{◌≡◌, ◌≤◌, take}
use Rattle.chapters.specs.RowText.{kept_behind}
use Rattle.row_tally.specs.Tally.{with_all}
use Rattle.peer_connections.proofs.tallied_rows.tally_rows.Given as goal

-- the rows up to this place have joined
abbrev pub invariant-loop-place : goal.invariant-loop-place
invariant-loop-place l = record {
  high : l.first ≤ l.place;
  rows : l.tally
      ≡ with_all l.time (kept_behind l.first (take l.place l.book.rows)) l.fn.tally;
}
