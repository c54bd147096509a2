use Rattle.std.proofs.Common.{◌≡◌, ◌<◌, ◌≤◌, ℕ, true, Some}
use Rattle.std.specs.Prelude.{length, slice_get}
use Rattle.site_base.specs.declared.row.Row.{Row}
use Rattle.site_book.specs.Changes.{is_changing}
use Rattle.peer_connections.proofs.change_watch.ChangeWatch.look.Given as goal

abbrev pub invariant-loop-place : goal.invariant-loop-place
invariant-loop-place l = record {
  all : l.self.rows_seen ≡ length l.fn.book.rows;
  read : l.self.rows_fed ≡ l.fn.self.rows_fed;
  fed : l.self.fed ≡ l.fn.self.fed;
  tally : l.self.tally ≡ l.fn.self.tally;
  had : l.fn.self.has_changes ≡ true → l.self.has_changes ≡ true;
  noted : (at : ℕ) (row : Row) → l.fn.self.rows_seen ≤ at → at < l.place
      → l.fn.book.forgotten ≤ at → slice_get l.fn.book.rows at ≡ Some row
      → is_changing row ≡ true → l.self.has_changes ≡ true;
}
