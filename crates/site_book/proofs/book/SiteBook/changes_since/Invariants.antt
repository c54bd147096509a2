use Rattle.std.proofs.Common.{◌≡◌, ◌≤◌, ◌++◌, length}
use Rattle.site_book.specs.Changes.{changes_from}
use Rattle.site_book.proofs.book.SiteBook.changes_since.Given as goal

abbrev pub invariant-loop-at : goal.invariant-loop-at
invariant-loop-at l = record {
  told : l.changes.items ++ changes_from l.at l.self.rows ≡ changes_from l.place l.self.rows;
  kept : l.place ≤ l.at;
  end : l.at-end ≡ length l.self.rows;
}
