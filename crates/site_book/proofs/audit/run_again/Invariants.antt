use Rattle.std.proofs.Common.{◌≡◌, length, take}
use Rattle.written_site.specs.SiteRun.{site_of_rows}
use Rattle.site_book.proofs.audit.run_again.Given as goal

abbrev pub invariant-loop-place : goal.invariant-loop-place
invariant-loop-place l = record {
  so_far : l.site.site ≡ site_of_rows l.fn.site.site (take l.place l.rows.rows);
  end : l.place-end ≡ length l.rows.rows;
}
