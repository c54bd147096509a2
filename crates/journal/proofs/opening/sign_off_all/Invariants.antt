use Rattle.std.proofs.Common.{◌≡◌, ◌<◌, ◌+◌, ◌-◌, ℕ, false}
use Rattle.std.specs.Prelude.{◌≤◌}
use Rattle.site_base.specs.declared.limits.TheConstants.{TILLS}
use Rattle.written_site.specs.SiteState.{is_signed_on}
use Rattle.site_book.specs.Book.{site_of_book}
use Rattle.journal.specs.Opening.{tills_off}
use Rattle.journal.proofs.opening.sign_off_all.Given as goal

-- the tills below this one are signed off
abbrev pub invariant-loop-number : goal.invariant-loop-number
invariant-loop-number l = record {
  least : 1 ≤ l.number;
  most : l.number ≤ TILLS + 1;
  rows : l.book ≡ tills_off (l.number - 1) l.fn.book;
  off : (t : ℕ) → 1 ≤ t → t < l.number → is_signed_on (site_of_book l.book) t ≡ false;
}
