use Rattle.std.proofs.Common.{◌≡◌, length}
use Rattle.site_book.specs.BookDraws.{draws_from, IsReplayedTo}
use Rattle.site_book.proofs.draws.find_draw.Given as goal

abbrev pub invariant-loop-at : goal.invariant-loop-at
invariant-loop-at l = record {
  place : l.place ≡ l.at;
  replayed : IsReplayedTo l.at l.site.site l.book;
  none : draws_from l.fn.place l.book ≡ draws_from l.at l.book;
  end : l.at-end ≡ length l.book.rows;
}
