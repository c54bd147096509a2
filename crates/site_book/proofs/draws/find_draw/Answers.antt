use Rattle.std.proofs.Common.{◌∙◌, arith}
use Rattle.site_book.proofs.BookDraws.{draws_over}
use Rattle.site_book.proofs.draws.find_draw.Goals as goal

pub returns-clause-next : goal.returns-clause-next
returns-clause-next c = (
  c.loop-at.invariant.none
      ∙ draws_over c.args.book.now c.loop-at.at
      (omega (arith, c.loop-at-test.false, c.len-at-end.ensures.rows)),
  draws_over c.args.book.now c.loop-at.place
      (omega (
        arith,
        c.loop-at-test.false,
        c.len-at-end.ensures.rows,
        c.loop-at.invariant.place,
      )),
)
