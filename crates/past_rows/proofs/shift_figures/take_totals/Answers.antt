use Rattle.std.proofs.Common.{◌≡◌, ◌∙◌, arith}
use Rattle.past_rows.proofs.RowsBefore.{is_taken, none_taken, opens, stays_taken, still_before}
use Rattle.past_rows.proofs.RowsBefore.{takes_now}
use Rattle.past_rows.proofs.shift_figures.take_totals.Goals.{else-is_none-via-else-is_none}
use Rattle.past_rows.proofs.shift_figures.take_totals.Goals.{else-is_none-via-then-is_none+else-get-shift}
use Rattle.past_rows.proofs.shift_figures.take_totals.Goals as goal

pub returns-in_ok-totals-clause-next : goal.returns-in_ok-totals-clause-next
returns-in_ok-totals-clause-next c = λ earlier so next.
    let b = c.args.book.now in
    let here = opens b.config b.rows c.open_shift.result c.get.result c.len.ensures.legal
    c.open_shift.ensures c.get.ensures.value in
    takes_now c.args.shift earlier b c.args.taken.now c.in_ok-totals.field-0
    (none_taken c.args.taken.now c.is_none.result c.is_none.ensures c.if-is_none.true) so next
    (omega (arith, here, c.if-get-shift.true)) c.in_ok-totals.ensures.figures

pub returns-else-is_none-clause-next : goal.returns-else-is_none-clause-next
returns-else-is_none-clause-next c = λ earlier so next.
    let b = c.args.book.now in
    elim c.else-is_none.branch [
      | else-is_none-via-then-is_none+else-get-shift w ↦
          let here = opens b.config b.rows w.open_shift.result w.get.result c.len.ensures.legal
          w.open_shift.ensures w.get.ensures.value in
          still_before c.args.shift b c.args.taken.now
          (none_taken c.args.taken.now c.is_none.result c.is_none.ensures w.if-is_none.true)
          (omega (arith, here, w.if-get-shift.false))
      | else-is_none-via-else-is_none w ↦
          stays_taken c.args.shift earlier b c.args.taken.now
          (is_taken c.args.taken.now c.is_none.result c.is_none.ensures w.if-is_none.false) so next
    ]
