use Rattle.std.proofs.Common.{refl}
use Rattle.past_rows.proofs.RowsBefore.{opens}
use Rattle.row_commands.proofs.gap_rows.next_place.Goals as goal

pub returns-clause-shift : goal.returns-clause-shift
returns-clause-shift c =
    opens c.args.book.now.config c.args.book.now.rows c.open_shift.result c.open_shift.result
    c.len.ensures.legal c.open_shift.ensures refl
