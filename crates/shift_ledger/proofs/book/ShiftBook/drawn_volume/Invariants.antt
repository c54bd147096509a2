use Rattle.std.proofs.Common.{◌≡◌, ◌+◌, drop}
use Rattle.shift_ledger.specs.Shifts.{drawn_among, drawn_in_all}
use Rattle.shift_ledger.proofs.book.ShiftBook.drawn_volume.Given as goal

-- what is summed, with the draws of the closed shifts behind, is what was drawn in all
abbrev pub invariant-loop-row : goal.invariant-loop-row
invariant-loop-row l =
    l.sum + drawn_among l.q (drop l.row-index l.row-items) ≡ drawn_in_all l.q l.self.shifts
