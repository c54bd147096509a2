-- Which call of a disk is cut.
use Rattle.std.specs.Prelude.{ℕ, Bool, false, Option, Some, None, ◌==◌, if◌then◌else◌}
use Rattle.std.specs.Prelude.{nat_lt}
use Rattle.memory_disk.specs.declared.cut.Cut.{Cut}
use Rattle.memory_disk.specs.declared.cut.Fate.{Fate}

-- what becomes of a call behind so many: those before the cut are made, those behind it come late
abbrev pub fate_of : ℕ → Option Cut → Fate
fate_of count None = Fate.Made
fate_of count (Some cut) =
    if count == cut.calls then Fate.Cut cut
    else (if nat_lt cut.calls count then Fate.Late else Fate.Made)

-- behind so many calls one was cut
abbrev pub was_cut : ℕ → Option Cut → Bool
was_cut count None = false
was_cut count (Some cut) = nat_lt cut.calls count
