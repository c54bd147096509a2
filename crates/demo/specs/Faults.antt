-- Why a run of a dispenser ends before its script does.
use Rattle.std.specs.Prelude.{ℕ}
use Rattle.demo.specs.declared.end.DispenserFault.{DispenserFault}
use Rattle.demo.specs.declared.end.DispenserFault.TheVariants.{BookFull, NoMemory}
use Rattle.demo.specs.declared.end.DispenserFault.TheVariants.{PollsSpent}

-- its number, as a program tells it
abbrev pub dispenser_fault_number : DispenserFault → ℕ
dispenser_fault_number BookFull = 30
dispenser_fault_number NoMemory = 31
dispenser_fault_number PollsSpent = 65
