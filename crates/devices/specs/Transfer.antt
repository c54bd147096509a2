-- The numbers of the faults that end a transfer.
use Rattle.std.specs.Prelude.{ℕ}
use Rattle.devices.specs.declared.transfer.ReadFault.{ReadFault}
use Rattle.devices.specs.declared.transfer.ReadFault.TheVariants as reads
use Rattle.devices.specs.declared.transfer.WriteFault.{WriteFault}
use Rattle.devices.specs.declared.transfer.WriteFault.TheVariants as writes

-- the number of what ended a read
abbrev pub read_fault_number : ReadFault → ℕ
read_fault_number reads.TurnLimit = 59
read_fault_number reads.Failed = 61

-- the number of what ended a write
abbrev pub write_fault_number : WriteFault → ℕ
write_fault_number writes.TurnLimit = 59
write_fault_number writes.Failed = 62
