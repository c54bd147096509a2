-- Why a day ends without its report, and how the program ends with it.
use Rattle.std.specs.Prelude.{ℕ}
use Rattle.counter_desk.specs.declared.settlement.SettleFault.{SettleFault}
use Rattle.counter_desk.specs.declared.settlement.SettleFault.TheVariants as settle
use Rattle.day_base.specs.declared.fault.DayFault.{DayFault}
use Rattle.day_base.specs.declared.fault.DayFault.TheVariants.{NoMemory, Unsettled}

-- why a day isn't settled, as the server tells it
abbrev pub unsettled_by : SettleFault → DayFault
unsettled_by (settle.StrangeReceipt place) = Unsettled place
unsettled_by settle.NoMemory = NoMemory

-- 3 where the day isn't settled, 4 for want of memory, else 1
abbrev pub day_status : DayFault → ℕ
day_status (Unsettled place) = 3
day_status NoMemory = 4
day_status fault = 1
