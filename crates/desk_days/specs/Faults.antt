-- A demo's faults, from what a settlement tells and as a day tells them.
use Rattle.counter_desk.specs.declared.settlement.SettleFault.{SettleFault}
use Rattle.counter_desk.specs.declared.settlement.SettleFault.TheVariants as settle
use Rattle.desk_days.specs.declared.demo_fault.DemoFault.{DemoFault}
use Rattle.desk_days.specs.declared.demo_fault.DemoFault.TheVariants as demo
use Rattle.day_base.specs.declared.fault.DayFault.{DayFault}
use Rattle.day_base.specs.declared.fault.DayFault.TheVariants as day

-- why a demo isn't settled
abbrev pub demo_unsettled_by : SettleFault → DemoFault
demo_unsettled_by (settle.StrangeReceipt place) = demo.Unsettled place
demo_unsettled_by settle.NoMemory = demo.NoMemory

-- the same fault, as a day tells it
abbrev pub day_fault_of : DemoFault → DayFault
day_fault_of demo.NoMemory = day.NoMemory
day_fault_of (demo.Unsettled place) = day.Unsettled place
day_fault_of demo.NoConnection = day.NoConnection
day_fault_of demo.NoWorker = day.NoWorker
