-- The numbers of the mapping's faults.
use Rattle.std.specs.Prelude.{ℕ}
use Rattle.device_map.specs.declared.fault.MapFault.{MapFault}
use Rattle.device_map.specs.declared.fault.MapFault.TheVariants.{NotARequest, NotForUs}
use Rattle.device_map.specs.declared.fault.MapFault.TheVariants.{BadOriginator, BadAddress}
use Rattle.device_map.specs.declared.fault.MapFault.TheVariants.{UnknownItem, ItemMissing}
use Rattle.device_map.specs.declared.fault.MapFault.TheVariants.{BadDecimal, BadNumber}

-- the number by which a fault of the mapping is told
abbrev pub map_number : MapFault → ℕ
map_number NotARequest = 58
map_number NotForUs = 50
map_number BadOriginator = 51
map_number BadAddress = 52
map_number UnknownItem = 53
map_number ItemMissing = 54
map_number BadDecimal = 55
map_number BadNumber = 56
