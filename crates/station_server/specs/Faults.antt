-- Why a server ends.
use Rattle.journal.specs.declared.disk.DiskFault.{DiskFault}
use Rattle.journal.specs.declared.disk.DiskFault.TheVariants as disks
use Rattle.station_server.specs.declared.fault.ServerFault.{ServerFault}
use Rattle.station_server.specs.declared.fault.ServerFault.TheVariants as servers

-- how a server ends whose rows aren't stored
abbrev pub not_stored : DiskFault → ServerFault
not_stored disks.NoMemory = servers.NoMemory
not_stored disks.Failed = servers.NotStored
