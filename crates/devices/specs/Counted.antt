-- What clauses see of a counted device.
use Rattle.std.specs.Prelude.{ℕ}
use Rattle.devices.specs.declared.counted.Counted.{Counted}

-- the reader or the writer itself
abbrev pub device_of : {D : Type 0} → Counted D → D
device_of c = c.device

-- how many of its calls failed
abbrev pub failures_of : {D : Type 0} → Counted D → ℕ
failures_of c = c.failures
