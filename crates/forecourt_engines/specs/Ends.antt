-- How the program ends.
use Rattle.std.specs.Prelude.{ℕ}
use Rattle.forecourt_engines.specs.declared.fault.ReplayFault.{ReplayFault}
use Rattle.forecourt_engines.specs.declared.fault.ReplayFault.TheVariants.{NoMemory}

-- 4 for want of memory, else 1
abbrev pub exit_status : ReplayFault → ℕ
exit_status NoMemory = 4
exit_status fault = 1
