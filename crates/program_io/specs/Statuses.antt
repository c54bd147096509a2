-- The exit status of the program.
use Rattle.std.specs.Prelude.{◌≡◌, ℕ, ◌⊎◌, Option, Some, None}
use Rattle.std.specs.Process.{exit_status as code_status}
use Rattle.std.specs.declared.process.ExitCode.{ExitCode}
use Rattle.forecourt_engines.specs.Ends.{exit_status}
use Rattle.forecourt_engines.specs.declared.fault.ReplayFault.{ReplayFault}
use Rattle.program_io.specs.declared.exit.TheConstants.{FAULT, NO_MEMORY}

-- .. of a replay that ended so
abbrev pub status_after : Option ReplayFault → ℕ
status_after None = 0
status_after (Some fault) = exit_status fault

-- .. where input was refused or couldn't be read, or memory ran out
abbrev pub IsFailed : ExitCode → Type 0
IsFailed code = (code_status code ≡ FAULT) ⊎ (code_status code ≡ NO_MEMORY)
