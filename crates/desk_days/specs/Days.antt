-- What a server's day tells.
use Rattle.std.specs.Prelude.{◌≡◌, ◌⊎◌, ℕ, List, ◌++◌, IfOk, OnOk, Option, Result}
use Rattle.std.specs.Io.KnownBytes.{Appends}
use Rattle.std.specs.Result.{IsErrOf}
use Rattle.site_base.specs.Configured.{Configured}
use Rattle.devices.specs.declared.transfer.WriteFault.TheVariants as writes
use Rattle.devices.specs.Devices.{AppendsFront, one_more}
use Rattle.counter_desk.specs.declared.receipt.Receipt.{Receipt}
use Rattle.counter_desk.specs.declared.settlement.Settled.{Settled}
use Rattle.counter_desk.specs.Settlement.{Settles}
use Rattle.day_report.specs.Text.{report_text}
use Rattle.day_base.specs.declared.fault.DayFault.{DayFault}
use Rattle.day_base.specs.declared.fault.DayFault.TheVariants.{Write}
use Rattle.day_base.specs.Texts.{listening_line}

-- the shares that came back add up to a legal history of this configuration
abbrev pub IsSettledDay : Configured → Settled → Type 0
IsSettledDay config settled = (lists : List (List Receipt)) × Settles config lists settled

-- a line that tells on which port the server listens, and the report of what is settled
abbrev pub day_text : Configured → ℕ → Settled → List ℕ
day_text config port settled =
    listening_line port ++ report_text config settled.book settled.shares

-- However a day ends, nothing else was written: a front of that line, or that line and a front of
-- the report of a day that is settled.
abbrev pub TellsDayFront : Configured → ℕ → Option (List ℕ) → Option (List ℕ) → Type 0
TellsDayFront config port holds holds' =
    AppendsFront holds holds' (listening_line port)
    ⊎ ((settled : Settled) × IsSettledDay config settled
    × AppendsFront holds holds' (day_text config port settled))

-- what a day of a server has settled and written when it ends, and what that does to its writer's
-- count of failures and to its turns
pub record ServesDay (config : Configured) (port : ℕ) (result : Result Settled DayFault)
    (holds holds' : Option (List ℕ)) (failures failures' turns' : ℕ) : Type 0 where
  pub settled : IfOk result (λ settled. IsSettledDay config settled)
  pub told : IfOk result (λ settled. Appends holds holds' (day_text config port settled))
  pub front : TellsDayFront config port holds holds'
  pub counted : OnOk result (failures' ≡ failures)
  pub failed : IsErrOf result (Write writes.Failed) → failures' ≡ one_more failures
  pub limit : IsErrOf result (Write writes.TurnLimit) → turns' ≡ 0
