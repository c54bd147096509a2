-- What a demo has done, and what it tells.
use Rattle.std.specs.Prelude.{◌⊎◌, ℕ, List, [], ◌∷◌, ◌++◌, Option}
use Rattle.std.specs.Io.KnownBytes.{Appends}
use Rattle.site_base.specs.declared.actor.Actor.{Actor}
use Rattle.site_base.specs.declared.event.Event.{Event}
use Rattle.site_base.specs.Configured.{Configured}
use Rattle.devices.specs.Devices.{AppendsFront}
use Rattle.counter_desk.specs.declared.receipt.Receipt.{Receipt}
use Rattle.counter_desk.specs.Settlement.{Settles}
use Rattle.counter_desk.specs.Work.{Works}
use Rattle.day_report.specs.Text.{report_text}
use Rattle.desk_days.specs.declared.demos.DemoEnd.{DemoEnd}

-- A demo's day is settled: the receipts of the sections' workers, and last those of the worker that
-- made the setup's calls and ended so, add up to a legal history of this configuration.
pub record IsSettledDemo (config : Configured) (setup : List (Actor × Event)) (end : DemoEnd)
    : Type 0 where
  pub sections : List (List Receipt)
  pub receipts : List Receipt
  pub worked : Works config setup [] receipts end.setup
  pub adds_up : Settles config (sections ++ receipts ∷ []) end.settled

-- However a demo ends, nothing else was written: nothing, or a front of the report of a demo that
-- is settled.
abbrev pub TellsReportFront : Configured → List (Actor × Event) → Option (List ℕ)
    → Option (List ℕ) → Type 0
TellsReportFront config setup holds holds' =
    Appends holds holds' []
    ⊎ ((end : DemoEnd) × IsSettledDemo config setup end
    × AppendsFront holds holds' (report_text config end.settled.book end.settled.shares))
