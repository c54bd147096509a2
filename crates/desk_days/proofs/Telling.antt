-- What a day tells, from its writes: a server from two, a demo from one.
use Rattle.std.proofs.Common.{◌≡◌, ℕ, List, Option, inl, inr, subst, sym}
use Rattle.std.specs.Io.KnownBytes.{Appends}
use Rattle.site_base.specs.declared.actor.Actor.{Actor}
use Rattle.site_base.specs.declared.event.Event.{Event}
use Rattle.site_base.specs.Configured.{Configured}
use Rattle.devices.specs.Devices.{AppendsFront}
use Rattle.devices.proofs.KnownBytes.{Appends-then, Appends-front}
use Rattle.counter_desk.specs.declared.settlement.Settled.{Settled}
use Rattle.day_report.specs.Text.{report_text}
use Rattle.desk_days.specs.declared.demos.DemoEnd.{DemoEnd}
use Rattle.day_base.specs.Texts.{listening_line}
use Rattle.desk_days.specs.Days.{IsSettledDay, TellsDayFront, day_text}
use Rattle.desk_days.specs.Demos.{IsSettledDemo, TellsReportFront}

-- a day of the configuration of this name
pub settled_day : (config named : Configured) (settled : Settled) → config ≡ named
    → IsSettledDay named settled → IsSettledDay config settled
settled_day config named settled same adds_up =
    subst (λ (c : Configured). IsSettledDay c settled) (sym same) adds_up

-- where it listens was written, and then the report
pub tells_day : (config : Configured) (u v w : Option (List ℕ)) (said port : ℕ) (settled : Settled)
    → said ≡ port → Appends u v (listening_line said)
    → Appends v w (report_text config settled.book settled.shares)
    → Appends u w (day_text config port settled)
tells_day config u v w said port settled same_port line report =
    Appends-then u v w (listening_line port) (report_text config settled.book settled.shares)
    (subst (λ (n : ℕ). Appends u v (listening_line n)) same_port line) report

-- a front of the line
pub tells_line : (config : Configured) (u v : Option (List ℕ)) (said port : ℕ) → said ≡ port
    → AppendsFront u v (listening_line said) → TellsDayFront config port u v
tells_line config u v said port same_port line =
    inl (subst (λ (n : ℕ). AppendsFront u v (listening_line n)) same_port line)

-- the line, and then a front of the report
pub tells_front : (config named : Configured) (u v w : Option (List ℕ)) (said port : ℕ)
    (settled : Settled) → said ≡ port → config ≡ named → IsSettledDay named settled
    → Appends u v (listening_line said)
    → AppendsFront v w (report_text config settled.book settled.shares)
    → TellsDayFront config port u w
tells_front config named u v w said port settled same_port same adds_up line report =
    inr (
      settled,
      settled_day config named settled same adds_up,
      Appends-front u v w (listening_line port) (report_text config settled.book settled.shares)
          (subst (λ (n : ℕ). Appends u v (listening_line n)) same_port line) report,
    )

-- a demo: a front of the report
pub tells_report_front : (config : Configured) (setup : List (Actor × Event))
    (u v : Option (List ℕ))
    (end : DemoEnd) → IsSettledDemo config setup end
    → AppendsFront u v (report_text config end.settled.book end.settled.shares)
    → TellsReportFront config setup u v
tells_report_front config setup u v end adds_up report = inr (end, adds_up, report)
