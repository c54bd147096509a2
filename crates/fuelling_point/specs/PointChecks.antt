-- Which events a fuelling point refuses.
use Rattle.std.specs.Prelude.{ℕ, not, Option, Some, None, ◌==◌}
use Rattle.site_base.specs.declared.refusal.Refusal.{Refusal}
use Rattle.site_base.specs.declared.refusal.Refusal.TheVariants.{WrongState, WrongNozzle, Ending}
use Rattle.site_base.specs.Checks.{◌or_else◌, unless}
use Rattle.fuelling_point.specs.declared.event.PointEvent.{PointEvent}
use Rattle.fuelling_point.specs.declared.event.PointEvent.TheVariants.{Resume, Terminate, Flow}
use Rattle.fuelling_point.specs.declared.event.PointEvent.TheVariants.{HangUp}
use Rattle.fuelling_point.specs.Table.{is_listed}
use Rattle.fuelling_point.specs.KeptPoints.{Facts}

-- the table has a line for the event in the point's state
abbrev pub in_state : PointEvent → Facts → Option Refusal
in_state event f = unless (is_listed event f.state) (WrongState f.state)

-- an ending fuelling is neither resumed nor terminated again
abbrev pub not_ending : PointEvent → Facts → Option Refusal
not_ending Resume f = unless (not f.ending) Ending
not_ending Terminate f = unless (not f.ending) Ending
not_ending event f = None

-- this nozzle is the one that is out
abbrev pub is_out : ℕ → Option ℕ → Option Refusal
is_out nozzle None = None
is_out nozzle (Some out) = unless (nozzle == out) (WrongNozzle out)

-- fuel flows by the nozzle that is out, and that nozzle is hung up
abbrev pub own_nozzle : PointEvent → Facts → Option Refusal
own_nozzle (Flow nozzle growth) f = is_out nozzle f.out
own_nozzle (HangUp nozzle growth) f = is_out nozzle f.out
own_nozzle event f = None

-- why the point refuses the event: the checks in their order
abbrev pub refusal_of : PointEvent → Facts → Option Refusal
refusal_of event f =
    in_state event f
    or_else not_ending event f
    or_else own_nozzle event f
