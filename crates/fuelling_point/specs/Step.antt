-- What an accepted event does: the table's line, with what the point keeps of the event.
use Rattle.std.specs.Prelude.{ℕ, Option, Some, None, unwrap_or, if◌then◌else◌}
use Rattle.fuelling_point.specs.declared.event.PointEvent.{PointEvent}
use Rattle.fuelling_point.specs.declared.step.PointStep.{PointStep}
use Rattle.fuelling_point.specs.declared.step.PointStep.TheVariants.{Moved, Calling, Start, Flowed}
use Rattle.fuelling_point.specs.declared.step.PointStep.TheVariants.{HungUp, NoSale, Sold, Drawn}
use Rattle.fuelling_point.specs.declared.step.PointStep.TheVariants.{Stopped, Ending}
use Rattle.fuelling_point.specs.Table.{Line, Told, done, calling, start, flowed, hung_up, no_sale}
use Rattle.fuelling_point.specs.Table.{sold, stopped, ending, line_of}
use Rattle.fuelling_point.specs.KeptPoints.{Facts, growth_of, note_event, move_point}

-- what is told of a fuelling that is over, of this nozzle and volume: a test is drawn, any other is
-- sold at the price it took
abbrev pub told_over : ℕ → ℕ → Facts → PointStep
told_over nozzle volume f =
    if f.test then Drawn nozzle volume else Sold nozzle volume f.price f.prepaid

-- the answer with its values: those that stand before the point forgets any, the event's own among
-- them
abbrev pub step_told : Told → ℕ → Facts → PointStep
step_told done growth f = Moved
step_told calling growth f = Calling
step_told start growth f = Start f.preset f.price
step_told flowed growth f = Flowed growth
step_told hung_up growth f = HungUp
step_told no_sale growth f = NoSale
step_told sold growth f = told_over (unwrap_or f.out 0) f.volume f
step_told stopped growth f = Stopped
step_told ending growth f = Ending

-- the step that the line gives; without a line there is none to tell
abbrev pub step_by : Option Line → PointEvent → Facts → PointStep
step_by None event f = Moved
step_by (Some line) event f = step_told line.told (growth_of event) (note_event event line.move f)

-- the point after the line; without a line it stays
abbrev pub after_by : Option Line → PointEvent → Facts → Facts
after_by None event f = f
after_by (Some line) event f = move_point line.move (note_event event line.move f)

-- what an accepted event is told
abbrev pub step_of : PointEvent → Facts → PointStep
step_of event f = step_by (line_of event f.state) event f

-- the point after an accepted event
abbrev pub after : PointEvent → Facts → Facts
after event f = after_by (line_of event f.state) event f
