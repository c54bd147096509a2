-- What a simulated dispenser keeps, what it reports at each step, and what a run of steps leaves.
use Rattle.std.specs.Prelude.{◌≡◌, ℕ, ◌+◌, ◌-◌, ◌<◌, ◌≤◌, ◌==◌, Bool, true, false, if◌then◌else◌}
use Rattle.std.specs.Prelude.{List, [], ◌∷◌, ◌++◌, length, take, slice_get, slice_index_or}
use Rattle.std.specs.Prelude.{slice_set}
use Rattle.std.specs.Prelude.{Option, None, Some, IfSome, Result, Ok, Err}
use Rattle.site_base.specs.declared.actor.Actor.TheVariants.{Dispenser}
use Rattle.site_base.specs.declared.answer.Answer.{Answer}
use Rattle.site_base.specs.declared.answer.Answer.TheVariants.{Sold}
use Rattle.site_base.specs.declared.config.NozzleEntry.{NozzleEntry}
use Rattle.site_base.specs.declared.event.Event.{Event}
use Rattle.site_base.specs.declared.event.Event.TheVariants as events
use Rattle.site_base.specs.declared.refusal.Refusal.{Refusal}
use Rattle.site_base.specs.declared.state.PointState.{PointState}
use Rattle.site_base.specs.declared.view.PointView.{PointView}
use Rattle.site_base.specs.declared.config.PointEntry.{PointEntry}
use Rattle.site_base.specs.Configured.{Configured}
use Rattle.counter_desk.specs.declared.receipt.Receipt.{Receipt}
use Rattle.counter_desk.specs.KeptHistories.{IsFullInLegal, IsShownInLegal}
use Rattle.demo.specs.declared.end.DispenserFault.{DispenserFault}
use Rattle.demo.specs.declared.end.DispenserFault.TheVariants as faults
use Rattle.demo.specs.declared.steps.Step.{Step}
use Rattle.demo.specs.declared.steps.Step.TheVariants.{Online, Offline, Lift, Pump}
use Rattle.demo.specs.declared.steps.Step.TheVariants.{HangUp, WaitFor}
use Rattle.demo.specs.Flow.{IsFlow}

-- the number of its point, the reading of each nozzle from nozzle 1 on, and the nozzle last lifted
pub record DispenserFacts : Type 0 where
  pub point : ℕ
  pub readings : List ℕ
  pub nozzle : ℕ

-- what its meter of this nozzle reads
abbrev pub meter_of : DispenserFacts → ℕ → ℕ
meter_of d n = slice_index_or d.readings (n - 1) 0

-- what the meter of the nozzle last lifted reads
abbrev pub meter : DispenserFacts → ℕ
meter d = meter_of d d.nozzle

-- ---- before its first step

-- the nozzles of the point of this number; none where it isn't there
abbrev pub nozzles_of : ℕ → List PointEntry → List NozzleEntry
nozzles_of p [] = []
nozzles_of p (point ∷ points) = if point.number == p then point.nozzles else nozzles_of p points

-- the reading of a nozzle of the site file; 0 of one that isn't there
abbrev pub reading_of : Option NozzleEntry → ℕ
reading_of None = 0
reading_of (Some nozzle) = nozzle.reading

-- the dispenser of point p: no nozzle was lifted yet, and each reads what the site file says
pub record IsNew (config : Configured) (p : ℕ) (most : ℕ) (d : DispenserFacts) : Type 0 where
  pub point : d.point ≡ p
  pub nozzle : d.nozzle ≡ 1
  pub readings : (cell : ℕ) → cell < most
      → slice_index_or d.readings cell 0
      ≡ reading_of (slice_get (nozzles_of p config.points) cell)

-- ---- a report

-- The report of a step. A nozzle that is lifted or put back reads what its meter reads. At a step
-- that pumps, the report is of the nozzle last lifted, and above its reading by the flow at the
-- point as it was seen: as some legal history shows it. There is none of a step that waits.
abbrev pub IsReport : Configured → DispenserFacts → Step → Event → Type 0
IsReport config d Online event = event ≡ events.Online d.point
IsReport config d Offline event = event ≡ events.Offline d.point
IsReport config d (Lift n) event = event ≡ events.Lift d.point n (meter_of d n)
IsReport config d (Pump asked) event =
    (seen : Option PointView) × (flow : ℕ) × IsShownInLegal config d.point seen
    × IsFlow asked (meter d) seen flow × (event ≡ events.Flow d.point d.nozzle (meter d + flow))
IsReport config d HangUp event = event ≡ events.HangUp d.point d.nozzle (meter d)
IsReport config d (WaitFor state) event = ⊥

-- What the dispenser keeps once its report is answered so: the nozzle that it lifted, accepted or
-- not, and the reading of a flow that was accepted. A refused flow isn't kept.
abbrev pub kept_after : Event → Result Answer Refusal → DispenserFacts → DispenserFacts
kept_after (events.Lift p n reading) reply d = record d { nozzle = n }
kept_after (events.Flow p n reading) (Ok answer) d =
    record d { readings = slice_set d.readings (n - 1) reading }
kept_after event reply d = d

-- once it has these receipts of its reports, in order
abbrev pub kept_after_all : List Receipt → DispenserFacts → DispenserFacts
kept_after_all [] d = d
kept_after_all (r ∷ rs) d = kept_after_all rs (kept_after r.event r.reply d)

-- a point that is seen so is in this state
abbrev pub IsIn : Option PointView → PointState → Type 0
IsIn None state = ⊥
IsIn (Some view) state = view.state ≡ state

-- some legal history shows the point in this state
abbrev pub IsSeenIn : Configured → ℕ → PointState → Type 0
IsSeenIn config p state =
    (seen : Option PointView) × IsShownInLegal config p seen × IsIn seen state

-- ---- reports in order

-- a step that is reported: each but one that waits
abbrev pub is_reported : Step → Bool
is_reported (WaitFor state) = false
is_reported step = true

-- the steps that are reported
abbrev pub reported_steps : List Step → List Step
reported_steps [] = []
reported_steps (step ∷ steps) =
    if is_reported step then step ∷ reported_steps steps else reported_steps steps

-- each step has its receipt, in order: the dispenser's report of that step
abbrev pub AreReports : Configured → DispenserFacts → List Step → List Receipt → Type 0
AreReports config d [] [] = Unit {0}
AreReports config d [] (r ∷ rs) = ⊥
AreReports config d (step ∷ steps) [] = ⊥
AreReports config d (step ∷ steps) (r ∷ rs) =
    (r.actor ≡ Dispenser d.point) × IsReport config d step r.event
    × AreReports config (kept_after r.event r.reply d) steps rs

-- 1 where the reply is a sale
abbrev pub sales_told : Result Answer Refusal → ℕ
sales_told (Ok (Sold seq growth)) = 1
sales_told reply = 0

-- 1 where the reply is a refusal
abbrev pub refusals_told : Result Answer Refusal → ℕ
refusals_told (Ok answer) = 0
refusals_told (Err refusal) = 1

-- how many replies are a sale
abbrev pub sold_in : List Receipt → ℕ
sold_in [] = 0
sold_in (r ∷ rs) = sales_told r.reply + sold_in rs

-- how many replies are a refusal
abbrev pub refused_in : List Receipt → ℕ
refused_in [] = 0
refused_in (r ∷ rs) = refusals_told r.reply + refused_in rs

-- ---- a run

-- These steps were taken: a receipt was added for the report of each that is reported, and the
-- dispenser keeps what these leave. So many are a sale, and so many a refusal.
pub record AreTaken (config : Configured) (steps : List Step) (before after : DispenserFacts)
    (old new : List Receipt) (sold refused : ℕ) : Type 0 where
  pub made : List Receipt
  pub added : new ≡ old ++ made
  pub told : AreReports config before (reported_steps steps) made
  pub kept : after ≡ kept_after_all made before
  pub sales : sold ≡ sold_in made
  pub refusals : refused ≡ refused_in made

-- the report of point p was answered so: a receipt of it was added
pub record IsSent (p : ℕ) (event : Event) (reply : Result Answer Refusal)
    (old new : List Receipt) : Type 0 where
  pub place : ℕ
  pub added : new ≡ old
      ++ record { place = place; actor = Dispenser p; event = event; reply = reply } ∷ []

-- what a report that made no row says of the desk: where the book was full, some legal history of
-- the desk's configuration has as many rows as it allows
abbrev pub IsUnsent : Configured → DispenserFault → Type 0
IsUnsent config faults.BookFull = IsFullInLegal config
IsUnsent config faults.NoMemory = Unit {0}
IsUnsent config faults.PollsSpent = ⊥

-- Why a run ends at a step: the polls are spent at one that waits; at another one the report made
-- no row, where the book is full as it is in some legal history, or for want of memory.
abbrev pub IsEndedBy : Configured → Option Step → DispenserFault → Type 0
IsEndedBy config None fault = ⊥
IsEndedBy config (Some step) faults.BookFull = (is_reported step ≡ true) × IsFullInLegal config
IsEndedBy config (Some step) faults.NoMemory = is_reported step ≡ true
IsEndedBy config (Some step) faults.PollsSpent = is_reported step ≡ false

-- A run of a script: its steps were taken, from the first on. These are all, or the next one ended
-- the run.
pub record Runs (config : Configured) (script : List Step) (before after : DispenserFacts)
    (old new : List Receipt) (sold refused : ℕ) (fault : Option DispenserFault) : Type 0 where
  pub done : ℕ
  pub within : done ≤ length script
  pub taken : AreTaken config (take done script) before after old new sold refused
  pub whole : fault ≡ None → done ≡ length script
  pub ended : IfSome fault (λ f. IsEndedBy config (slice_get script done) f)
