-- What a worker does of a list of calls, and how each list of a crew ends.
use Rattle.std.specs.Prelude.{◌≡◌, ◌≢◌, ℕ, ◌<◌, ◌≤◌, false, List, [], ◌∷◌, ◌++◌, length, map, take}
use Rattle.std.specs.Prelude.{None, Some, Ok, is_ok, IfSome, ◌⊎◌}
use Rattle.std.specs.List.{AllByRecursion}
use Rattle.site_base.specs.declared.actor.Actor.{Actor}
use Rattle.site_base.specs.declared.actor.Actor.TheVariants.{Till}
use Rattle.site_base.specs.declared.answer.Answer.TheVariants.{Done}
use Rattle.site_base.specs.declared.event.Event.{Event}
use Rattle.site_base.specs.declared.event.Event.TheVariants.{SignOff}
use Rattle.site_base.specs.declared.limits.TheConstants.{TILLS}
use Rattle.site_base.specs.Configured.{Configured}
use Rattle.written_site.specs.RowWords.{count}
use Rattle.counter_desk.specs.declared.receipt.Receipt.{Receipt}
use Rattle.counter_desk.specs.declared.worker.ListEnd.{ListEnd}
use Rattle.counter_desk.specs.declared.worker.WorkFault.{WorkFault}
use Rattle.counter_desk.specs.declared.worker.WorkFault.TheVariants.{BookFull, NoMemory, NoWorker}
use Rattle.counter_desk.specs.KeptHistories.{IsFullInLegal}
use Rattle.counter_desk.specs.Shares.{ShareFacts, owes}

-- the call that a receipt tells of
abbrev pub call_of : Receipt → Actor × Event
call_of r = (r.actor, r.event)

-- how many of these calls were accepted
abbrev pub accepted_in : List Receipt → ℕ
accepted_in receipts = count (λ r. is_ok r.reply) receipts

-- just these calls were made, in order, so many of which were accepted
pub record AreSubmitted (calls : List (Actor × Event)) (old new : List Receipt)
    (accepted : ℕ) : Type 0 where
  pub made : List Receipt
  pub added : new ≡ old ++ made
  pub told : map call_of made ≡ calls
  pub counted : accepted ≡ accepted_in made

-- a till was signed off
pub record IsSignedOff (r : Receipt) : Type 0 where
  pub till : ℕ
  pub actor : r.actor ≡ Till till
  pub event : r.event ≡ SignOff
  pub reply : r.reply ≡ Ok Done

-- tills were signed off, and nothing else was done
pub record AreSignOffs (old new : List Receipt) : Type 0 where
  pub made : List Receipt
  pub added : new ≡ old ++ made
  pub each : AllByRecursion IsSignedOff made

-- the share owes no till anything
abbrev pub OwesNobody : ShareFacts → Type 0
OwesNobody share = (t : ℕ) → 1 ≤ t → t ≤ TILLS → owes share t ≡ false

-- How a worker ends that had a share: it placed no more calls than the list has, and all of them
-- where it tells no fault; no more were accepted than placed; and it doesn't tell that it wasn't
-- started.
pub record IsWorkersEnd (calls : List (Actor × Event)) (end : ListEnd) : Type 0 where
  pub placed : end.placed ≤ length calls
  pub accepted : end.accepted ≤ end.placed
  pub whole : end.fault ≡ None → end.placed ≡ length calls
  pub started : end.fault ≢ Some NoWorker

-- the end of a worker that couldn't be started: nothing was placed
abbrev pub not_started : ListEnd
not_started = record { placed = 0; accepted = 0; fault = Some NoWorker }

-- the end of a worker, or of one that couldn't be started
abbrev pub IsListEnd : List (Actor × Event) → ListEnd → Type 0
IsListEnd calls end = IsWorkersEnd calls end ⊎ (end ≡ not_started)

-- each list has its end
abbrev pub EachEnds : List (List (Actor × Event)) → List ListEnd → Type 0
EachEnds [] [] = Unit {0}
EachEnds [] (end ∷ ends) = ⊥
EachEnds (calls ∷ lists) [] = ⊥
EachEnds (calls ∷ lists) (end ∷ ends) = IsListEnd calls end × EachEnds lists ends

-- what a call that made no row says of the desk: where the book was full, some legal history of the
-- desk's configuration has as many rows as it allows
abbrev pub IsCause : Configured → WorkFault → Type 0
IsCause config BookFull = IsFullInLegal config
IsCause config NoMemory = Unit {0}
IsCause config NoWorker = ⊥

-- where there is a fault, a call of the list made no row, for this cause
pub record IsStopped (config : Configured) (calls : List (Actor × Event)) (end : ListEnd)
    (fault : WorkFault) : Type 0 where
  pub short : end.placed < length calls
  pub cause : IsCause config fault

-- The first calls of the list were made, so many of which were accepted, and then tills were signed
-- off. These are all calls, or the next one made no row.
pub record Works (config : Configured) (calls : List (Actor × Event)) (old new : List Receipt)
    (end : ListEnd) : Type 0 where
  pub between : List Receipt
  pub submitted : AreSubmitted (take end.placed calls) old between end.accepted
  pub left : AreSignOffs between new
  pub ended : IsWorkersEnd calls end
  pub stopped : IfSome end.fault (λ fault. IsStopped config calls end fault)

-- its number, as a program tells it
abbrev pub work_fault_number : WorkFault → ℕ
work_fault_number BookFull = 30
work_fault_number NoMemory = 31
work_fault_number NoWorker = 64
