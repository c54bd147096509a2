-- The threads of a crew, and their ends.
use Rattle.std.specs.Prelude.{◌≡◌, List, [], ◌∷◌, ◌++◌, Option, Some, None}
use Rattle.std.specs.declared.thread.PromisedHandle.{PromisedHandle}
use Rattle.site_base.specs.declared.actor.Actor.{Actor}
use Rattle.site_base.specs.declared.event.Event.{Event}
use Rattle.counter_desk.specs.declared.crews.EndOf.{EndOf}
use Rattle.counter_desk.specs.declared.worker.ListEnd.{ListEnd}
use Rattle.counter_desk.specs.Work.{EachEnds, IsWorkersEnd, not_started}

-- the thread, if it was started, is to make these calls
abbrev pub IsStartOf : List (Actor × Event) → Option (PromisedHandle ListEnd EndOf) → Type 0
IsStartOf calls None = Unit {0}
IsStartOf calls (Some handle) = handle.promise.0.now ≡ calls

-- each list has its thread
abbrev pub EachStarted : List (List (Actor × Event)) → List (Option (PromisedHandle ListEnd EndOf))
    → Type 0
EachStarted [] [] = Unit {0}
EachStarted [] (s ∷ started) = ⊥
EachStarted (calls ∷ lists) [] = ⊥
EachStarted (calls ∷ lists) (s ∷ started) = IsStartOf calls s × EachStarted lists started

-- the end of a thread, or of one that wasn't started
abbrev pub IsJoined : Option (PromisedHandle ListEnd EndOf) → ListEnd → Type 0
IsJoined None end = end ≡ not_started
IsJoined (Some handle) end = IsWorkersEnd handle.promise.0.now end

-- the first lists have their ends, and the others their threads
pub record AreJoining (lists : List (List (Actor × Event)))
    (started : List (Option (PromisedHandle ListEnd EndOf))) (ends : List ListEnd) : Type 0 where
  pub before : List (List (Actor × Event))
  pub after : List (List (Actor × Event))
  pub parts : lists ≡ before ++ after
  pub ended : EachEnds before ends
  pub running : EachStarted after started
