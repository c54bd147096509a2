-- A history's life: stores, ends of chapters, crashes and starts, one after another.
use Rattle.std.specs.Prelude.{◌≡◌, ℕ, List, [], ◌∷◌, ◌++◌, ◌⊎◌, ⊤}
use Rattle.std.specs.List.{AllByRecursion}
use Rattle.chapters.specs.Lines.{unfinished}
use Rattle.journal.specs.Disks.{BeginsWith, DiskFile, GoesOn, Keeps, Moment, moment_of}
use Rattle.journal.specs.Recovering.{KeepsWholeLines}

-- the closed chapters stay, and so do the whole lines of the open one: what is on the disk goes on
-- from each of its fronts that end with a line
abbrev pub KeepsLines : Moment → Moment → Type 0
KeepsLines m n =
    (front : List ℕ) → unfinished front ≡ [] → BeginsWith front m.front
    → GoesOn (record m { front = front }) n

-- a life: each of these moments keeps the lines of the one before
abbrev pub IsLife : Moment → List Moment → Type 0
IsLife m [] = ⊤
IsLife m (n ∷ more) = KeepsLines m n × IsLife n more

-- the moment with which it ends
abbrev pub end_of : Moment → List Moment → Moment
end_of m [] = m
end_of m (n ∷ more) = end_of n more

-- each moment in which a crash may come during a call keeps the lines, and so does the call's end
pub record StepsKeepLines (old new : DiskFile) (more : List Moment) : Type 0 where
  pub each : AllByRecursion (KeepsLines (moment_of old)) more
  pub last : KeepsLines (moment_of old) (moment_of new)

-- Each call is a step of a life, whole or cut off by a crash: each store and each chapter's end,
-- which keep what was on the disk, and each start, which keeps its whole lines.
abbrev pub CallsAreSteps : Type 0
CallsAreSteps = (old new : DiskFile) (more : List Moment) → Keeps old new ⊎ KeepsWholeLines old new
    → new.moments ≡ old.moments ++ more → StepsKeepLines old new more
