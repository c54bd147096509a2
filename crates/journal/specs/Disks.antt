-- A disk's history: what a read gives, and what of it a crash leaves.
use Rattle.std.specs.Prelude.{◌≡◌, ℕ, Bool, true, List, [], ◌∷◌, ◌++◌, ◌⊎◌, ⊤, Option, Some, None}
use Rattle.std.specs.Prelude.{slice_get}
use Rattle.std.specs.List.{AllByRecursion}

-- what a crash leaves: the chapters that are closed, and a front of the open one
pub record Moment : Type 0 where
  pub closed : List (List ℕ)
  pub front : List ℕ

-- the chapters that are closed, all of them on the disk; of the open one the octets that a read
-- gives, and the front of them that is on the disk; each moment so far at which a crash might have
-- come, the last one last; and whether no flush of the open one has failed since it was made. Once
-- one has, the system may show octets that the disk doesn't have, and answer the next flush well:
-- whoever opens a file can't know
pub record DiskFile : Type 0 where
  pub closed : List (List ℕ)
  pub octets : List ℕ
  pub synced : List ℕ
  pub moments : List Moment
  pub sound : Bool

-- what a crash would leave now
abbrev pub moment_of : DiskFile → Moment
moment_of file = record { closed = file.closed; front = file.synced }

-- .. and what is read
abbrev pub shown_of : DiskFile → Moment
shown_of file = record { closed = file.closed; front = file.octets }

-- octets begin with a front
pub record BeginsWith (front octets : List ℕ) : Type 0 where
  pub rest : List ℕ
  pub parts : octets ≡ front ++ rest

-- the same chapters are closed, and the open one begins with that front
pub record IsSameChapter (m n : Moment) : Type 0 where
  pub closed : n.closed ≡ m.closed
  pub front : BeginsWith m.front n.front

-- the chapter that was open begins with that front, and was closed, and maybe others behind it
pub record IsClosedSince (m n : Moment) : Type 0 where
  pub text : List ℕ
  pub more : List (List ℕ)
  pub closed : n.closed ≡ m.closed ++ text ∷ more
  pub front : BeginsWith m.front text

-- a history goes on from what it was
abbrev pub GoesOn : Moment → Moment → Type 0
GoesOn m n = IsSameChapter m n ⊎ IsClosedSince m n

-- a call has led from one file to the next: at each moment in between, and at the end, what is on
-- the disk goes on from this
pub record KeepsMoment (m : Moment) (old new : DiskFile) : Type 0 where
  pub more : List Moment
  pub moments : new.moments ≡ old.moments ++ more
  pub each : AllByRecursion (GoesOn m) more
  pub last : GoesOn m (moment_of new)

-- what holds of a file, where one is known: of a real disk none is
abbrev pub OfFile : (DiskFile → Type 0) → Option DiskFile → Type 0
OfFile P None = ⊤
OfFile P (Some file) = P file

-- .. of the files before and after a call
abbrev pub OfFiles : (DiskFile → DiskFile → Type 0) → Option DiskFile → Option DiskFile → Type 0
OfFiles R None None = ⊤
OfFiles R (Some old) (Some new) = R old new
OfFiles R old new = ⊥

-- ---- the calls

-- these octets are the open chapter's, and they begin with what is on the disk
abbrev pub Reads : List ℕ → DiskFile → Type 0
Reads octets file = (octets ≡ file.octets) × BeginsWith file.synced file.octets

-- these octets are those of the closed chapter at this place
abbrev pub ReadsClosed : ℕ → List ℕ → DiskFile → Type 0
ReadsClosed place octets file = slice_get file.closed place ≡ Some octets

-- nothing is done to the chapters: what is on the disk is what was, without a moment in between.
-- The next read gives the same octets, but not where a flush has failed: there it may give others
pub record IsUntouched (old new : DiskFile) : Type 0 where
  pub closed : new.closed ≡ old.closed
  pub synced : new.synced ≡ old.synced
  pub moments : new.moments ≡ old.moments
  pub sound : new.sound ≡ old.sound
  pub octets : old.sound ≡ true → new.octets ≡ old.octets

-- what was on the disk stays, at each moment
abbrev pub Keeps : DiskFile → DiskFile → Type 0
Keeps old new = KeepsMoment (moment_of old) old new

-- these octets stand behind the others
pub record Grows (more : List ℕ) (old new : DiskFile) : Type 0 where
  pub closed : new.closed ≡ old.closed
  pub octets : new.octets ≡ old.octets ++ more

-- .. and no flush has failed meanwhile
abbrev pub Appends : List ℕ → DiskFile → DiskFile → Type 0
Appends octets old new = Grows octets old new × (new.sound ≡ old.sound)

-- all octets are on the disk, unless a flush has failed before
pub record Syncs (old new : DiskFile) : Type 0 where
  pub closed : new.closed ≡ old.closed
  pub octets : new.octets ≡ old.octets
  pub sound : new.sound ≡ old.sound
  pub synced : old.sound ≡ true → new.synced ≡ old.octets

-- the open chapter has just these octets, on the disk, and no flush of it has failed
pub record Holds (text : List ℕ) (file : DiskFile) : Type 0 where
  pub octets : file.octets ≡ text
  pub synced : file.synced ≡ text
  pub sound : file.sound ≡ true

-- these octets are the open chapter's, on the disk, whatever has failed before
abbrev pub Renews : List ℕ → DiskFile → DiskFile → Type 0
Renews octets old new = (new.closed ≡ old.closed) × Holds octets new

-- the open chapter is closed, and the next one has these octets, on the disk
abbrev pub Begins : List ℕ → DiskFile → DiskFile → Type 0
Begins octets old new = (new.closed ≡ old.closed ++ old.octets ∷ []) × Holds octets new

-- what is on the disk goes on from what was there, or begins with these octets in its place
abbrev pub GoesOnEither : DiskFile → List ℕ → Moment → Type 0
GoesOnEither old octets m =
    GoesOn (moment_of old) m ⊎ GoesOn (record { closed = old.closed; front = octets }) m

-- .. so it is at each moment of a call, and at the end
pub record KeepsEither (octets : List ℕ) (old new : DiskFile) : Type 0 where
  pub more : List Moment
  pub moments : new.moments ≡ old.moments ++ more
  pub each : AllByRecursion (GoesOnEither old octets) more
  pub last : GoesOnEither old octets (moment_of new)
