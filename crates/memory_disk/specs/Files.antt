-- What is known of a disk in memory.
use Rattle.std.specs.Prelude.{◌≡◌, ◌+◌, ℕ, true, [], length, take}
use Rattle.journal.specs.Disks.{DiskFile, Holds, Keeps}

-- nothing is written
abbrev pub empty_file : DiskFile
empty_file = record { closed = []; octets = []; synced = []; moments = []; sound = true }

-- what a start finds behind a crash: of the open chapter what was synced, and so many octets more.
-- All of it is on the disk
pub record IsLeftOf (kept : ℕ) (old new : DiskFile) : Type 0 where
  pub closed : new.closed ≡ old.closed
  pub open_one : Holds (take (length old.synced + kept) old.octets) new
  pub keeps : Keeps old new
