-- A disk in memory.
use Rattle.std.specs.Prelude.{ℕ, Option}
use Rattle.journal.specs.Disks.{DiskFile}
use Rattle.memory_disk.specs.declared.cut.Cut.{Cut}

-- what is known of its chapters, how many calls have come, and where it is cut
pub record DiskState : Type 0 where
  pub file : DiskFile
  pub count : ℕ
  pub cut : Option Cut
