-- Where the text of a history ends, as its reader and its writer keep it.
use Rattle.std.specs.Prelude.{◌≡◌, ◌==◌, ◌+◌, ℕ, Bool, List, ◌++◌, Option, length, nat_lt}
use Rattle.std.specs.Prelude.{if◌then◌else◌}
use Rattle.sha2.specs.declared.Sha256.{Sha256}
use Rattle.chapters.specs.declared.history_end.TheConstants.{SEAL_ROWS}
use Rattle.chapters.specs.declared.open_shift.FirstRow.{FirstRow}
use Rattle.chapters.specs.ChapterReading.{is_comment}
use Rattle.chapters.specs.ChapterText.{text_of_lines}
use Rattle.chapters.specs.Seals.{Covers}

-- so many chapters; the last seal; the hasher of the next one; whether nothing stands behind the
-- last one; how many lines of rows do, counted up to the limit; the last time that was told; the
-- first row of the open shift, once it has one; and how many seals there are
pub record EndState : Type 0 where
  pub chapters : ℕ
  pub seal : List ℕ
  pub hasher : Sha256
  pub sealed : Bool
  pub rows : ℕ
  pub time : Option (List ℕ)
  pub first : Option FirstRow
  pub seals : ℕ

-- a text of so many chapters ends so, whose last seal is this one, with these lines behind it
pub record EndsAt (chapters : ℕ) (seal : List ℕ) (unsealed : List (List ℕ)) (e : EndState)
    : Type 0 where
  pub count : e.chapters ≡ chapters
  pub last : e.seal ≡ seal
  pub covers : Covers e.hasher (seal ++ text_of_lines unsealed)
  pub sealed : e.sealed ≡ (length unsealed == 0)

-- one row more behind the last seal: they are counted up to the limit
abbrev pub one_more_row : ℕ → ℕ
one_more_row rows = if nat_lt rows SEAL_ROWS then rows + 1 else rows

-- so many stand there once this line does
abbrev pub rows_with : List ℕ → ℕ → ℕ
rows_with line rows = if is_comment line then rows else one_more_row rows
