-- Where a seal stands in a history.
use Rattle.std.specs.Prelude.{◌+◌, ℕ, List, [], ◌∷◌, Option, Some, None, if◌then◌else◌}
use Rattle.chapters.specs.ChapterReading.{is_same_line}
use Rattle.history_folder.specs.declared.seal_search.LinePlace.{LinePlace}

-- the number of the first of these lines that is this one, if one is; the first has this number
abbrev pub line_number : List ℕ → ℕ → List (List ℕ) → Option ℕ
line_number wanted n [] = None
line_number wanted n (line ∷ lines) =
    if is_same_line wanted line then Some n else line_number wanted (n + 1) lines

-- the place that was found before; else that of the line of this number, if there is one, in the
-- chapter of that number
abbrev pub place_or : Option LinePlace → ℕ → Option ℕ → Option LinePlace
place_or (Some place) chapter line = Some place
place_or None chapter None = None
place_or None chapter (Some line) = Some (record { chapter = chapter; line = line })

-- the line that is looked for, and where it was found
pub record SearchState : Type 0 where
  pub line : List ℕ
  pub place : Option LinePlace
