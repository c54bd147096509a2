-- The names of a history's files.
use Rattle.std.specs.Prelude.{◌≤◌, ◌+◌, ◌/◌, ◌%◌, ◌++◌, ◌∷◌, ℕ, zero, suc, List, [], codes}
use Rattle.chapters.specs.declared.history_end.TheConstants.{MOST_CHAPTERS}

-- a chapter may have this number
abbrev pub IsChapter : ℕ → Type 0
IsChapter n = (1 ≤ n) × (n ≤ MOST_CHAPTERS)

-- the last digits of a number, so many
abbrev pub digits_of : ℕ → ℕ → List ℕ
digits_of zero n = []
digits_of (suc count) n = digits_of count (n / 10) ++ (48 + n % 10) ∷ []

-- the name of the file of the chapter of this number: six digits and an ending
abbrev pub chapter_name : ℕ → List ℕ
chapter_name n = digits_of 6 n ++ codes ".journal"

-- the path of the file of a name in a folder
abbrev pub path_in : List ℕ → List ℕ → List ℕ
path_in folder name = folder ++ codes "/" ++ name
