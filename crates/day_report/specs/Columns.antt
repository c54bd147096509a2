-- A table in columns, as people read it.
use Rattle.std.specs.Prelude.{ℕ, ◌-◌, max, List, [], ◌∷◌, ◌++◌, length, map, flat_map, replicate}
use Rattle.std.specs.Prelude.{codes}

-- a line: its title, and its figures
pub record Line : Type 0 where
  pub title : List ℕ
  pub figures : List (List ℕ)

-- so many spaces
abbrev pub spaces : ℕ → List ℕ
spaces n = replicate n 32

-- a title, with spaces behind it up to this width
abbrev pub at_left : ℕ → List ℕ → List ℕ
at_left width word = word ++ spaces (width - length word)

-- two spaces, and a figure with spaces before it up to this width
abbrev pub at_right : ℕ → List ℕ → List ℕ
at_right width word = codes "  " ++ (spaces (width - length word) ++ word)

-- the length of the longest of these words
abbrev pub longest : List (List ℕ) → ℕ
longest [] = 0
longest (w ∷ ws) = max (length w) (longest ws)

-- the length of the longest title
abbrev pub longest_title : List Line → ℕ
longest_title lines = longest (map (λ l. l.title) lines)

-- that of the longest figure
abbrev pub longest_figure : List Line → ℕ
longest_figure [] = 0
longest_figure (l ∷ ls) = max (longest l.figures) (longest_figure ls)

-- a line in columns of these widths
abbrev pub line_text : ℕ → ℕ → Line → List ℕ
line_text first width l =
    (at_left first l.title ++ flat_map (at_right width) l.figures) ++ codes "\n"

-- the lines in columns: the first as wide as the longest title, the others as the longest figure
abbrev pub table_text : List Line → List ℕ
table_text lines = flat_map (line_text (longest_title lines) (longest_figure lines)) lines
