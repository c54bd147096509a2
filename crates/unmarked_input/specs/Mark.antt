-- The byte order mark of a text, and the text without it.
use Rattle.std.specs.Prelude.{ℕ, List, [], ◌∷◌, drop, nat_eq, if◌then◌else◌}
use Rattle.std.specs.List.{starts_with}

-- the byte order mark in UTF-8
abbrev pub mark : List ℕ
mark = 0xEF ∷ 0xBB ∷ 0xBF ∷ []

-- octets without the mark, if they begin with it
abbrev pub without_mark : List ℕ → List ℕ
without_mark octets = if starts_with nat_eq octets mark then drop 3 octets else octets
