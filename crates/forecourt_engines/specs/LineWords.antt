-- The words of a line.
use Rattle.std.specs.Prelude.{◌≡◌, ℕ, List, [], ◌∷◌, ◌++◌, Bool, true, false, ◌==◌, ◌||◌}
use Rattle.std.specs.Prelude.{if◌then◌else◌}

-- a space, a tab, or a carriage return
abbrev pub is_space : ℕ → Bool
is_space octet = octet == 32 || octet == 9 || octet == 13

-- words, with an octet more in front of the first
abbrev pub lengthen_first : ℕ → List (List ℕ) → List (List ℕ)
lengthen_first octet [] = (octet ∷ []) ∷ []
lengthen_first octet (w ∷ ws) = (octet ∷ w) ∷ ws

-- the words of a text that goes on with this octet, where the rest has these words
abbrev pub begun_by : ℕ → List ℕ → List (List ℕ) → List (List ℕ)
begun_by octet [] words = (octet ∷ []) ∷ []
begun_by octet (next ∷ rest) words =
    if is_space next then (octet ∷ []) ∷ words else lengthen_first octet words

-- the words of a text: what stands between spaces
abbrev pub words_in : List ℕ → List (List ℕ)
words_in [] = []
words_in (octet ∷ rest) =
    if is_space octet then words_in rest else begun_by octet rest (words_in rest)

-- what stands before the first comma, and what stands behind it
abbrev pub before_comma : List ℕ → List ℕ
before_comma [] = []
before_comma (octet ∷ rest) = if octet == 44 then [] else octet ∷ before_comma rest

abbrev pub behind_comma : List ℕ → List ℕ
behind_comma [] = []
behind_comma (octet ∷ rest) = if octet == 44 then rest else behind_comma rest

-- the words of a line: before the first comma, and then behind it
abbrev pub line_words : List ℕ → List (List ℕ)
line_words line = words_in (before_comma line) ++ words_in (behind_comma line)

-- no octet, or one that is no space, stands in front
abbrev pub BeginsNoSpace : List ℕ → Type 0
BeginsNoSpace [] = Unit {0}
BeginsNoSpace (octet ∷ rest) = is_space octet ≡ false

-- a comment: nothing but spaces, or a `#` behind them
abbrev pub is_comment : List ℕ → Bool
is_comment [] = true
is_comment (octet ∷ rest) = if is_space octet then is_comment rest else octet == 35
