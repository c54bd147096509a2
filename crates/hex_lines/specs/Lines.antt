-- Lines of hexadecimal: what of a line counts, and a message as a line.
use Rattle.std.specs.Prelude.{◌≡◌, ℕ, Bool, true, not, filter, List, [], ◌∷◌, ◌++◌, ◌==◌}
use Rattle.std.specs.Io.BufRead.{strip_last}
use Rattle.std.specs.List.{list_all}
use Rattle.hex.specs.Hex.{encode_lower}
use Rattle.app_message.specs.Spelling.{spelling}
use Rattle.app_message.specs.Telegram.{Telegram}

-- octets without a line feed
abbrev pub IsLine : List ℕ → Type 0
IsLine line = list_all (λ b. not (b == 10)) line ≡ true

abbrev pub without_spaces : List ℕ → List ℕ
without_spaces text = filter (λ b. not (b == 32)) text

-- a line without its spaces, and without a carriage return that ends it
abbrev pub kept_of : List ℕ → List ℕ
kept_of line = without_spaces (strip_last 13 line)

-- an empty line or a comment
abbrev pub is_skipped : List ℕ → Bool
is_skipped [] = true
is_skipped (b ∷ bs) = b == 35

-- a message as a line: lower case hexadecimal and a line feed
abbrev pub line_of : Telegram → List ℕ
line_of m = encode_lower (spelling m) ++ 10 ∷ []
