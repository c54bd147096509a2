-- The lines of a text, one after another.
use Rattle.std.proofs.Common.{◌≡◌, ◌∙◌, ◌+◌, ap, ℕ, List, [], ◌∷◌, ◌++◌, Bool, true, false, Some}
use Rattle.std.proofs.Common.{None}
use Rattle.std.specs.Prelude.{if◌then◌else◌}
use Rattle.hex_lines.specs.Lines.{IsLine}
use Rattle.chapters.specs.ChapterReading.{is_same_line}
use Rattle.chapters.specs.Lines.{lines_from, unfinished_from, whole_lines}
use Rattle.chapters.proofs.Lines.{line_ends, lines_both, none_ends, one_line}
use Rattle.history_folder.specs.SealPlaces.{line_number}

-- the first line of a text, and those behind it
pub first_line : (line others : List ℕ) → IsLine line
    → whole_lines ((line ++ 10 ∷ []) ++ others) ≡ line ∷ whole_lines others
first_line line others plain =
    lines_both [] (line ++ 10 ∷ []) others
    ∙ ap (λ (ls : List (List ℕ)). ls ++ lines_from (unfinished_from [] (line ++ 10 ∷ [])) others)
    (one_line line plain)
    ∙ ap (λ (rest : List ℕ). line ∷ lines_from rest others) (line_ends [] line)

-- what is looked for in a text whose first line stands ahead of a rest
found_line : (wanted line others : List ℕ) (n : ℕ) → IsLine line
    → line_number wanted n (whole_lines ((line ++ 10 ∷ []) ++ others))
    ≡ (if is_same_line wanted line then Some n
    else line_number wanted (n + 1) (whole_lines others))
found_line wanted line others n plain = ap (line_number wanted n) (first_line line others plain)

pub is_this : (wanted text line others : List ℕ) (n : ℕ) → IsLine line
    → text ≡ (line ++ 10 ∷ []) ++ others → is_same_line wanted line ≡ true
    → line_number wanted n (whole_lines text) ≡ Some n
is_this wanted text line others n plain parts same =
    ap (λ (xs : List ℕ). line_number wanted n (whole_lines xs)) parts
    ∙ found_line wanted line others n plain
    ∙ ap (λ (t : Bool). if t then Some n else line_number wanted (n + 1) (whole_lines others)) same

pub is_another : (wanted text line others : List ℕ) (n : ℕ) → IsLine line
    → text ≡ (line ++ 10 ∷ []) ++ others → is_same_line wanted line ≡ false
    → line_number wanted n (whole_lines text) ≡ line_number wanted (n + 1) (whole_lines others)
is_another wanted text line others n plain parts same =
    ap (λ (xs : List ℕ). line_number wanted n (whole_lines xs)) parts
    ∙ found_line wanted line others n plain
    ∙ ap (λ (t : Bool). if t then Some n else line_number wanted (n + 1) (whole_lines others)) same

pub none_left : (wanted text : List ℕ) (n : ℕ) → IsLine text
    → line_number wanted n (whole_lines text) ≡ None
none_left wanted text n plain = ap (line_number wanted n) (none_ends [] text plain)
