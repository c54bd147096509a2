-- The lines that name a chapter, as they are written.
use Rattle.std.proofs.Common.{◌≡◌, ℕ, List, [], ◌∷◌, ◌++◌, sym, ap, ◌∙◌}
use Rattle.std.proofs.Common.{append_assoc}
use Rattle.chapters.specs.ChapterText.{text_of_lines}

line_behind : (a b rest : List ℕ) → ((a ++ b) ++ 10 ∷ []) ++ rest ≡ a ++ (b ++ 10 ∷ rest)
line_behind a b rest =
    append_assoc (a ++ b) (10 ∷ []) rest ∙ append_assoc a b (10 ∷ rest)

-- a line of a mark and of what follows it
pub line_named : (text mark rest : List ℕ)
    → text ++ (mark ++ (rest ++ 10 ∷ [])) ≡ text ++ text_of_lines ((mark ++ rest) ∷ [])
line_named text mark rest = ap (λ (xs : List ℕ). text ++ xs) (sym (line_behind mark rest []))
