-- Texts that are put one after another.
use Rattle.std.proofs.Common.{◌≡◌, ℕ, List, ◌++◌, ap, ◌∙◌, append_assoc}

-- three texts after an old one, the first two joined first
pub put_three : (old a b d t u new : List ℕ) → t ≡ old ++ a → u ≡ t ++ b → new ≡ u ++ d
    → new ≡ old ++ (a ++ b ++ d)
put_three old a b d t u new first second third =
    third ∙ ap (λ (x : List ℕ). x ++ d) (second ∙ ap (λ (x : List ℕ). x ++ b) first)
    ∙ ap (λ (x : List ℕ). x ++ d) (append_assoc old a b) ∙ append_assoc old (a ++ b) d

-- .. the last two joined first
pub put_last : (old a b d t u new : List ℕ) → t ≡ old ++ a → u ≡ t ++ b → new ≡ u ++ d
    → new ≡ old ++ (a ++ (b ++ d))
put_last old a b d t u new first second third =
    third ∙ ap (λ (x : List ℕ). x ++ d) second ∙ append_assoc t b d
    ∙ ap (λ (x : List ℕ). x ++ (b ++ d)) first ∙ append_assoc old a (b ++ d)
