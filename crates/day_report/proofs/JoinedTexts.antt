-- Texts that are put one behind another.
use Rattle.std.proofs.Common.{◌≡◌, ℕ, List, ◌++◌, ap, ◌∙◌, append_assoc}

-- a text, and then another
pub put_both : (old a b now new : List ℕ) → now ≡ old ++ a → new ≡ now ++ b
    → new ≡ old ++ (a ++ b)
put_both old a b now new first last =
    last ∙ ap (λ (t : List ℕ). t ++ b) first ∙ append_assoc old a b
