-- Texts that are put one behind another.
use Rattle.std.proofs.Common.{◌≡◌, ℕ, List, ◌++◌, Result, Ok, Err, ap, sym, ◌∙◌, append_assoc}
use Rattle.std.specs.Prelude.{OnOk}

-- a piece, and then the rest, if it could be put there: the whole
pub put_then : {T E : Type 0} (r : Result T E) (old a b now new whole : List ℕ) → now ≡ old ++ a
    → OnOk r (new ≡ now ++ b) → whole ≡ a ++ b → OnOk r (new ≡ old ++ whole)
put_then (Ok t) old a b now new whole first last is =
    last ∙ ap (λ (t : List ℕ). t ++ b) first ∙ append_assoc old a b
    ∙ ap (λ (t : List ℕ). old ++ t) (sym is)
put_then (Err e) old a b now new whole first last is = tt
