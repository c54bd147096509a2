-- A text of lines, with one line more.
use Rattle.std.proofs.Common.{◌≡◌, ℕ, ◌+◌, ◌<◌, List, ◌∷◌, ◌++◌, add-one, ap, append_assoc, drop}
use Rattle.std.proofs.Common.{flat_map, get_or, length, sym, ◌∙◌}
use Rattle.std.proofs.Math.Seq.{drop-cons}

pub line_more : {X : Type 0} (f : X → List ℕ) (xs : List X) (i : ℕ) (x : X)
    (text line new whole : List ℕ) → i < length xs → x ≡ get_or xs i x → new ≡ text ++ line
    → line ≡ f x → text ++ flat_map f (drop i xs) ≡ whole
    → new ++ flat_map f (drop (i + 1) xs) ≡ whole
line_more {X} f xs i x text line new whole within is more told rest =
    let left : drop i xs ≡ get_or xs i x ∷ drop (i + 1) xs = rw add-one (drop-cons xs i x within) in
    ap (λ t. t ++ flat_map f (drop (i + 1) xs))
    (more ∙ ap (λ l. text ++ l) (told ∙ ap f is))
    ∙ append_assoc text (f (get_or xs i x)) (flat_map f (drop (i + 1) xs))
    ∙ ap (λ (ys : List X). text ++ flat_map f ys) (sym left)
    ∙ rest
