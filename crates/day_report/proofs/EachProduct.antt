-- What there is of each product with its figures, one after another.
use Rattle.std.proofs.Common.{◌≡◌, ℕ, zero, suc, ◌≤◌, List, [], ◌∷◌, ◌++◌, drop, length, min}
use Rattle.std.proofs.Common.{sym, ap, ◌∙◌, append-nil, arith}
use Rattle.site_base.specs.declared.config.ProductEntry.{ProductEntry}
use Rattle.site_base.specs.declared.view.ProductView.{ProductView}

-- where there is nothing without a product, and nothing without a view, nothing is left after the
-- last of either
pub none_left : {A : Type 0} (made : List ProductEntry → List ProductView → List A)
    → ((vs : List ProductView) → made [] vs ≡ []) → ((ps : List ProductEntry) → made ps [] ≡ [])
    → (ps : List ProductEntry) (vs : List ProductView) (i : ℕ)
    → min (length ps) (length vs) ≤ i → made (drop i ps) (drop i vs) ≡ []
none_left made unlisted unseen [] vs zero h = unlisted vs
none_left made unlisted unseen [] vs (suc i) h = unlisted (drop (suc i) vs)
none_left made unlisted unseen (p ∷ ps) [] zero h = unseen (p ∷ ps)
none_left made unlisted unseen (p ∷ ps) [] (suc i) h = unseen (drop i ps)
none_left made unlisted unseen (p ∷ ps) (v ∷ vs) zero h = absurd (omega (arith, h))
none_left made unlisted unseen (p ∷ ps) (v ∷ vs) (suc i) h =
    none_left made unlisted unseen ps vs i (omega (arith, h))

-- so what is there is all
pub all_there : {A : Type 0} (there rest all : List A) → there ++ rest ≡ all → rest ≡ []
    → there ≡ all
all_there {A} there rest all is none =
    sym (append-nil there) ∙ sym (ap (λ (x : List A). there ++ x) none) ∙ is
