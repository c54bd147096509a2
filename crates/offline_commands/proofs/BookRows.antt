-- The rows of a book, one after another.
use Rattle.std.proofs.Common.{◌≡◌, ◌∙◌, ◌+◌, ℕ, List, [], ◌∷◌, ◌++◌, Some, ap, drop, slice_get}
use Rattle.std.proofs.Common.{take}
use Rattle.std.proofs.lemmas.List.{drop_more, take_more}
use Rattle.std.proofs.lemmas.Option.{get_or_from_slice_get, slice_get_within}

-- what is left from a row on
pub drop_row : {A : Type 0} (rows : List A) (i : ℕ) (r : A) → slice_get rows i ≡ Some r
    → drop i rows ≡ r ∷ drop (i + 1) rows
drop_row rows i r found =
    drop_more rows i r (slice_get_within rows i r found)
    ∙ ap (λ x. x ∷ drop (i + 1) rows) (get_or_from_slice_get rows i r r found)

-- the rows up to one
pub take_row : {A : Type 0} (rows : List A) (i : ℕ) (r : A) → slice_get rows i ≡ Some r
    → take (i + 1) rows ≡ take i rows ++ r ∷ []
take_row rows i r found =
    take_more rows i r (slice_get_within rows i r found)
    ∙ ap (λ x. take i rows ++ x ∷ []) (get_or_from_slice_get rows i r r found)
