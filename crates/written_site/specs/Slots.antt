-- A slot that one at a time may take, as a history of moments shows it: what a moment takes it for,
-- and whose taking a moment ends. The holder of a point is such a slot.
use Rattle.std.specs.Prelude.{◌≡◌, ℕ, Bool, false, List, ◌∷◌, ◌++◌, Option, Some}
use Rattle.std.specs.List.{list_any}

-- one of these moments takes the slot for t, and after it none ends what t took
pub record IsLastTake {M : Type 0} (takes : M → Option ℕ) (ends : ℕ → M → Bool) (t : ℕ)
    (moments : List M) : Type 0 where
  pub before : List M
  pub take : M
  pub since : List M
  pub parts : moments ≡ before ++ take ∷ since
  pub taken : takes take ≡ Some t
  pub unended : list_any (ends t) since ≡ false
