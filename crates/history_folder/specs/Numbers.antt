-- Which chapters there are.
use Rattle.std.specs.Prelude.{◌≡◌, ◌≤◌, ◌<◌, ◌↔◌, ℕ, List}
use Rattle.std.specs.List.{Contains}
use Rattle.history_folder.specs.declared.fault.FolderFault.{FolderFault}
use Rattle.history_folder.specs.declared.fault.FolderFault.TheVariants.{Missing}

-- the numbers are just those from 1 to this one
abbrev pub AreAllTo : ℕ → List ℕ → Type 0
AreAllTo last numbers = (k : ℕ) → Contains numbers k ↔ ((1 ≤ k) × (k ≤ last))

-- of the numbers from 1 on this is the least that is left out, while a greater one is there
pub record IsLeftOut (k : ℕ) (numbers : List ℕ) : Type 0 where
  pub before : (j : ℕ) → 1 ≤ j → j < k → Contains numbers j
  pub out : Contains numbers k → ⊥
  pub one : 1 ≤ k
  pub greater : ℕ
  pub above : k < greater
  pub there : Contains numbers greater

-- the fault names the chapter that is missing
abbrev pub IsMissing : List ℕ → FolderFault → Type 0
IsMissing numbers (Missing k) = IsLeftOut k numbers
IsMissing numbers fault = ⊥
