-- Lists whose members have the numbers 1, 2, 3 and so on.
use Rattle.std.specs.Prelude.{ℕ, ◌-◌, List, Option, None, ◌==◌, if◌then◌else◌, slice_get, slice_set}

-- the member with this number, if there is one
abbrev pub member : {A : Type 0} → ℕ → List A → Option A
member n xs = if n == 0 then None else slice_get xs (n - 1)

-- the list, with y as the member with this number, if it has one
abbrev pub with_numbered : {A : Type 0} → ℕ → A → List A → List A
with_numbered n y xs = if n == 0 then xs else slice_set xs (n - 1) y
