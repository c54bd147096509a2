-- Reading in stages, of which the first that fails decides.
use Rattle.std.specs.Prelude.{◌≡◌, Result, Ok, Err}
use Rattle.device_map.specs.declared.fault.MapFault.{MapFault}

infixl 10 ◌>>=◌
abbrev pub ◌>>=◌ : {A B : Type 0} → Result A MapFault → (A → Result B MapFault) → Result B MapFault
(Ok x) >>= f = f x
(Err e) >>= f = Err e

-- what a function returned is what the stage gives
abbrev pub Gives : {A : Type 0} → Result A MapFault → Result A MapFault → Type 0
Gives (Ok x) stage = stage ≡ Ok x
Gives (Err e) stage = stage ≡ Err e
