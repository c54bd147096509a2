-- The law of times.
use Rattle.std.specs.Prelude.{◌≡◌, ◌⊎◌, List, ℕ, Option, Some, true}
use Rattle.stamps.specs.Stamps.{is_later, time_of_lines}

-- this time is later than the last one
pub record IsLater (last behind : Option (List ℕ)) : Type 0 where
  pub time : List ℕ
  pub some : behind ≡ Some time
  pub later : is_later last time ≡ true

-- Times never fall, whatever lines are read: the time behind them is the last one, or a later one.
abbrev pub TimesNeverFall : Type 0
TimesNeverFall = (lines : List (List ℕ)) (last : Option (List ℕ))
    → (time_of_lines lines last ≡ last) ⊎ IsLater last (time_of_lines lines last)
