-- What a volume costs, and how much a sum of money buys.
use Rattle.std.specs.Prelude.{ℕ, ◌+◌, ◌*◌, ◌/◌, ◌≤◌}

-- the cents of so many millilitres at so many mills per litre, rounded half up
abbrev pub amount : ℕ → ℕ → ℕ
amount millilitres mills = (millilitres * mills + 5000) / 10000

-- of the volumes whose amount at this price isn't above these cents, this is the greatest
pub record IsGreatestVolume (cents mills volume : ℕ) : Type 0 where
  pub affordable : amount volume mills ≤ cents
  pub greatest : (n : ℕ) → amount n mills ≤ cents → n ≤ volume
