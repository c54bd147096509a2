-- Sets of fuelling points in one number: bit p - 1 says that point p is a member.
use Rattle.std.specs.Prelude.{◌≡◌, ℕ, ◌-◌, ◌<◌, ◌≤◌, Bool, false, not, ◌&&◌, ◌||◌, ◌==◌}
use Rattle.std.specs.Int.{bit_at}
use Rattle.site_base.specs.declared.limits.TheConstants.{POINTS}

-- point p is a member of the set
unfoldable pub has_point : ℕ → ℕ → Bool
has_point p set = bit_at set (p - 1) == 1

-- the new set has point p and what the old one has
abbrev pub IsWith : ℕ → ℕ → ℕ → Type 0
IsWith p old new = (q : ℕ) → 1 ≤ q → q ≤ POINTS → has_point q new ≡ (q == p || has_point q old)

-- the new set has what the old one has, but not point p
abbrev pub IsWithout : ℕ → ℕ → ℕ → Type 0
IsWithout p old new = (q : ℕ) → 1 ≤ q → q ≤ POINTS
    → has_point q new ≡ (not (q == p) && has_point q old)

-- no point from number 1 on and before this one is a member
abbrev pub NoneBefore : ℕ → ℕ → Type 0
NoneBefore end set = (q : ℕ) → 1 ≤ q → q < end → has_point q set ≡ false
