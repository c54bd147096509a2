-- What all tills cleared. Of each till there is its number, its clears, and their cents.
use Rattle.std.specs.Prelude.{ℕ, List, sum_by}

-- how many transactions all tills cleared
abbrev pub all_clears : List (ℕ × ℕ × ℕ) → ℕ
all_clears tills = sum_by (λ till. till.1) tills

-- their cents
abbrev pub all_cents : List (ℕ × ℕ × ℕ) → ℕ
all_cents tills = sum_by (λ till. till.2) tills
