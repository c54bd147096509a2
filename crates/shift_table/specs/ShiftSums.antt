-- What all tills cleared in a shift. Of each there are its clears and their cents.
use Rattle.std.specs.Prelude.{ℕ, List, sum_by}

-- how many transactions all tills cleared
abbrev pub all_clears : List (ℕ × ℕ) → ℕ
all_clears tills = sum_by (λ till. till.0) tills

-- their cents
abbrev pub all_cents : List (ℕ × ℕ) → ℕ
all_cents tills = sum_by (λ till. till.1) tills
