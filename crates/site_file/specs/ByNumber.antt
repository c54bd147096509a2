-- Products that are found by their numbers.
use Rattle.std.specs.Prelude.{ℕ, Bool, List, ◌==◌}
use Rattle.std.specs.List.{list_all}
use Rattle.site_base.specs.declared.config.ProductEntry.{ProductEntry}

-- each product stands at its number
abbrev pub are_by_number : List (ℕ × ProductEntry) → Bool
are_by_number entries = list_all (λ e. e.0 == e.1.number) entries
