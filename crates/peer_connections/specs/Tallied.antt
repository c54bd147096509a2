-- The rows that are tallied.
use Rattle.std.specs.Prelude.{◌≡◌, ℕ, List, Option, Some, None, ⊤}
use Rattle.site_base.specs.declared.row.Row.{Row}
use Rattle.row_tally.specs.Tally.{Tally, with_all}

-- each of these rows joins the tally once, in order, with this time; or the tally has ended
abbrev pub AreTallied : Option (List ℕ) → List Row → Option Tally → Option Tally → Type 0
AreTallied time rows None None = ⊤
AreTallied time rows (Some t) None = ⊤
AreTallied time rows (Some t) (Some u) = u ≡ with_all time rows t
AreTallied time rows None (Some u) = ⊥
