-- The rows that dispensers are told of.
use Rattle.std.specs.Prelude.{ℕ, Bool, ◌&&◌, List, filter, drop, is_ok}
use Rattle.site_base.specs.declared.row.Row.{Row}
use Rattle.site_base.specs.Events.{has_change}

-- the row has a change: its event was accepted, and is one that the dispenser of its point is told
-- of
abbrev pub is_changing : Row → Bool
is_changing r = is_ok r.reply && has_change r.event

-- the rows with a change, from this place on
abbrev pub changes_from : ℕ → List Row → List Row
changes_from place rows = filter is_changing (drop place rows)
