-- How many rows a history keeps.
use Rattle.std.specs.Prelude.{ℕ, ◌+◌, if◌then◌else◌}
use Rattle.site_base.specs.declared.event.Event.{Event}
use Rattle.kept_history.specs.KeptRows.{is_read}

-- so many, with a row of this event behind so many
abbrev pub kept_after : Event → ℕ → ℕ
kept_after event kept = if is_read event then kept else kept + 1
