-- The replies to the rows of a history, as lines.
use Rattle.std.specs.Prelude.{ℕ, Bool, List, [], ◌++◌, Option, Some, None, if◌then◌else◌}
use Rattle.std.specs.List.{flat_map}
use Rattle.site_base.specs.declared.row.Row.{Row}
use Rattle.app_message.specs.Telegram.{Telegram}
use Rattle.hex_lines.specs.Lines.{line_of}
use Rattle.device_map.specs.Changes.{change_of}
use Rattle.device_map.specs.Replies.{reply_message}
use Rattle.chapters.specs.RowText.{row_request}

-- the line of a change, if there is one
abbrev pub change_line : Option Telegram → List ℕ
change_line None = []
change_line (Some change) = line_of change

-- the reply to a row's request; with changes, also the notice to its dispenser
abbrev pub reply_lines : Bool → Row → List ℕ
reply_lines changes r =
    line_of (reply_message (row_request r) r.reply)
    ++ (if changes then change_line (change_of r) else [])
