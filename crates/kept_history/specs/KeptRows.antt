-- The rows of a history that are kept: all but those of reads.
use Rattle.std.specs.Prelude.{Bool, true, false, not, List, filter}
use Rattle.site_base.specs.declared.event.Event.{Event}
use Rattle.site_base.specs.declared.event.Event.TheVariants.{ReadPoint, ReadTransaction}
use Rattle.site_base.specs.declared.event.Event.TheVariants.{ReadProduct, ReadSite}
use Rattle.site_base.specs.declared.row.Row.{Row}

-- the event only reads
abbrev pub is_read : Event → Bool
is_read ReadSite = true
is_read (ReadPoint p) = true
is_read (ReadProduct q) = true
is_read (ReadTransaction p id) = true
is_read event = false

-- every row but a read's is kept; refusals of other requests too, since they show who tried what
abbrev pub is_kept : Row → Bool
is_kept r = not (is_read r.event)

-- the rows that are kept, in order
abbrev pub kept_rows : List Row → List Row
kept_rows rows = filter is_kept rows
