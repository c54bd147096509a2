use Rattle.std.proofs.Common.{◌≡◌, ◌≤◌, ◌-◌, length, take}
use Rattle.row_feed.specs.declared.sizes.TheConstants.{FEED_OCTETS}
use Rattle.row_json.specs.LastRows.{lines_from}
use Rattle.row_feed.specs.Feeds.{joined}
use Rattle.row_feed.proofs.feed.put_lines.Given as goal

abbrev pub invariant-loop-number : goal.invariant-loop-number
invariant-loop-number l =
    (l.text.items ≡ joined (take (l.number - l.from) (lines_from l.from l.rows)))
    × (length l.text.items ≤ FEED_OCTETS)
