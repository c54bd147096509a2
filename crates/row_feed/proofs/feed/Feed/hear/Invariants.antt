use Rattle.std.proofs.Common.{take}
use Rattle.row_feed.specs.Feeds.{Hears}
use Rattle.row_feed.proofs.feed.Feed.hear.Given as goal

abbrev pub invariant-loop-octet : goal.invariant-loop-octet
invariant-loop-octet l = Hears l.next (take l.octet-index l.octets) l.fn.self l.self
