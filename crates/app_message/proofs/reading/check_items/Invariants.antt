use Rattle.std.proofs.Common.{◌≡◌, List, length}
use Rattle.app_message.specs.Telegram.{Entry}
use Rattle.app_message.specs.Grammar.{items_at}
use Rattle.app_message.proofs.ItemSteps.{with_front}
use Rattle.app_message.proofs.reading.check_items.Given as goal

-- the items read so far, and those that are still read, are all
abbrev pub invariant-loop-rest : goal.invariant-loop-rest
invariant-loop-rest l = (so_far : List Entry)
    × (with_front so_far (items_at (length l.rest) l.low l.rest) ≡ items_at (length l.octets) 0
    l.octets)

abbrev pub decreases-loop-rest : goal.decreases-loop-rest
decreases-loop-rest l = length l.rest
