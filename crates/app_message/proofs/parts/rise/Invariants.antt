use Rattle.std.proofs.Common.{◌≡◌, drop}
use Rattle.app_message.specs.Telegram.{entries}
use Rattle.app_message.specs.Parts.{do_rise}
use Rattle.app_message.proofs.parts.rise.Given as goal

abbrev pub invariant-loop-id : goal.invariant-loop-id
invariant-loop-id l = do_rise l.low (entries (drop l.id-index l.items)) ≡ do_rise 0
    (entries l.items)
