use Rattle.std.proofs.Common.{◌≡◌, take}
use Rattle.app_message.specs.Telegram.{entries}
use Rattle.app_message.specs.Bodies.{with_items}
use Rattle.app_message.proofs.message.put_all.Given as goal

abbrev pub invariant-loop-id : goal.invariant-loop-id
invariant-loop-id l = l.draft ≡ with_items l.initial.draft (entries (take l.id-index l.items))
