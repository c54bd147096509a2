use Rattle.app_message.proofs.Bodies.{body_lists}
use Rattle.app_message.proofs.spelled_message.SpelledMessage.items.Goals as goal

pub new-requires : goal.new-requires
new-requires c =
    rw c.split.ensures.items (body_lists _ c.self.inside.body.now c.self.invariant)
