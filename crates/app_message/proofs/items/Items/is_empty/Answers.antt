use Rattle.app_message.proofs.Bodies.{is_none_left}
use Rattle.app_message.proofs.items.Items.is_empty.Goals as goal

pub returns : goal.returns
returns c = cc (
  c.is_empty.ensures,
  is_none_left c.self.inside.rest.now c.self.invariant,
  c.self.view_is,
)
