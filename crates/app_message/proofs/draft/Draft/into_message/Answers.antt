use Rattle.std.proofs.Common.{◌≡◌, None, subst, sym}
use Rattle.app_message.specs.Telegram.{Telegram}
use Rattle.app_message.specs.Parts.{parts_fault}
use Rattle.app_message.proofs.Bodies.{draft_faultless}
use Rattle.app_message.proofs.draft.Draft.into_message.Goals as goal

pub of_body-requires : goal.of_body-requires
of_body-requires c =
    draft_faultless _ c.self.inside.body.items c.self.invariant
    (subst (λ (m : Telegram). parts_fault m.address m.items ≡ None) (sym c.self.view_is) c.requires)
