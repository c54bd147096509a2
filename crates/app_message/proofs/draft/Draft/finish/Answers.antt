use Rattle.std.proofs.Common.{◌∙◌, List, ap, arith, sym}
use Rattle.app_message.specs.Parts.{do_rise}
use Rattle.app_message.specs.Telegram.{Entry, Telegram}
use Rattle.app_message.proofs.Bodies.{draft_long, draft_falls, draft_fits}
use Rattle.app_message.proofs.draft.Draft.finish.Goals as goal

pub returns-then-len-gt-LONGEST_BODY-clause-fault :
    goal.returns-then-len-gt-LONGEST_BODY-clause-fault
returns-then-len-gt-LONGEST_BODY-clause-fault c =
    rw (← c.self.view_is) (draft_long _ c.self.inside.body.items c.self.invariant
    (omega (arith, c.if-len-gt-LONGEST_BODY.true, c.len.ensures)))

pub returns-then-not-rise-clause-fault : goal.returns-then-not-rise-clause-fault
returns-then-not-rise-clause-fault c =
    let falls =
    ap (λ (m : Telegram). do_rise 0 m.items) c.self.view_is ∙ ap
    (λ (es : List Entry). do_rise 0 es) (sym c.items.ensures) ∙ sym c.rise.ensures
    ∙ c.if-not-rise.true in
    rw (← c.self.view_is) (draft_falls _ c.self.inside.body.items c.self.invariant
    (omega (arith, c.if-len-gt-LONGEST_BODY.false, c.len.ensures)) falls)

pub of_body-requires : goal.of_body-requires
of_body-requires c =
    let rise =
    ap (λ (m : Telegram). do_rise 0 m.items) c.self.view_is ∙ ap
    (λ (es : List Entry). do_rise 0 es) (sym c.items.ensures) ∙ sym c.rise.ensures
    ∙ c.if-not-rise.false in
    draft_fits _ c.self.inside.body.items c.self.invariant
    (omega (arith, c.if-len-gt-LONGEST_BODY.false, c.len.ensures)) rise
