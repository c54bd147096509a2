use Rattle.std.proofs.Common.{◌∙◌, subst, sym}
use Rattle.station.specs.Hearing.{AreTold}
use Rattle.station.proofs.Turns.{told_none}
use Rattle.station.proofs.hearing.sign_off.Goals as goal

pub returns-else-is_some-clause-told : goal.returns-else-is_some-clause-told
returns-else-is_some-clause-told c =
    let others = c.args.others.now in
    subst (λ b. AreTold c.args.book.now b others others)
    (sym (c.sign_off.ensures.none (sym c.is_some.ensures ∙ c.if-is_some.false)))
    (told_none c.args.book.now others)
