use Rattle.std.proofs.Common.{◌∙◌, ap, not, sym, arith}
use Rattle.std.proofs.lemmas.Bool.{eqb-true}
use Rattle.app_message.proofs.Cutting.{is_at_start}
use Rattle.app_message.proofs.decoder.Decoder.is_between.Goals as goal

pub returns-then-is_empty : goal.returns-then-is_empty
returns-then-is_empty c = λ none.
    let size = eqb-true _ _ (sym c.is_empty.ensures ∙ c.if-is_empty.true) in
    sym c.self.view_is ∙ is_at_start c.self.inside.rest.items c.self.inside.fault
    (omega (arith, size)) (c.is_none.ensures ∙ ap not none)
