use Rattle.std.proofs.Common.{◌∙◌, ap}
use Rattle.desk_days.proofs.Serving.{are_served}
use Rattle.desk_days.proofs.section.serve_messages.Goals as goal

pub returns-clause-served : goal.returns-clause-served
returns-clause-served g c =
    let spelled = ap (λ b. b.now) c.new-reader.ensures.device ∙ c.as_slice.ensures.value
    ∙ c.in_ok-octets.ensures in
    let empty = ap (λ v. v.items) c.new-writer.ensures.device ∙ c.new.ensures.items in
    are_served c.args.turns c.args.messages.now _ _ _ _ _ _ c.args.share.now.receipts _ spelled
    empty
    c.new-counter.ensures.rows c.run-end.ensures.served
