use Rattle.std.proofs.Common.{◌∙◌}
use Rattle.std.proofs.lemmas.Result.{err_from_is_err_and}
use Rattle.app_message.proofs.Rising.{parts_fit, refused, no_bad_address}
use Rattle.app_message.proofs.message.Message.try_new.Goals as goal

pub returns-in_err-check-clause-refused : goal.returns-in_err-check-clause-refused
returns-in_err-check-clause-refused c =
    let p = err_from_is_err_and c.from_residual.result c.from_residual.ensures.1 in
    rw p.1 (λ _. refused _ _ _ _ _ _ _ c.in_err-check.ensures.err)

pub returns-in_err-draft-clause-refused : goal.returns-in_err-draft-clause-refused
returns-in_err-draft-clause-refused c =
    let p =
    err_from_is_err_and c.from_residual-in_err-draft.result
    c.from_residual-in_err-draft.ensures.1 in
    let fit = parts_fit _ _ c.in_ok-check.ensures.ok in
    rw p.1 (λ other. absurd (no_bad_address _ fit.least fit.most
    (c.in_err-draft.ensures.fault (λ e. other (p.2 ∙ e))).1))

pub returns-in_err-draft-clause-fault : goal.returns-in_err-draft-clause-fault
returns-in_err-draft-clause-fault c =
    let p =
    err_from_is_err_and c.from_residual-in_err-draft.result
    c.from_residual-in_err-draft.ensures.1 in
    let fit = parts_fit _ _ c.in_ok-check.ensures.ok in
    rw p.1 (λ other. absurd (no_bad_address _ fit.least fit.most
    (c.in_err-draft.ensures.fault (λ e. other (p.2 ∙ e))).1))

pub put_all-requires : goal.put_all-requires
put_all-requires c = (parts_fit _ _ c.in_ok-check.ensures.ok).rise
