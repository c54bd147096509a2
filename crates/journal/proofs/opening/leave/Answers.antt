use Rattle.journal.proofs.SigningOff.{left_by}
use Rattle.journal.proofs.opening.leave.Goals as goal

pub returns : goal.returns
returns c =
    left_by c.args.book.now c.sign_off.new.self c.args.till c.sign_off.result
    c.sign_off.ensures.row c.sign_off.ensures.signed_on c.sign_off.ensures.none
