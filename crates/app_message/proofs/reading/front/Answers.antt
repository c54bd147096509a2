use Rattle.std.proofs.Common.{arith}
use Rattle.app_message.proofs.Taking.{header_takes}
use Rattle.app_message.proofs.reading.front.Goals as goal

pub body_of-requires-clause-least : goal.body_of-requires-clause-least
body_of-requires-clause-least c =
    let taken = header_takes _ _ c.in_ok-head.ensures.exact in
    omega (arith, taken.least, c.split_at.ensures.front_len)

pub body_of-requires-clause-most : goal.body_of-requires-clause-most
body_of-requires-clause-most c =
    let taken = header_takes _ _ c.in_ok-head.ensures.exact in
    omega (arith, taken.most, c.split_at.ensures.front_len)
