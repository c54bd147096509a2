use Rattle.std.proofs.Common.{rules}
use Rattle.device_map.specs.Laws.{AsksFor}
use Rattle.device_map.proofs.OneRequest.{alone}
use Rattle.past_rows.proofs.replies.make_request.Goals as goal

pub returns : goal.returns
returns c =
    let row = c.args.row.now in
    let asks : AsksFor 0 row.actor row.event c.in-Some.request = search rules in
    alone 0 row.actor row.event c.in-Some.request asks
