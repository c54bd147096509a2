use Rattle.std.proofs.Common.{◌≡◌, ◌∙◌, arith, rules, true}
use Rattle.device_map.specs.Ways.{may_send, way_to}
use Rattle.device_map.proofs.OneRequest.{there}
use Rattle.device_map.proofs.Short.{request_short}
use Rattle.device_map.proofs.Ways.{sender_there}
use Rattle.device_map.proofs.encoding.encode_request.Goals as goal

pub finish_message-requires-clause-short : goal.finish_message-requires-clause-short
finish_message-requires-clause-short c =
    rw (c.in_ok-put_items.ensures, c.in_ok-draft.ensures.value, c.to-way.ensures.way)
    (request_short c.args.event)

pub returns-clause-found : goal.returns-clause-found
returns-clause-found c =
    let sent : may_send c.args.actor (way_to c.args.event).kind ≡ true = search rules in
    rw (
      c.finish_message.ensures,
      c.in_ok-put_items.ensures,
      c.in_ok-draft.ensures.value,
      c.to-way.ensures.way,
    )
    (there c.args.token c.args.actor c.args.event (omega (arith, c.get.ensures.range))
    (sender_there c.args.actor c.args.event ∙ sent) c.to-way.ensures.range)
