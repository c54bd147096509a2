use Rattle.device_map.proofs.Short.{reply_short}
use Rattle.device_map.proofs.reply.reply_in.Goals as goal

pub finish_message-requires-clause-short : goal.finish_message-requires-clause-short
finish_message-requires-clause-short c =
    rw (c.in_ok-put_reply.ensures, c.in_ok-draft.ensures.value) (reply_short c.args.reply.now)
