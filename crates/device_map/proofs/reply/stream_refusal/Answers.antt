use Rattle.device_map.proofs.Short.{number_short}
use Rattle.device_map.proofs.reply.stream_refusal.Goals as goal

pub finish_message-requires-clause-short : goal.finish_message-requires-clause-short
finish_message-requires-clause-short c =
    rw (c.in_ok-put_octet.ensures, c.in_ok-draft.ensures) (number_short _)
