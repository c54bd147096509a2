use Rattle.device_map.proofs.Short.{short_fits}
use Rattle.device_map.proofs.reply.finish_message.Goals as goal

-- items that are short have no fault
pub into_message-requires : goal.into_message-requires
into_message-requires c =
    short_fits c.args.draft.address c.args.draft.items c.requires.least c.requires.most
    c.requires.short
