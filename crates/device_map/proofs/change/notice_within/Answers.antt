use Rattle.device_map.proofs.Short.{command_short}
use Rattle.device_map.proofs.change.notice_within.Goals as goal

pub finish_message-requires-clause-short : goal.finish_message-requires-clause-short
finish_message-requires-clause-short c =
    rw (c.in_ok-put_preset.ensures, c.in_ok-put_command.ensures, c.in_ok-draft.ensures)
    (command_short c.args.command c.args.preset c.requires)
