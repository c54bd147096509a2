use Rattle.command_line.proofs.history_commands.next.Goals as goal

pub returns : goal.returns
returns c =
    c.add_argument.ensures _ _ c.start-command.ensures c.history_folder.ensures.rule
