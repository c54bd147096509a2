use Rattle.command_line.proofs.replay_commands.check.Goals as goal

pub returns : goal.returns
returns c =
    c.add_argument.ensures _ _ c.start-command.ensures c.site_file.ensures.rule
