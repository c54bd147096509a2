use Rattle.command_line.proofs.history_commands.verify.Goals as goal

pub returns : goal.returns
returns c =
    let one = c.in_ok-command.ensures _ _ c.start-command.ensures c.history_folder.ensures.rule in
    c.add_argument-2.ensures _ _ one c.option.ensures.rule
