use Rattle.command_line.proofs.word_commands.ask.Goals as goal

pub returns : goal.returns
returns c =
    let one = c.in_ok-command.ensures _ _ c.start-command.ensures c.option.ensures.rule in
    let two = c.in_ok-command-2.ensures _ _ one c.option-2.ensures.rule in
    c.add_argument-3.ensures _ _ two c.flag.ensures.rule
