use Rattle.command_line.proofs.day_commands.add_house_options.Goals as goal

pub returns : goal.returns
returns c s has =
    let one = c.in_ok-command.ensures _ _ has c.option.ensures.rule in
    let two = c.in_ok-command-2.ensures _ _ one c.option-2.ensures.rule in
    c.add_argument-3.ensures _ _ two c.option-3.ensures.rule
