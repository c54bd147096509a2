use Rattle.command_line.proofs.replay_commands.replay.Goals as goal

pub returns : goal.returns
returns c =
    let one = c.in_ok-command.ensures _ _ c.start-command.ensures c.site_or_history.ensures.rule in
    let two = c.in_ok-command-2.ensures _ _ one c.flag.ensures.rule in
    let three = c.in_ok-command-3.ensures _ _ two c.shift.ensures.rule in
    let four = c.in_ok-command-4.ensures _ _ three c.flag-2.ensures.rule in
    c.add_argument-5.ensures _ _ four c.option.ensures.rule
