use Rattle.command_line.proofs.word_commands.explain.Goals as goal

pub returns : goal.returns
returns c =
    let one = c.in_ok-command.ensures _ _ c.start-command.ensures c.what.ensures.rule in
    let two = c.in_ok-command-2.ensures _ _ one c.shift.ensures.rule in
    c.add_argument-3.ensures _ _ two c.flag.ensures.rule
