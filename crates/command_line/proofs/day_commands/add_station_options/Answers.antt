use Rattle.command_line.proofs.day_commands.add_station_options.Goals as goal

pub returns : goal.returns
returns c s has =
    let one = c.in_ok-command.ensures _ _ has c.option.ensures.rule in
    let two = c.in_ok-command-2.ensures _ _ one c.option-2.ensures.rule in
    let three = c.in_ok-command-3.ensures _ _ two c.option-3.ensures.rule in
    let four = c.in_ok-command-4.ensures _ _ three c.option-4.ensures.rule in
    let five = c.in_ok-command-5.ensures _ _ four c.option-5.ensures.rule in
    let six = c.in_ok-command-6.ensures _ _ five c.option-6.ensures.rule in
    let seven = c.in_ok-command-7.ensures _ six in
    let eight = c.in_ok-command-8.ensures _ _ seven c.flag.ensures.rule in
    c.add_argument-8.ensures _ _ eight c.flag-2.ensures.rule
