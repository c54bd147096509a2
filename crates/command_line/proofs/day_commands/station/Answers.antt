use Rattle.command_line.proofs.day_commands.station.Goals as goal

pub returns : goal.returns
returns c =
    let one =
    c.in_ok-command.ensures _ _ c.start-command.ensures c.optional_site_file.ensures.rule in
    let two = c.in_ok-command-2.ensures _ _ one c.option.ensures.rule in
    let three = c.in_ok-command-3.ensures _ _ two c.option-2.ensures.rule in
    c.add_station_options.ensures _ three
