use Rattle.std.proofs.Common.{refl}
use Rattle.command_line.proofs.replay_commands.add_commands.Goals as goal

pub returns : goal.returns
returns c =
    let one = c.in_ok-program.ensures _ _ refl c.in_ok-check.ensures in
    let two = c.in_ok-program-2.ensures _ _ one c.in_ok-replay.ensures in
    let three = c.in_ok-program-3.ensures _ _ two c.in_ok-report.ensures in
    let four = c.in_ok-program-4.ensures _ _ three c.in_ok-sales.ensures in
    c.add_command-5.ensures _ _ four c.in_ok-meters.ensures
