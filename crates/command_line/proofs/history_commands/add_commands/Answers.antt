use Rattle.std.proofs.Common.{refl}
use Rattle.command_line.proofs.history_commands.add_commands.Goals as goal

pub returns : goal.returns
returns c =
    let one = c.in_ok-program.ensures _ _ refl c.in_ok-shifts.ensures in
    let two = c.in_ok-program-2.ensures _ _ one c.in_ok-next.ensures in
    let three = c.in_ok-program-3.ensures _ _ two c.in_ok-verify.ensures in
    c.add_command-4.ensures _ _ three c.in_ok-story.ensures
