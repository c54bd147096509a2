use Rattle.std.proofs.Common.{refl}
use Rattle.command_line.proofs.word_commands.add_commands.Goals as goal

pub returns : goal.returns
returns c =
    let one = c.in_ok-program.ensures _ _ refl c.in_ok-explain.ensures in
    let two = c.in_ok-program-2.ensures _ _ one c.spell.ensures in
    c.add_command-3.ensures _ _ two c.in_ok-ask.ensures
