use Rattle.std.proofs.Common.{◌∙◌}
use Rattle.clap.specs.Words.{found_of}
use Rattle.clap.proofs.WalkLemmas.{one_text-rows}
use Rattle.command_line.proofs.reading.is_given.Goals as goal

pub returns : goal.returns
returns c =
    let same = one_text-rows (found_of c.args.words.now) c.args.name.now in
    let flag = c.get_flag.ensures in
    (λ e. flag.none (same ∙ e), λ e. flag.value (same ∙ e), λ e. flag.other (same ∙ e))
