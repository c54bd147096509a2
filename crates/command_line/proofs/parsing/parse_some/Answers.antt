use Rattle.std.proofs.Common.{◌≡◌, ◌⊎◌, ◌∙◌, ap, map, string_bytes, subst, sym}
use Rattle.clap.specs.Words.{IsAmong, fault_of, is_simple, is_simple_and_free, kind_of}
use Rattle.clap.specs.Words.{subcommand_of}
use Rattle.clap.specs.declared.error.kind.ErrorKind.TheVariants.{OutOfMemory}
use Rattle.command_line.specs.Commands.{IsSaidBy}
use Rattle.command_line.proofs.Endings.{ends_among}
use Rattle.command_line.proofs.Simple.{program_is_free, program_is_simple}
use Rattle.command_line.proofs.parsing.parse_some.Goals as goal

pub returns-in-Ok-try_get_matches_from-clause-said :
    goal.returns-in-Ok-try_get_matches_from-clause-said
returns-in-Ok-try_get_matches_from-clause-said c =
    let built = c.in-Ok.ensures in
    let texts = map string_bytes c.args.words.now in
    let matched = c.in-Ok-try_get_matches_from.ensures.matches
    (ap is_simple built ∙ program_is_simple) in
    subst (λ o. IsSaidBy o c.read_command.result)
    (matched.1 ∙ ap (λ a. subcommand_of a texts) built) c.read_command.ensures

pub returns-in-Ok-try_get_matches_from-clause-ends :
    goal.returns-in-Ok-try_get_matches_from-clause-ends
returns-in-Ok-try_get_matches_from-clause-ends c =
    let built = c.in-Ok.ensures in
    let texts = map string_bytes c.args.words.now in
    sym (ap (λ a. fault_of a texts) built)
    ∙ c.in-Ok-try_get_matches_from.ensures.kinds (ap is_simple_and_free built ∙ program_is_free)

pub returns-in-Err-try_get_matches_from-clause-ends :
    goal.returns-in-Err-try_get_matches_from-clause-ends
returns-in-Err-try_get_matches_from-clause-ends c =
    let built = c.in-Ok.ensures in
    let texts = map string_bytes c.args.words.now in
    let kind = kind_of c.in-Err-try_get_matches_from.error in
    let has = c.in-Err-try_get_matches_from.ensures.kinds
    (ap is_simple_and_free built ∙ program_is_free) in
    ends_among _ kind c.explain_error.result c.explain_error.ensures
    (subst (λ a. (kind ≡ OutOfMemory) ⊎ IsAmong kind (fault_of a texts)) built has)
