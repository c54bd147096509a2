use Rattle.demo.proofs.Unique.{refused_is_none, script_is_one}
use Rattle.demo.proofs.script.read_script.Goals as goal

pub returns-in-Ok-clause-one : goal.returns-in-Ok-clause-one
returns-in-Ok-clause-one c = λ other is.
    script_is_one c.args.text.now c.in-Ok.demo other c.in-Ok.ensures.script is

pub returns-in-Err-clause-none : goal.returns-in-Err-clause-none
returns-in-Err-clause-none c =
    refused_is_none c.args.text.now c.in-Err.fault c.in-Err.ensures.refused
