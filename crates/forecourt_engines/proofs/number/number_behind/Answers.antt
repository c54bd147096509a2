use Rattle.std.proofs.Common.{◌≡◌, decimal, arith, sym, ◌∙◌}
use Rattle.std.proofs.lemmas.Fmt.{decimal_injective}
use Rattle.forecourt_engines.proofs.Numerals.{behind_is}
use Rattle.forecourt_engines.proofs.number.number_behind.Goals as goal

pub returns-in_default-number_of-clause-other : goal.returns-in_default-number_of-clause-other
returns-in_default-number_of-clause-other c = λ n low high is.
    c.in_default-number_of.ensures.other n high
    (behind_is c.args.word.now c.args.text.now c.in-Some.digits.now (decimal n)
    c.in-Some.ensures.found is)

pub returns-else-least-n-clause-other : goal.returns-else-least-n-clause-other
returns-else-least-n-clause-other c = λ n low high is.
    let digits : c.in-Some.digits.now ≡ decimal n =
    behind_is c.args.word.now c.args.text.now c.in-Some.digits.now (decimal n)
    c.in-Some.ensures.found is in
    let same : c.in-Some-number_of.n ≡ n =
    decimal_injective c.in-Some-number_of.n n
    (omega (arith, c.in-Some-number_of.ensures.written.1)) (omega arith)
    (sym c.in-Some-number_of.ensures.written.0 ∙ digits) in
    omega arith
