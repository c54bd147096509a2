use Rattle.std.proofs.Common.{◌≡◌, arith, sym, subst, decimal}
use Rattle.std.proofs.lemmas.Fmt.{IsAscii-decimal}
use Rattle.std.proofs.lemmas.Str.{IsUtf8-from_ascii}
use Rattle.std.specs.Str.{IsUtf8}
use Rattle.forecourt_engines.proofs.Numerals.{parsed_is_same, parsed_is_written, refused_is_none}
use Rattle.forecourt_engines.proofs.Numerals.{signed_is_none}
use Rattle.forecourt_engines.proofs.number.number_of.Goals as goal

pub returns-in_default-clause-other : goal.returns-in_default-clause-other
returns-in_default-clause-other c = λ n low is.
    c.in_default.ensures.cases.0
    (subst IsUtf8 (sym is) (IsUtf8-from_ascii (decimal n) (IsAscii-decimal n (omega arith))))

pub returns-then-is_signed_or_padded-clause-other :
    goal.returns-then-is_signed_or_padded-clause-other
returns-then-is_signed_or_padded-clause-other c =
    signed_is_none c.args.digits.now c.args.most (omega arith)
    (sym c.if-is_signed_or_padded.ensures)

pub returns-then-n-most-clause-written : goal.returns-then-n-most-clause-written
returns-then-n-most-clause-written c = (
  parsed_is_written c.args.digits.now c.in-Ok.text.now c.in-Ok-parse.n c.in-Ok.ensures.cases.0
      (sym c.if-is_signed_or_padded.ensures) c.in-Ok-parse.ensures.value.0,
  c.if-n-most.true,
)

pub returns-else-n-most-clause-other : goal.returns-else-n-most-clause-other
returns-else-n-most-clause-other c = λ n low is.
    let same : c.in-Ok-parse.n ≡ n =
    parsed_is_same c.args.digits.now c.in-Ok.text.now c.in-Ok-parse.n c.args.most (omega arith)
    c.in-Ok.ensures.cases.0 c.in-Ok-parse.ensures.value.0 n low is in
    omega arith

pub returns-in-Err-clause-other : goal.returns-in-Err-clause-other
returns-in-Err-clause-other c =
    refused_is_none c.args.digits.now c.in-Ok.text.now c.in-Err.field-0 c.args.most (omega arith)
    c.in-Ok.ensures.cases.0 c.in-Err.ensures.value.0
