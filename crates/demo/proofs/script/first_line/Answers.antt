use Rattle.std.proofs.Common.{◌≡◌, ◌∷◌, suc, take, drop, get_or, ap, ◌∙◌, add-one, arith}
use Rattle.std.proofs.lemmas.Bool.{eqb-true, eq-eqb}
use Rattle.demo.specs.Lines.{lines_of}
use Rattle.demo.proofs.FirstLines.{line_first, line_last}
use Rattle.demo.proofs.script.first_line.Goals as goal

pub returns-in-Some-clause-line : goal.returns-in-Some-clause-line
returns-in-Some-clause-line c =
    let is : get_or c.args.text.now c.in-Some.end 0 ≡ 10 = eqb-true _ _ c.in-Some.ensures.1 in
    let split_at_space : lines_of c.args.text.now ≡ take c.in-Some.end c.args.text.now
    ∷ lines_of (drop (suc c.in-Some.end) c.args.text.now) =
    line_first c.args.text.now c.in-Some.end c.in-Some.ensures.0.high is
    (λ k low e. c.in-Some.ensures.0.before k (omega arith) low (eq-eqb _ _ e)) in
    let front : c.split_at.result.0.now ≡ take c.in-Some.end c.args.text.now =
    c.split_at.ensures.front in
    let back : c.split_at-in-Some.result.1.now ≡ drop (suc c.in-Some.end) c.args.text.now =
    c.split_at-in-Some.ensures.back ∙ ap (λ n. drop n c.args.text.now) (add-one c.in-Some.end) in
    let rest : lines_of c.split_at-in-Some.result.1.now
    ≡ lines_of (drop (suc c.in-Some.end) c.args.text.now) = ap lines_of back in
    cc

pub returns-in-None-clause-line : goal.returns-in-None-clause-line
returns-in-None-clause-line c =
    line_last c.args.text.now c.requires
    (λ k within e. c.in-None.ensures k (omega arith) within (eq-eqb _ _ e))
