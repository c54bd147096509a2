use Rattle.std.proofs.Common.{arith}
use Rattle.demo.proofs.ReadLines.{reached_more, reached_refused}
use Rattle.demo.proofs.script.read_lines.Goals as goal

pub returns-in-Err-clause-refused : goal.returns-in-Err-clause-refused
returns-in-Err-clause-refused c =
    reached_refused c.args.text.now c.loop-rest.rest.now c.first_line.result.0.now
    c.first_line.result.1.now c.loop-rest.number c.loop-rest.draft c.in-Err.fault
    c.loop-rest.invariant.reached c.first_line.ensures.line c.in-Err.ensures.refused

pub loop-rest-preserved : goal.loop-rest-preserved
loop-rest-preserved c = record {
  reached =
      reached_more c.args.text.now c.loop-rest.rest.now c.first_line.result.0.now
      c.first_line.result.1.now c.loop-rest.number c.loop-rest.draft c.read_line.new.draft
      c.loop-rest.invariant.reached c.first_line.ensures.line c.in-Ok.ensures.read;
  few = omega (arith, c.first_line.ensures.shorter, c.loop-rest.invariant.few);
}
