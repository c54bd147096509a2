use Rattle.std.proofs.Common.{◌+◌, ◌≤◌, length}
use Rattle.demo.specs.Reading.{IsReadTo}
use Rattle.demo.proofs.script.read_lines.Given as goal

abbrev pub invariant-loop-rest : goal.invariant-loop-rest
invariant-loop-rest l = record {
  reached : IsReadTo l.fn.text l.rest l.number l.draft;
  few : l.number + length l.rest ≤ length l.fn.text;
}

abbrev pub decreases-loop-rest : goal.decreases-loop-rest
decreases-loop-rest l = length l.rest
