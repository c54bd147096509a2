use Rattle.std.proofs.Common.{◌≡◌, ◌≤◌, ◌+◌, length}
use Rattle.chapters.specs.Lines.{whole_lines}
use Rattle.history_folder.specs.SealPlaces.{line_number}
use Rattle.history_folder.proofs.seal_search.find_line.Given as goal

-- so far no line is the one that is looked for
abbrev pub invariant-loop-end : goal.invariant-loop-end
invariant-loop-end l = record {
  search : line_number l.wanted 1 (whole_lines l.text)
      ≡ line_number l.wanted (l.number + 1) (whole_lines l.rest);
  few : l.number + length l.rest ≤ length l.text;
}

abbrev pub decreases-loop-end : goal.decreases-loop-end
decreases-loop-end l = length l.rest
