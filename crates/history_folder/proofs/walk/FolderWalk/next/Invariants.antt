use Rattle.std.proofs.Common.{◌-◌}
use Rattle.history_folder.proofs.Walking.{WalksOn}
use Rattle.history_folder.proofs.walk.FolderWalk.next.Given as goal

-- so far the book has this row more, if there is one
abbrev pub invariant-loop-self : goal.invariant-loop-self
invariant-loop-self g l = WalksOn l.fn.self l.self l.row

abbrev pub decreases-loop-self : goal.decreases-loop-self
decreases-loop-self g l = l.self.count - l.self.reader.end.chapters
