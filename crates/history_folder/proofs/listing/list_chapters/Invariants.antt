use Rattle.std.specs.List.{All}
use Rattle.history_folder.specs.Names.{IsChapter}
use Rattle.history_folder.proofs.listing.list_chapters.Given as goal

-- each number so far is a chapter's
abbrev pub invariant-loop-entry : goal.invariant-loop-entry
invariant-loop-entry g l = All IsChapter l.numbers.items
