use Rattle.written_site.specs.LockLaws.{AreLockedByOne}
use Rattle.written_site.proofs.RowWords.{of_events}
use Rattle.written_site.proofs.LockLaws.{locked_by_one}
use Rattle.written_site.proofs.laws.paying.locked_by_one.Goals as goal

pub returns-clause-events : goal.returns-clause-events
returns-clause-events c = of_events AreLockedByOne locked_by_one

pub returns-clause-books : goal.returns-clause-books
returns-clause-books c = locked_by_one
