use Rattle.written_site.specs.LockLaws.{AreClearedOnce}
use Rattle.written_site.proofs.RowWords.{of_events}
use Rattle.written_site.proofs.LockLaws.{cleared_once}
use Rattle.written_site.proofs.laws.paying.cleared_once.Goals as goal

pub returns-clause-events : goal.returns-clause-events
returns-clause-events c = of_events AreClearedOnce cleared_once

pub returns-clause-books : goal.returns-clause-books
returns-clause-books c = cleared_once
