use Rattle.written_site.specs.ShiftLaws.{AreClearsCounted}
use Rattle.written_site.proofs.RowWords.{of_events}
use Rattle.written_site.proofs.ShiftLaws.{clears_counted}
use Rattle.written_site.proofs.laws.shifts.clears_are_counted.Goals as goal

pub returns-clause-events : goal.returns-clause-events
returns-clause-events c = of_events AreClearsCounted clears_counted

pub returns-clause-books : goal.returns-clause-books
returns-clause-books c = clears_counted
