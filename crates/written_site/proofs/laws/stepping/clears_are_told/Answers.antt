use Rattle.written_site.specs.StepLaws.{AreClearsTold}
use Rattle.written_site.proofs.RowWords.{of_events}
use Rattle.written_site.proofs.RefusedLaws.{clears_told}
use Rattle.written_site.proofs.laws.stepping.clears_are_told.Goals as goal

pub returns-clause-events : goal.returns-clause-events
returns-clause-events c = of_events AreClearsTold clears_told

pub returns-clause-books : goal.returns-clause-books
returns-clause-books c = clears_told
