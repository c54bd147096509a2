use Rattle.written_site.specs.PointLaws.{ArePointsTheirOwn}
use Rattle.written_site.proofs.RowWords.{of_events}
use Rattle.written_site.proofs.PointLaws.{points_their_own}
use Rattle.written_site.proofs.laws.pointing.points_are_their_own.Goals as goal

pub returns-clause-events : goal.returns-clause-events
returns-clause-events c = of_events ArePointsTheirOwn points_their_own

pub returns-clause-books : goal.returns-clause-books
returns-clause-books c = points_their_own
