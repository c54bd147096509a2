use Rattle.written_site.specs.DrawLaws.{AreDrawsCounted}
use Rattle.written_site.proofs.RowWords.{of_events}
use Rattle.written_site.proofs.DrawLaws.{draws_counted}
use Rattle.written_site.proofs.laws.shifts.draws_are_counted.Goals as goal

pub returns-clause-events : goal.returns-clause-events
returns-clause-events c = of_events AreDrawsCounted draws_counted

pub returns-clause-books : goal.returns-clause-books
returns-clause-books c = draws_counted
