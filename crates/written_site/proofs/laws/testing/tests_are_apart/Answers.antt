use Rattle.written_site.specs.TestLaws.{AreTestsApart}
use Rattle.written_site.proofs.RowWords.{of_events}
use Rattle.written_site.proofs.TestLaws.{tests_apart}
use Rattle.written_site.proofs.laws.testing.tests_are_apart.Goals as goal

pub returns-clause-events : goal.returns-clause-events
returns-clause-events c = of_events AreTestsApart tests_apart

pub returns-clause-books : goal.returns-clause-books
returns-clause-books c = tests_apart
