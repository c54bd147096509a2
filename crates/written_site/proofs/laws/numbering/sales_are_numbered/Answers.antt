use Rattle.written_site.specs.NumberLaws.{AreNumbered}
use Rattle.written_site.proofs.RowWords.{of_events}
use Rattle.written_site.proofs.NumberLaws.{numbered}
use Rattle.written_site.proofs.laws.numbering.sales_are_numbered.Goals as goal

pub returns-clause-events : goal.returns-clause-events
returns-clause-events c = of_events AreNumbered numbered

pub returns-clause-books : goal.returns-clause-books
returns-clause-books c = numbered
