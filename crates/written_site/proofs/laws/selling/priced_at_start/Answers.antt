use Rattle.written_site.specs.FuellingLaws.{ArePricedAtStart}
use Rattle.written_site.proofs.RowWords.{of_events}
use Rattle.written_site.proofs.FuellingLaws.{priced_at_start}
use Rattle.written_site.proofs.laws.selling.priced_at_start.Goals as goal

pub returns-clause-events : goal.returns-clause-events
returns-clause-events c = of_events ArePricedAtStart priced_at_start

pub returns-clause-books : goal.returns-clause-books
returns-clause-books c = priced_at_start
