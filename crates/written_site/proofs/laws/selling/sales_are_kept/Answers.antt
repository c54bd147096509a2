use Rattle.written_site.specs.FuellingLaws.{AreSalesKept}
use Rattle.written_site.proofs.RowWords.{of_events}
use Rattle.written_site.proofs.FuellingLaws.{sales_kept}
use Rattle.written_site.proofs.laws.selling.sales_are_kept.Goals as goal

pub returns-clause-events : goal.returns-clause-events
returns-clause-events c = of_events AreSalesKept sales_kept

pub returns-clause-books : goal.returns-clause-books
returns-clause-books c = sales_kept
