use Rattle.written_site.specs.MeterLaws.{AreMetersRead}
use Rattle.written_site.proofs.RowWords.{of_events}
use Rattle.written_site.proofs.MeterLaws.{meters_read}
use Rattle.written_site.proofs.laws.metering.meters_by_rows.Goals as goal

pub returns-clause-events : goal.returns-clause-events
returns-clause-events c = of_events AreMetersRead meters_read

pub returns-clause-books : goal.returns-clause-books
returns-clause-books c = meters_read
