use Rattle.written_site.specs.SigningLaws.{AreSignedOnByRows}
use Rattle.written_site.proofs.RowWords.{of_events}
use Rattle.written_site.proofs.SigningLaws.{signed_on_by_rows}
use Rattle.written_site.proofs.laws.signing.signed_on_by_rows.Goals as goal

pub returns-clause-events : goal.returns-clause-events
returns-clause-events c = of_events AreSignedOnByRows signed_on_by_rows

pub returns-clause-books : goal.returns-clause-books
returns-clause-books c = signed_on_by_rows
