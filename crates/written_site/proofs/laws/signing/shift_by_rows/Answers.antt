use Rattle.written_site.specs.SigningLaws.{IsShiftByRows}
use Rattle.written_site.proofs.RowWords.{of_events}
use Rattle.written_site.proofs.SigningLaws.{shift_by_rows}
use Rattle.written_site.proofs.laws.signing.shift_by_rows.Goals as goal

pub returns-clause-events : goal.returns-clause-events
returns-clause-events c = of_events IsShiftByRows shift_by_rows

pub returns-clause-books : goal.returns-clause-books
returns-clause-books c = shift_by_rows
