use Rattle.written_site.specs.ClearedLaws.{AreVolumesCleared}
use Rattle.written_site.proofs.RowWords.{of_events}
use Rattle.written_site.proofs.ClearedLaws.{volumes_cleared}
use Rattle.written_site.proofs.laws.shifts.volumes_cleared_are_counted.Goals as goal

pub returns-clause-events : goal.returns-clause-events
returns-clause-events c = of_events AreVolumesCleared volumes_cleared

pub returns-clause-books : goal.returns-clause-books
returns-clause-books c = volumes_cleared
