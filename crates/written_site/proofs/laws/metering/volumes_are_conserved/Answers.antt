use Rattle.written_site.specs.VolumeLaws.{AreVolumesConserved}
use Rattle.written_site.proofs.RowWords.{of_events}
use Rattle.written_site.proofs.VolumeLaws.{volumes_conserved}
use Rattle.written_site.proofs.laws.metering.volumes_are_conserved.Goals as goal

pub returns-clause-events : goal.returns-clause-events
returns-clause-events c = of_events AreVolumesConserved volumes_conserved

pub returns-clause-books : goal.returns-clause-books
returns-clause-books c = volumes_conserved
