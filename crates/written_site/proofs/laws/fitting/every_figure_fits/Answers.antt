use Rattle.written_site.specs.FitLaws.{DoFiguresFitRows}
use Rattle.written_site.proofs.RowWords.{of_events}
use Rattle.written_site.proofs.FitLaws.{every_figure_fits}
use Rattle.written_site.proofs.laws.fitting.every_figure_fits.Goals as goal

pub returns-clause-events : goal.returns-clause-events
returns-clause-events c = of_events DoFiguresFitRows every_figure_fits

pub returns-clause-books : goal.returns-clause-books
returns-clause-books c = every_figure_fits
