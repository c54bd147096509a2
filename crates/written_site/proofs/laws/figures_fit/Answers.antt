use Rattle.written_site.proofs.FigureBounds.{figures_fit}
use Rattle.written_site.proofs.laws.figures_fit.Goals as goal

pub returns : goal.returns
returns c = figures_fit
