use Rattle.forecourt_engines.proofs.Lines as lines
use Rattle.forecourt_engines.proofs.laws.a_line_says.Goals as goal

pub returns : goal.returns
returns c = lines.line_says
