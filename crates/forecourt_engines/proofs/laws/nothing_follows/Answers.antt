use Rattle.forecourt_engines.proofs.Lines as lines
use Rattle.forecourt_engines.proofs.laws.nothing_follows.Goals as goal

pub returns : goal.returns
returns c = lines.nothing_follows
