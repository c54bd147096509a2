use Rattle.forecourt_engines.proofs.WholeTexts.{one_stream_of_lines}
use Rattle.forecourt_engines.proofs.laws.one_stream_of_lines.Goals as goal

pub returns : goal.returns
returns c = one_stream_of_lines
