use Rattle.written_site.proofs.Bridge.{legal_histories_are_runs}
use Rattle.written_site.proofs.laws.legal_histories_are_runs.Goals as goal

pub returns : goal.returns
returns c = legal_histories_are_runs
