use Rattle.written_site.proofs.PassedChecks.{passed}
use Rattle.written_site.proofs.laws.passes_each_check.Goals as goal

pub returns : goal.returns
returns c = passed
