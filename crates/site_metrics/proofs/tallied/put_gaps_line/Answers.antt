use Rattle.site_metrics.specs.Tallied.{gaps_line}
use Rattle.site_metrics.proofs.tallied.put_gaps_line.Goals as goal

pub returns : goal.returns
unfolding gaps_line
returns c = c.put_gauge.ensures
