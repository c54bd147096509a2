use Rattle.site_metrics.specs.Counts.{seal_line}
use Rattle.site_metrics.proofs.counts.put_seal_line.Goals as goal

pub returns : goal.returns
unfolding seal_line
returns c = c.put_gauge.ensures
