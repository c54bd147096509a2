use Rattle.site_metrics.specs.Counts.{feeds_line}
use Rattle.site_metrics.proofs.counts.put_feeds_line.Goals as goal

pub returns : goal.returns
unfolding feeds_line
returns c = c.put_gauge.ensures
