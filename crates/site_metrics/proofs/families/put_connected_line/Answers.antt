use Rattle.site_metrics.specs.Metrics.{connected_line}
use Rattle.site_metrics.proofs.families.put_connected_line.Goals as goal

pub returns : goal.returns
unfolding connected_line
returns c = c.put_gauge.ensures
