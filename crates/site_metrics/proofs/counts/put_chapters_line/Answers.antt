use Rattle.site_metrics.specs.Counts.{chapters_line}
use Rattle.site_metrics.proofs.counts.put_chapters_line.Goals as goal

pub returns : goal.returns
unfolding chapters_line
returns c = c.put_gauge.ensures
