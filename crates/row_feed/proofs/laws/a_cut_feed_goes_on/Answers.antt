use Rattle.row_feed.proofs.FedParts.{goes_on}
use Rattle.row_feed.proofs.laws.a_cut_feed_goes_on.Goals as goal

pub returns : goal.returns
returns c = goes_on
