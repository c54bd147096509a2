use Rattle.row_feed.proofs.Serving.{served}
use Rattle.row_feed.proofs.laws.a_peer_is_fed_the_rows_that_it_asked_for.Goals as goal

pub returns : goal.returns
returns c = served
