use Rattle.written_site.proofs.Holders.{held_by_one}
use Rattle.written_site.proofs.laws.held_by_one.Goals as goal

pub returns : goal.returns
returns c = held_by_one
