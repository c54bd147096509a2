use Rattle.forecourt_engines.proofs.OneMeaning.{one_thing}
use Rattle.forecourt_engines.proofs.laws.a_line_asks_for_one_thing.Goals as goal

pub returns : goal.returns
returns c = one_thing
