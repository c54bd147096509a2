use Rattle.forecourt_engines.proofs.OneMeaning.{one_way}
use Rattle.forecourt_engines.proofs.laws.a_line_is_spelled_in_one_way.Goals as goal

pub returns : goal.returns
returns c = one_way
