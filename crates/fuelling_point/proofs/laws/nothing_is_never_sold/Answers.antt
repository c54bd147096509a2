use Rattle.fuelling_point.proofs.Whole.{never_nothing}
use Rattle.fuelling_point.proofs.laws.nothing_is_never_sold.Goals as goal

pub returns : goal.returns
returns c = never_nothing
