use Rattle.std.proofs.Common.{ap, ◌∙◌}
use Rattle.std.proofs.lemmas.List.{get_or-replicate}
use Rattle.site_base.specs.declared.limits.TheConstants.{TILL_CELLS}
use Rattle.site_base.specs.PointSets.{has_point}
use Rattle.transaction_buffer.proofs.locked_points.LockedPoints.new.Goals as goal

pub returns : goal.returns
returns c = λ p k till. (
  ap (has_point p) (get_or-replicate TILL_CELLS k c.new.result 0 till) ∙ c.new.ensures.none p,
  ap (has_point p) (get_or-replicate TILL_CELLS k c.new-2.result 0 till) ∙ c.new-2.ensures.none p,
)
