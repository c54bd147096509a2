use Rattle.std.proofs.Common.{arith, rules}
use Rattle.site_base.proofs.PointSets.{found_member, found_lowest, found_none, found_range}
use Rattle.site_base.proofs.point_set.PointSet.first.Goals as goal

pub returns-clause-member : goal.returns-clause-member
returns-clause-member c =
    rw (← c.self.view_is) (found_member c.new.result c.self.inside.bits (omega arith)
    (search rules) c.new.ensures.value)

pub returns-clause-lowest : goal.returns-clause-lowest
returns-clause-lowest c =
    rw (← c.self.view_is) (found_lowest c.new.result c.self.inside.bits (omega arith)
    (search rules) c.new.ensures.value)

pub returns-clause-empty : goal.returns-clause-empty
returns-clause-empty c =
    rw (← c.self.view_is) (found_none c.new.result c.self.inside.bits (omega arith)
    (search rules) c.new.ensures.valid.1)

pub returns-clause-range : goal.returns-clause-range
returns-clause-range c =
    found_range c.new.result _ c.new.ensures.valid.0 c.new.ensures.value
