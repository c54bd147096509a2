use Rattle.std.proofs.Common.{◌≡◌}
use Rattle.app_message.specs.Parts.{do_rise}
use Rattle.app_message.proofs.draft.rise.Given as goal

abbrev pub invariant-loop-item : goal.invariant-loop-item
invariant-loop-item l = (goal.iterator-loop-item).can_next l.item-iterator
    × (goal.iterator-loop-item).is_finite l.item-iterator
    × (do_rise l.low l.item-iterator ≡ do_rise 0 l.fn.items)
