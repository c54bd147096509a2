use Rattle.std.proofs.Common.{ℕ, Option, None, ◌+◌, sym, ap, ◌∙◌}
use Rattle.std.proofs.lemmas.List.{get_or-replicate, length-replicate}
use Rattle.site_base.specs.declared.limits.TheConstants.{POINT_CELLS, TILL_CELLS}
use Rattle.site_base.specs.PointSets.{has_point}
use Rattle.fuelling_point.specs.Holds.{is_held_by}
use Rattle.fuelling_point.proofs.claims.Claims.new.Goals as goal

pub invariant_of-result : goal.invariant_of-result
invariant_of-result c = record {
  cells = length-replicate {A = Option ℕ} POINT_CELLS None;
  same = λ i k point till.
      ap (has_point (i + 1)) (get_or-replicate TILL_CELLS k c.new.result 0 till)
      ∙ c.new.ensures.none (i + 1)
      ∙ sym (ap (is_held_by (k + 1)) (get_or-replicate POINT_CELLS i None None point));
}
