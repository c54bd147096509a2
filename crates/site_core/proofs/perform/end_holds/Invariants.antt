use Rattle.std.proofs.Common.{◌≡◌, ℕ, drop}
use Rattle.std.specs.FinMap as finite
use Rattle.site_core.proofs.SignOffs.{left}
use Rattle.site_core.proofs.perform.end_holds.Given as goal

abbrev pub invariant-loop-row : goal.invariant-loop-row
invariant-loop-row l = record {
  left : (q : ℕ) → left l.points l.t (drop l.row-index l.row-items) q (finite.get l.claims q)
      ≡ left l.points l.t l.row-items q (finite.get l.fn.claims q);
}
