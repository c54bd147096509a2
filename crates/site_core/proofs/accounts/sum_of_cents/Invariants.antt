use Rattle.std.specs.Prelude.{◌≡◌, ℕ, take, sum_by}
use Rattle.site_core.proofs.accounts.sum_of_cents.Given as goal

abbrev pub invariant-loop-cents : goal.invariant-loop-cents
invariant-loop-cents l =
    l.sum ≡ sum_by (λ (e : ℕ × ℕ). e.1) (take l.cents-index l.tills)
