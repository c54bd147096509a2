use Rattle.std.proofs.Common.{◌≡◌, [], ◌∷◌, List, ℕ, arith, drop, refl}
use Rattle.site_base.specs.declared.view.ProductView.{ProductView}
use Rattle.past_rows.specs.FiguresBetween.{tills_between}
use Rattle.past_rows.proofs.Pairs.{all_there, none_left}
use Rattle.past_rows.proofs.figures.tills_between.Goals as goal

no_later : (before : List (ℕ × ℕ × ℕ)) → tills_between before [] ≡ []
no_later [] = refl
no_later (b ∷ before) = refl

pub returns : goal.returns
returns c =
    all_there c.loop-at.tills.items
    (tills_between (drop c.loop-at.at c.args.before.now) (drop c.loop-at.at c.args.after.now))
    (tills_between c.args.before.now c.args.after.now) c.loop-at.invariant.so_far
    (none_left tills_between (λ after. refl) no_later c.args.before.now c.args.after.now
    c.loop-at.at
    (omega (arith, c.loop-at-test.false, c.loop-at.invariant.end, c.min-at-end.ensures)))
