use Rattle.std.proofs.Common.{◌≡◌, ◌∷◌, [], ◌++◌, drop, ap, ◌∙◌, arith, List, refl}
use Rattle.site_base.specs.declared.config.ProductEntry.{ProductEntry}
use Rattle.day_report.specs.Columns.{Line}
use Rattle.day_report.specs.People.{product_lines, title_line}
use Rattle.day_report.proofs.EachProduct.{all_there, none_left}
use Rattle.day_report.proofs.people.table_lines.Goals as goal

without_views : (ps : List ProductEntry) → product_lines ps [] ≡ []
without_views [] = refl
without_views (p ∷ ps) = refl

pub returns : goal.returns
returns c =
    let lines : c.loop-at.lines.items
    ≡ title_line ∷ product_lines c.args.products.now c.args.views.now =
    all_there c.loop-at.lines.items
    (product_lines (drop c.loop-at.at c.args.products.now) (drop c.loop-at.at c.args.views.now))
    (title_line ∷ product_lines c.args.products.now c.args.views.now)
    c.loop-at.invariant.so_far
    (none_left product_lines (λ vs. refl) without_views c.args.products.now c.args.views.now
    c.loop-at.at
    (omega (arith, c.loop-at-test.false, c.loop-at.invariant.end, c.min-at-end.ensures))) in
    c.in_ok-push-3.ensures.items
    ∙ ap (λ (x : List Line). x ++ c.in_ok-total_line.field-0 ∷ []) lines
    ∙ ap (λ (l : Line). (title_line ∷ product_lines c.args.products.now c.args.views.now) ++ l ∷ [])
    c.in_ok-total_line.ensures
