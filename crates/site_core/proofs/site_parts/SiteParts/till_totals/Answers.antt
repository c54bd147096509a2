use Rattle.std.proofs.Common.{◌≡◌, ◌+◌, ◌++◌, ◌∷◌, [], List, ℕ, sym, ap, ◌∙◌}
use Rattle.written_site.specs.ShiftFigures.{clears_by, cents_by}
use Rattle.site_core.specs.SiteParts.{site_of}
use Rattle.site_core.proofs.ToldInOrder.{one_more}
use Rattle.site_core.proofs.site_parts.SiteParts.till_totals.Goals as goal

pub loop-cell-preserved : goal.loop-cell-preserved
loop-cell-preserved c =
    let sales = (site_of c.args.self.now).sales in
    let told : ℕ → ℕ × ℕ × ℕ = λ t. (t, clears_by t sales, cents_by t sales) in
    let its = c.till-clears.ensures in
    let number = c.of_cell-till.ensures in
    let entry : (c.of_cell-till.result, c.till-clears.result.0, c.till-clears.result.1)
    ≡ told (c.loop-cell.cell + 1) =
    ap (λ (x : ℕ × ℕ). (c.of_cell-till.result, x.0, x.1)) its ∙ ap told number in
    c.in_ok-push.ensures.items
    ∙ ap (λ (x : ℕ × ℕ × ℕ). c.loop-cell.tills.items ++ x ∷ []) entry
    ∙ ap (λ (xs : List (ℕ × ℕ × ℕ)). xs ++ told (c.loop-cell.cell + 1) ∷ []) c.loop-cell.invariant
    ∙ sym (one_more told c.loop-cell.cell)
