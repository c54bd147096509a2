use Rattle.std.proofs.Common.{◌≡◌, ◌+◌, ◌++◌, ◌∷◌, [], List, ℕ, sym, ap, ◌∙◌}
use Rattle.written_site.proofs.FigureBounds.{figures_in_range}
use Rattle.written_site.specs.ShiftFigures.{clears_by, cents_by}
use Rattle.site_core.specs.SiteParts.{site_of}
use Rattle.site_core.proofs.ToldInOrder.{one_more}
use Rattle.site_core.proofs.site_parts.SiteParts.recount_tills.Goals as goal

pub recount-clears-requires : goal.recount-clears-requires
recount-clears-requires c =
    (figures_in_range (site_of c.args.self.now) 0 c.requires).all_clears c.of_cell-till.result

pub recount-cents-requires : goal.recount-cents-requires
recount-cents-requires c =
    (figures_in_range (site_of c.args.self.now) 0 c.requires).all_cents c.of_cell-till.result

pub loop-cell-preserved : goal.loop-cell-preserved
loop-cell-preserved c =
    let sales = (site_of c.args.self.now).sales in
    let told : ℕ → ℕ × ℕ × ℕ = λ t. (t, clears_by t sales, cents_by t sales) in
    let entry : (c.of_cell-till.result, c.recount-clears.result, c.recount-cents.result)
    ≡ told (c.loop-cell.cell + 1) =
    ap (λ (n : ℕ). (c.of_cell-till.result, n, c.recount-cents.result)) c.recount-clears.ensures
    ∙ ap (λ (n : ℕ). (c.of_cell-till.result, clears_by c.of_cell-till.result sales, n))
    c.recount-cents.ensures
    ∙ ap told c.of_cell-till.ensures in
    c.in_ok-push.ensures.items
    ∙ ap (λ (x : ℕ × ℕ × ℕ). c.loop-cell.tills.items ++ x ∷ []) entry
    ∙ ap (λ (xs : List (ℕ × ℕ × ℕ)). xs ++ told (c.loop-cell.cell + 1) ∷ []) c.loop-cell.invariant
    ∙ sym (one_more told c.loop-cell.cell)
