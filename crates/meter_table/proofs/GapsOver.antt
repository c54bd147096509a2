-- The gaps of rows, row after row.
use Rattle.std.proofs.Common.{◌≡◌, ◌∙◌, ◌+◌, ℕ, List, [], ◌∷◌, ◌++◌, None, length, ap, arith}
use Rattle.site_base.specs.declared.row.Row.{Row}
use Rattle.written_site.specs.SiteRun.{site_of_rows}
use Rattle.written_site.specs.SiteState.{SiteState}
use Rattle.written_site.specs.SiteStep.{site_after}
use Rattle.meter_table.specs.Gaps.{Gaps, gaps_over, gaps_with}

-- one row more, behind the others
pub gaps_over-push : (s : SiteState) (n : ℕ) (rows : List Row) (r : Row) (g : Gaps)
    → gaps_over s n (rows ++ r ∷ []) g
    ≡ gaps_with (record { row = n + length rows; at = None }) (site_of_rows s rows) r
    (gaps_over s n rows g)
gaps_over-push s n [] r g =
    let none : n ≡ n + 0 = omega arith in
    ap (λ (m : ℕ). gaps_with (record { row = m; at = None }) s r g) none
gaps_over-push s n (x ∷ rows) r g =
    let one : n + 1 + length rows ≡ n + length (x ∷ rows) = omega arith in
    let later : SiteState = site_after s x.actor x.event in
    let more : Gaps = gaps_with (record { row = n; at = None }) s x g in
    gaps_over-push later (n + 1) rows r more
    ∙ ap (λ (m : ℕ). gaps_with (record { row = m; at = None }) (site_of_rows later rows) r
    (gaps_over later (n + 1) rows more)) one
