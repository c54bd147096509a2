-- What tests drew of a product is the sum of its figure in each shift.
use Rattle.std.proofs.Common.{◌≡◌, ℕ, zero, suc, ◌+◌, ◌-◌, ◌*◌, ◌≤◌, List, [], ◌∷◌, Option}
use Rattle.std.proofs.Common.{unwrap_or, refl, sym, ap, ◌∙◌, arith}
use Rattle.std.specs.Prelude.{slice_get}
use Rattle.site_base.specs.Members.{member}
use Rattle.site_base.proofs.Numbering.{numbered_place}
use Rattle.shift_ledger.specs.declared.row.ShiftRow.{ShiftRow}
use Rattle.shift_ledger.specs.Figures.{adjusted_figure}
use Rattle.shift_ledger.specs.Shifts.{Shifts, drawn_among, drawn_in_all}
use Rattle.meters.specs.MeteredVolumes.{product_alone}
use Rattle.written_site.specs.Volumes.{weighed_from, drawn_of}
use Rattle.site_core.specs.Accounts.{draws_of}
use Rattle.site_core.proofs.NotedDraws.{alone_itself, other_alone, told}

none_later : (q k : ℕ) (row : List ℕ) → q + 1 ≤ k → weighed_from (product_alone q) k row ≡ 0
none_later q k [] past = refl
none_later q k (v ∷ vs) past =
    let none : product_alone q k * v ≡ 0 =
    ap (λ (w : ℕ). w * v) (other_alone q k (λ is. omega (arith, is))) ∙ omega arith in
    omega (arith, none, none_later q (k + 1) vs (omega arith))

-- among these figures, of the products from k on, the one of product k + i stands at i
alone_at : (q k i : ℕ) (row : List ℕ) → k + i ≡ q
    → weighed_from (product_alone q) k row ≡ unwrap_or (slice_get row i) 0
alone_at q k i [] is = refl
alone_at q k zero (v ∷ vs) is =
    let same : q ≡ k = omega (arith, is) in
    let its : product_alone q k * v ≡ v =
    ap (λ (w : ℕ). w * v) (ap (λ (r : ℕ). product_alone r k) same ∙ alone_itself k) ∙ omega arith in
    omega (arith, its, none_later q (k + 1) vs (omega (arith, is)))
alone_at q k (suc i) (v ∷ vs) is =
    let none : product_alone q k * v ≡ 0 =
    ap (λ (w : ℕ). w * v) (other_alone q k (λ same. omega (arith, is, same))) ∙ omega arith in
    omega (arith, none, alone_at q (k + 1) i vs (omega (arith, is)))

alone_row : (q : ℕ) (row : List ℕ) → 1 ≤ q
    → weighed_from (product_alone q) 1 row ≡ unwrap_or (member q row) 0
alone_row q row low =
    alone_at q 1 (q - 1) row (omega arith)
    ∙ ap (λ (o : Option ℕ). unwrap_or o 0) (sym (numbered_place q row low))

each_drawn : (q : ℕ) (closed : List ShiftRow) (current : ShiftRow) → 1 ≤ q
    → adjusted_figure q current + drawn_among q closed ≡ drawn_of q (told closed current)
each_drawn q [] current low = omega (arith, alone_row q current.adjusted low)
each_drawn q (row ∷ rows) current low =
    omega (arith, alone_row q row.adjusted low, each_drawn q rows current low)

pub drawn_each : (q : ℕ) (shifts : Shifts) → 1 ≤ q
    → drawn_in_all q shifts ≡ drawn_of q (draws_of shifts)
drawn_each q shifts low = each_drawn q shifts.closed shifts.current low
