-- The volumes of a sound site add up, and each of them fits in 64 bits.
use Rattle.std.proofs.Common.{◌≡◌, ◌≢◌, ℕ, zero, suc, ◌+◌, ◌-◌, ◌*◌, ◌^◌, ◌≤◌, ◌<◌, ◌==◌, Bool}
use Rattle.std.proofs.Common.{true, false, cond, List, [], ◌∷◌, length, get_or, Option, Some, None}
use Rattle.std.proofs.Common.{unwrap_or, refl, sym, ap, ◌∙◌, arith}
use Rattle.std.proofs.Math.Nat.{mul-zero}
use Rattle.std.proofs.lemmas.Bool.Decides.{nat_tests}
use Rattle.std.specs.List.{slice_get}
use Rattle.site_base.specs.declared.event.Event.{Event}
use Rattle.site_base.specs.Members.{member}
use Rattle.site_base.proofs.Numbering.{numbered_place, numbered_within}
use Rattle.site_base.specs.Table.{row_of}
use Rattle.fuelling_point.specs.KeptPoints.{Facts}
use Rattle.meters.specs.MeteredVolumes.{most_of_a_site, product_alone}
use Rattle.meters.specs.Nozzles.{Nozzle}
use Rattle.meters.proofs.Bounds.{total_bound}
use Rattle.transaction_buffer.specs.Sales.{Sales}
use Rattle.transaction_buffer.specs.Sums.{volume_in, volume_of}
use Rattle.transaction_buffer.proofs.Summing.{alike_sum}
use Rattle.transaction_buffer.proofs.Volumes.{add_up}
use Rattle.written_site.specs.SiteState.{SiteState}
use Rattle.written_site.specs.SiteStep.{nozzles_after, points_after}
use Rattle.written_site.specs.Sound.{Sound}
use Rattle.written_site.specs.SoundSteps.{IsTaken, AddUp, MovesRunning, growth_at, product_at}
use Rattle.written_site.specs.SoundSteps.{sold_at, drawn_at}
use Rattle.written_site.specs.Volumes.{product_out, running_at, running_by, sold_by, weighed_from}
use Rattle.written_site.specs.Volumes.{drawn_by, running_volume, adjusted_volume}
use Rattle.written_site.proofs.SoundTables.{same, itself, told_once}
use Rattle.written_site.proofs.SoundVolumes.{running_moves}

-- ---- the weight of one product

alone_weighs : (b : Bool) (volume : ℕ) → cond b 1 0 * volume ≡ cond b volume 0
alone_weighs true volume = omega arith
alone_weighs false volume = omega arith

-- the product itself weighs 1, every other 0
pub own_weight : (q : ℕ) → product_alone q q ≡ 1
own_weight q = ap (λ (b : Bool). cond b 1 0) (itself q)

pub other_weight : (q r : ℕ) → r ≢ q → product_alone q r ≡ 0
other_weight q r other =
    let apart : (r == q) ≡ false = grind (arith, nat_tests) in
    ap (λ (b : Bool). cond b 1 0) apart

-- the volume of the product in all sales
pub sold_alone : (q : ℕ) (sales : Sales) → sold_by (product_alone q) sales ≡ volume_of q sales
sold_alone q sales =
    alike_sum (λ x. product_alone q x.product * x.volume) (volume_in q)
    (λ x. alone_weighs (x.product == q) x.volume) sales

-- ---- the sums

pub most_fits : most_of_a_site < 2 ^ 64
most_fits = omega arith

pub adds_up : (s : SiteState) (q : ℕ) → Sound s → AddUp s q
adds_up s q sound =
    let all = sound.conserved (product_alone q) in
    let sold = sold_alone q s.sales in
    let by_status = add_up q s.sales in
    let most = total_bound q s.nozzles sound.meters in
    record {
      whole = omega (arith, all, sold, by_status);
      sold = by_status;
      most = most;
      fits = omega (arith, most, most_fits);
    }

-- ---- parts of the sums

no_figures : (row : List ℕ) → None ≡ Some row → ⊥
no_figures row is = cc

no_row : (f : Facts) → None ≡ Some f → ⊥
no_row f is = cc

part : (here first others : ℕ) → here ≡ first → here ≤ first + others
part here first others is = omega arith

rest : (here first others : ℕ) → here ≤ others → here ≤ first + others
rest here first others is = omega arith

-- the volume of a point is part of its product's
pub run_within : (w : ℕ → ℕ) (nozzles : List Nozzle) (p : ℕ) (f : Facts) (es : List (ℕ × Facts))
    → row_of p es ≡ Some f
    → w (product_out nozzles p f) * running_at nozzles p f ≤ running_by w nozzles es
run_within w nozzles p f [] is = absurd (no_row f is)
run_within w nozzles p f (e ∷ es) is = by_test (e.0 == p) refl (run_within w nozzles p f es)
  where
    by_test : (b : Bool) → (e.0 == p) ≡ b
        → (row_of p es ≡ Some f
        → w (product_out nozzles p f) * running_at nozzles p f ≤ running_by w nozzles es)
        → w (product_out nozzles p f) * running_at nozzles p f ≤ running_by w nozzles (e ∷ es)
    by_test true at behind =
        let first : row_of p (e ∷ es) ≡ Some e.1 = rw at refl in
        let facts : f ≡ e.1 = sym (told_once e.1 f (sym first ∙ is)) in
        let point : p ≡ e.0 = sym (same e.0 p at) in
        let here : w (product_out nozzles p f) * running_at nozzles p f
        ≡ w (product_out nozzles e.0 e.1) * running_at nozzles e.0 e.1 =
        ap (λ (g : Facts). w (product_out nozzles p g) * running_at nozzles p g) facts
        ∙ ap (λ (r : ℕ). w (product_out nozzles r e.1) * running_at nozzles r e.1) point in
        part (w (product_out nozzles p f) * running_at nozzles p f)
        (w (product_out nozzles e.0 e.1) * running_at nozzles e.0 e.1)
        (running_by w nozzles es) here
    by_test false at behind =
        let later : row_of p (e ∷ es) ≡ row_of p es = rw at refl in
        rest (w (product_out nozzles p f) * running_at nozzles p f)
        (w (product_out nozzles e.0 e.1) * running_at nozzles e.0 e.1)
        (running_by w nozzles es) (behind (sym later ∙ is))

-- a figure of a shift's draws is part of the shift's, and these are part of all draws
figure_within : (w : ℕ → ℕ) (k i : ℕ) (row : List ℕ)
    → w (k + i) * get_or row i 0 ≤ weighed_from w k row
figure_within w k i [] = omega (arith, mul-zero (w (k + i)))
figure_within w k zero (v ∷ vs) =
    let place : k + 0 ≡ k = omega arith in
    part (w (k + 0) * v) (w k * v) (weighed_from w (k + 1) vs) (ap (λ (q : ℕ). w q * v) place)
figure_within w k (suc i) (v ∷ vs) =
    let place : k + suc i ≡ (k + 1) + i = omega arith in
    let here : w (k + suc i) * get_or vs i 0 ≡ w ((k + 1) + i) * get_or vs i 0 =
    ap (λ (q : ℕ). w q * get_or vs i 0) place in
    let later = figure_within w (k + 1) i vs in
    rest (w (k + suc i) * get_or vs i 0) (w k * v) (weighed_from w (k + 1) vs)
    (omega (arith, here, later))

slice_within : (w : ℕ → ℕ) (i : ℕ) (row : List ℕ) (rows : List (List ℕ))
    → slice_get rows i ≡ Some row
    → weighed_from w 1 row ≤ drawn_by w rows
slice_within w i row [] is = absurd (no_figures row is)
slice_within w zero row (first ∷ rows) is =
    let same_one : first ≡ row = told_once first row is in
    part (weighed_from w 1 row) (weighed_from w 1 first) (drawn_by w rows)
    (ap (weighed_from w 1) (sym same_one))
slice_within w (suc i) row (first ∷ rows) is =
    rest (weighed_from w 1 row) (weighed_from w 1 first) (drawn_by w rows)
    (slice_within w i row rows is)

row_within : (w : ℕ → ℕ) (h : ℕ) (row : List ℕ) (rows : List (List ℕ)) → member h rows ≡ Some row
    → weighed_from w 1 row ≤ drawn_by w rows
row_within w zero row rows is = absurd (no_figures row is)
row_within w (suc h) row rows is =
    slice_within w (suc h - 1) row rows (sym (numbered_place (suc h) rows (omega arith)) ∙ is)

-- the figure of product q
pub figure_drawn : (s : SiteState) (h q : ℕ) (row : List ℕ) → 1 ≤ q → q ≤ length row
    → member h s.drawn ≡ Some row → unwrap_or (member q row) 0 ≤ adjusted_volume s q
figure_drawn s h q row low high is =
    let figure : member q row ≡ Some (get_or row (q - 1) 0) =
    numbered_within q row (q - 1) 0 (omega arith) (omega arith) in
    let value : unwrap_or (member q row) 0 ≡ get_or row (q - 1) 0 =
    ap (λ (o : Option ℕ). unwrap_or o 0) figure in
    let place : 1 + (q - 1) ≡ q = omega arith in
    let weight : product_alone q (1 + (q - 1)) ≡ 1 = ap (product_alone q) place ∙ own_weight q in
    let within = figure_within (product_alone q) 1 (q - 1) row in
    let all = row_within (product_alone q) h row s.drawn is in
    let weighed : product_alone q (1 + (q - 1)) * get_or row (q - 1) 0 ≡ 1 * get_or row (q - 1) 0 =
    ap (λ (k : ℕ). k * get_or row (q - 1) 0) weight in
    omega (arith, value, within, all, weighed)

-- ---- how the volume under way moves

moved_own : (weight running' over running growth : ℕ) → weight ≡ 1
    → running' + weight * over ≡ running + weight * growth → running' + over ≡ running + growth
moved_own weight running' over running growth one moves =
    let left : weight * over ≡ 1 * over = ap (λ (k : ℕ). k * over) one in
    let right : weight * growth ≡ 1 * growth = ap (λ (k : ℕ). k * growth) one in
    omega arith

moved_other : (weight running' over running growth : ℕ) → weight ≡ 0
    → running' + weight * over ≡ running + weight * growth → running' ≡ running
moved_other weight running' over running growth none moves =
    let left : weight * over ≡ 0 * over = ap (λ (k : ℕ). k * over) none in
    let right : weight * growth ≡ 0 * growth = ap (λ (k : ℕ). k * growth) none in
    omega arith

pub moves_running : (s : SiteState) (e : Event) (q : ℕ) → Sound s → IsTaken s e → MovesRunning s e q
moves_running s e q sound taken =
    let moves = running_moves (product_alone q) s e sound taken in
    let weight : ℕ = product_alone q (product_at s e) in
    let new : ℕ = running_by (product_alone q) (nozzles_after s e) (points_after s e) in
    record {
      own = λ is.
          moved_own weight new (sold_at s e + drawn_at s e) (running_volume s q) (growth_at s e)
          (ap (product_alone q) is ∙ own_weight q) moves;
      other = λ other. moved_other weight new (sold_at s e + drawn_at s e) (running_volume s q)
          (growth_at s e)
          (other_weight q (product_at s e) other) moves;
    }
