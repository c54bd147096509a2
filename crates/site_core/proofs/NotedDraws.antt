-- A draw, and a close: the shifts' figures and the kept totals of draws tell them alike.
use Rattle.std.proofs.Common.{◌≡◌, ◌≢◌, ℕ, zero, suc, ◌+◌, ◌-◌, ◌*◌, ◌<◌, ◌≤◌, ◌==◌, Bool, true}
use Rattle.std.proofs.Common.{false, List, [], ◌∷◌, ◌++◌, map, length, get_or, replicate, Option}
use Rattle.std.proofs.Common.{inl, inr, unwrap_or, refl, sym, subst, ap, ◌∙◌, arith, Result, Ok}
use Rattle.std.proofs.Common.{Err, OnOk, OnErr}
use Rattle.std.proofs.Math.ListN.{set}
use Rattle.std.proofs.lemmas.Bool.{and_from, and_parts, cases_eq}
use Rattle.std.proofs.lemmas.Bool.Decides.{nat_tests}
use Rattle.std.proofs.lemmas.Grind.{common_steps, get_or-set_at}
use Rattle.std.proofs.lemmas.List.{get_or-set_other}
use Rattle.std.proofs.lemmas.List.Folds.{list_all-append}
use Rattle.std.specs.List.{list_all}
use Rattle.site_base.specs.declared.limits.TheConstants.{PRODUCT_CELLS}
use Rattle.site_base.proofs.Numbering.{numbered_within}
use Rattle.shift_ledger.specs.declared.row.ShiftRow.{ShiftRow}
use Rattle.shift_ledger.specs.Figures.{adjusted_figure, empty_figures, with_draw}
use Rattle.shift_ledger.specs.Shifts.{Shifts, after_close, after_draw, first_shift, open_number}
use Rattle.meters.specs.MeteredVolumes.{product_alone}
use Rattle.written_site.specs.SiteState.{nothing_drawn}
use Rattle.written_site.specs.SiteStep.{draw_noted}
use Rattle.written_site.specs.Sound.{is_draw_row}
use Rattle.written_site.specs.Volumes.{weighed_from, drawn_of}
use Rattle.written_site.proofs.SoundDraws.{drawn_more, noted_rows, opened_weighs}
use Rattle.written_site.proofs.SoundTables.{same}
use Rattle.site_core.specs.Accounts.{draws_of, AreDrawn}

-- the draws of these shifts, of which this is the open one
abbrev pub told : List ShiftRow → ShiftRow → List (List ℕ)
told closed current = map (λ row. row.adjusted) (closed ++ current ∷ [])

told-noted : (closed : List ShiftRow) (current : ShiftRow) (q volume : ℕ)
    → told closed (with_draw q volume current) ≡ draw_noted q volume (told closed current)
told-noted [] current q volume = refl
told-noted (row ∷ []) current q volume = refl
told-noted (row ∷ next ∷ rows) current q volume =
    ap (λ xs. row.adjusted ∷ xs) (told-noted (next ∷ rows) current q volume)

pub draws-noted : (shifts : Shifts) (q volume : ℕ)
    → draws_of (after_draw q volume shifts) ≡ draw_noted q volume (draws_of shifts)
draws-noted shifts q volume = told-noted shifts.closed shifts.current q volume

told-some : (closed : List ShiftRow) (current : ShiftRow) → 1 ≤ length (told closed current)
told-some [] current = omega arith
told-some (row ∷ rows) current = omega arith

-- a figure is among those that its sum weighs
weighed_has : (w : ℕ → ℕ) (k i : ℕ) (row : List ℕ) → i < length row
    → w (k + i) * get_or row i 0 ≤ weighed_from w k row
weighed_has w k i [] within = absurd (omega arith)
weighed_has w k zero (v ∷ vs) within =
    let place : k + 0 ≡ k = omega arith in
    rw place (omega arith)
weighed_has w k (suc i) (v ∷ vs) within =
    let rest = weighed_has w (k + 1) i vs (omega arith) in
    let place : k + suc i ≡ k + 1 + i = omega arith in
    rw place (omega (arith, rest))

pub alone_itself : (q : ℕ) → product_alone q q ≡ 1
alone_itself q = let is : (q == q) ≡ true = grind (arith, nat_tests) in rw is refl

figure_within : (closed : List ShiftRow) (current : ShiftRow) (q : ℕ) → 1 ≤ q
    → q ≤ length current.adjusted → adjusted_figure q current ≤ drawn_of q (told closed current)
figure_within [] current q low high =
    let within : q - 1 < length current.adjusted = omega arith in
    let figure : adjusted_figure q current ≡ get_or current.adjusted (q - 1) 0 =
    ap (λ (o : Option ℕ). unwrap_or o 0)
    (numbered_within q current.adjusted (q - 1) 0 (omega arith) within) in
    let place : 1 + (q - 1) ≡ q = omega arith in
    let weight : product_alone q (1 + (q - 1)) ≡ 1 =
    ap (product_alone q) place ∙ alone_itself q in
    let has = weighed_has (product_alone q) 1 (q - 1) current.adjusted within in
    let one : product_alone q (1 + (q - 1)) * get_or current.adjusted (q - 1) 0
    ≡ get_or current.adjusted (q - 1) 0 =
    ap (λ (k : ℕ). k * get_or current.adjusted (q - 1) 0) weight ∙ omega arith in
    omega (arith, figure, has, one)
figure_within (row ∷ rows) current q low high =
    let rest = figure_within rows current q low high in omega (arith, rest)

-- the open shift has a figure for each product
current_has : (closed : List ShiftRow) (current : ShiftRow)
    → list_all is_draw_row (told closed current) ≡ true → length current.adjusted ≡ PRODUCT_CELLS
current_has [] current all =
    same (length current.adjusted) PRODUCT_CELLS
    (and_parts (is_draw_row current.adjusted) true all).0
current_has (row ∷ rows) current all =
    current_has rows current
    (and_parts (is_draw_row row.adjusted) (list_all is_draw_row (told rows current)) all).1

-- the open shift's figure of a product is within what tests drew of it
pub figure_bound : (shifts : Shifts) (cells : List ℕ) (q : ℕ) → AreDrawn shifts cells → 1 ≤ q
    → q ≤ PRODUCT_CELLS → adjusted_figure q shifts.current ≤ drawn_of q (draws_of shifts)
figure_bound shifts cells q kept low high =
    let has = current_has shifts.closed shifts.current kept.rows in
    figure_within shifts.closed shifts.current q low (omega arith)

-- the draw of one product is none of another's
pub other_alone : (j q : ℕ) → j ≢ q → product_alone j q ≡ 0
other_alone j q apart = by_test (q == j) refl
  where
    by_test : (b : Bool) → (q == j) ≡ b → product_alone j q ≡ 0
    by_test true is = absurd (apart (sym (same q j is)))
    by_test false is = rw is refl

-- a draw is in the kept total of its product
pub kept_noted : (shifts : Shifts) (cells : List ℕ) (q k volume : ℕ) → AreDrawn shifts cells
    → k + 1 ≡ q → k < PRODUCT_CELLS → length cells ≡ PRODUCT_CELLS
    → AreDrawn (after_draw q volume shifts) (set cells k (get_or cells k 0 + volume))
kept_noted shifts cells q k volume kept place within size = record {
  rows = ap (list_all is_draw_row) (draws-noted shifts q volume)
      ∙ noted_rows q volume (draws_of shifts) kept.rows;
  totals = λ j product.
      let more : drawn_of (j + 1) (draws_of (after_draw q volume shifts))
      ≡ drawn_of (j + 1) (draws_of shifts) + product_alone (j + 1) q * volume =
      ap (drawn_of (j + 1)) (draws-noted shifts q volume)
      ∙ drawn_more (product_alone (j + 1)) q volume (draws_of shifts) kept.rows
      (told-some shifts.closed shifts.current) (omega arith) (omega arith) in
      elim (cases_eq j k) [
        | inl is ↦
            let own : q ≡ j + 1 = omega arith in
            let one : product_alone (j + 1) q * volume ≡ volume =
            ap (λ (w : ℕ). w * volume) (ap (product_alone (j + 1)) own ∙ alone_itself (j + 1))
            ∙ omega arith in
            get_or-set_at cells k j (get_or cells k 0 + volume) 0 is (omega arith)
            ∙ ap (λ v. v + volume) (kept.totals k within)
            ∙ ap (λ (i : ℕ). drawn_of (i + 1) (draws_of shifts) + volume) (sym is)
            ∙ ap (λ v. drawn_of (j + 1) (draws_of shifts) + v) (sym one)
            ∙ sym more
        | inr other ↦
            let none : product_alone (j + 1) q * volume ≡ 0 =
            ap (λ (w : ℕ). w * volume) (other_alone (j + 1) q (λ is. other (omega arith)))
            ∙ omega arith in
            get_or-set_other cells k j (get_or cells k 0 + volume) 0 other
            ∙ kept.totals j product
            ∙ sym (more ∙ ap (λ v. drawn_of (j + 1) (draws_of shifts) + v) none ∙ omega arith)
      ];
}

-- the open shift's draws are the last
told-length : (closed : List ShiftRow) (current : ShiftRow)
    → length (told closed current) ≡ length closed + 1
told-length [] current = refl
told-length (row ∷ rows) current = omega (arith, told-length rows current)

pub draws-open : (shifts : Shifts) → length (draws_of shifts) ≡ open_number shifts
draws-open shifts = told-length shifts.closed shifts.current

-- ---- a close

told-opened : (rows : List ShiftRow) (next : ShiftRow)
    → map (λ row. row.adjusted) (rows ++ next ∷ [])
    ≡ map (λ row. row.adjusted) rows ++ next.adjusted ∷ []
told-opened [] next = refl
told-opened (row ∷ rows) next = ap (λ xs. row.adjusted ∷ xs) (told-opened rows next)

-- a close opens a shift in which nothing is drawn
pub draws-closed : (shifts : Shifts)
    → draws_of (after_close shifts) ≡ draws_of shifts ++ nothing_drawn ∷ []
draws-closed shifts = told-opened (shifts.closed ++ shifts.current ∷ []) empty_figures

pub kept_opened : (shifts : Shifts) (cells : List ℕ) → AreDrawn shifts cells
    → AreDrawn (after_close shifts) cells
kept_opened shifts cells kept = record {
  rows = ap (list_all is_draw_row) (draws-closed shifts)
      ∙ list_all-append is_draw_row (draws_of shifts) (nothing_drawn ∷ [])
      ∙ and_from (list_all is_draw_row (draws_of shifts))
      (list_all is_draw_row (nothing_drawn ∷ [])) kept.rows refl;
  totals = λ k within.
      kept.totals k within
      ∙ sym (opened_weighs (product_alone (k + 1)) (draws_of shifts))
      ∙ sym (ap (drawn_of (k + 1)) (draws-closed shifts));
}

-- nothing is drawn in the first shift
pub first_drawn : AreDrawn first_shift (replicate PRODUCT_CELLS 0)
first_drawn = record {
  rows = refl;
  totals = λ k within. grind (arith, common_steps);
}
