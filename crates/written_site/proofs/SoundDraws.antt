-- The draws by shift, once one is noted: the open shift stays open, each shift has its figures, and
-- they weigh what they did, with the draw.
use Rattle.std.proofs.Common.{◌≡◌, ℕ, suc, ◌==◌, not, Bool, true, false, List, [], ◌∷◌, ◌++◌}
use Rattle.std.proofs.Common.{length, length-append, replicate, ◌⊎◌, inl, inr, refl, sym, ap, subst}
use Rattle.std.proofs.Common.{◌∙◌, zero, ◌+◌, ◌-◌, ◌*◌, ◌≤◌, ◌<◌, get_or, Some, None, unwrap_or}
use Rattle.std.proofs.Common.{arith}
use Rattle.std.proofs.lemmas.Bool.{and_parts, and_from}
use Rattle.std.proofs.lemmas.Bool.Decides.{nat_tests}
use Rattle.std.proofs.lemmas.List.Folds.{list_all-append}
use Rattle.std.specs.List.{list_all}
use Rattle.site_base.specs.declared.event.Event.{Event}
use Rattle.site_base.specs.declared.event.Event.TheVariants.{CloseShift, Offline, HangUp}
use Rattle.site_base.specs.declared.limits.TheConstants.{PRODUCT_CELLS}
use Rattle.site_base.specs.declared.numbers.TheConstants.{GREATEST_SHIFT}
use Rattle.site_base.specs.declared.refusal.Refusal.TheVariants.{ShiftsSpent}
use Rattle.site_base.specs.Checks.{unless}
use Rattle.site_base.specs.Members.{member}
use Rattle.site_base.proofs.Numbering.{length-with_numbered, numbered_within, with_numbered_place}
use Rattle.std.specs.Prelude.{◌+◌, unwrap_or}
use Rattle.fuelling_point.specs.declared.step.PointStep.{PointStep}
use Rattle.fuelling_point.specs.declared.step.PointStep.TheVariants.{Drawn}
use Rattle.meters.specs.Nozzles.{Nozzle}
use Rattle.written_site.specs.SiteState.{SiteState, facts_of, nothing_drawn, open_shift}
use Rattle.written_site.specs.SiteChecks.{closing}
use Rattle.written_site.specs.SiteStep.{step_at, nozzles_after, drawn_after, draws_by, draw_noted}
use Rattle.written_site.specs.SiteStep.{one_more_drawn}
use Rattle.written_site.specs.Sound.{IsShift, is_draw_row}
use Rattle.written_site.specs.Volumes.{product_out, running_at, weighed_from, drawn_by}
use Rattle.std.proofs.Math.ListN.{set}
use Rattle.std.proofs.Math.Nat.{mul-add, mul-zero}
use Rattle.written_site.proofs.SoundTables.{same}

-- ---- one draw

noted_length : (q volume : ℕ) (rows : List (List ℕ))
    → length (draw_noted q volume rows) ≡ length rows
noted_length q volume [] = refl
noted_length q volume (row ∷ []) = refl
noted_length q volume (row ∷ next ∷ rows) = ap suc (noted_length q volume (next ∷ rows))

more_length : (q volume : ℕ) (row : List ℕ) → length (one_more_drawn q volume row) ≡ length row
more_length q volume row = length-with_numbered q (unwrap_or (member q row) 0 + volume) row

pub noted_rows : (q volume : ℕ) (rows : List (List ℕ)) → list_all is_draw_row rows ≡ true
    → list_all is_draw_row (draw_noted q volume rows) ≡ true
noted_rows q volume [] all = refl
noted_rows q volume (row ∷ []) all =
    let parts = and_parts (is_draw_row row) true all in
    and_from (is_draw_row (one_more_drawn q volume row)) true
    (ap (λ (n : ℕ). n == PRODUCT_CELLS) (more_length q volume row) ∙ parts.0) refl
noted_rows q volume (row ∷ next ∷ rows) all =
    let parts = and_parts (is_draw_row row) (list_all is_draw_row (next ∷ rows)) all in
    and_from (is_draw_row row) (list_all is_draw_row (draw_noted q volume (next ∷ rows))) parts.0
    (noted_rows q volume (next ∷ rows) parts.1)

-- ---- the draws after an event

pub by_length : (s : SiteState) (nozzles : List Nozzle) (p : ℕ) (step : PointStep)
    → length (draws_by s nozzles p step) ≡ open_shift s
by_length s nozzles p (Drawn nozzle volume) =
    noted_length (product_out nozzles p (facts_of s p)) (running_at nozzles p (facts_of s p))
    s.drawn
by_length s nozzles p step = refl

by_rows : (s : SiteState) (nozzles : List Nozzle) (p : ℕ) (step : PointStep)
    → list_all is_draw_row s.drawn ≡ true → list_all is_draw_row (draws_by s nozzles p step) ≡ true
by_rows s nozzles p (Drawn nozzle volume) =
    noted_rows (product_out nozzles p (facts_of s p)) (running_at nozzles p (facts_of s p)) s.drawn
by_rows s nozzles p step = λ all. all

-- a close opens the next shift; in every other event the open shift stays open
pub drawn_length : (s : SiteState) (e : Event)
    → (length (drawn_after s e) ≡ open_shift s) ⊎ (length (drawn_after s e) ≡ open_shift s + 1)
drawn_length s (Offline p) = inl (by_length s s.nozzles p (step_at s (Offline p)))
drawn_length s (HangUp p n reading) =
    inl (by_length s (nozzles_after s (HangUp p n reading)) p (step_at s (HangUp p n reading)))
drawn_length s CloseShift = inr (length-append s.drawn (nothing_drawn ∷ []))
drawn_length s e = inl refl

-- no shift is lost
pub shifts_kept : (s : SiteState) (e : Event) → open_shift s ≤ length (drawn_after s e)
shifts_kept s e = by_shift (drawn_length s e)
  where
    by_shift : (length (drawn_after s e) ≡ open_shift s)
        ⊎ (length (drawn_after s e) ≡ open_shift s + 1)
        → open_shift s ≤ length (drawn_after s e)
    by_shift (inl still) = omega (arith, still)
    by_shift (inr next) = omega (arith, next)

-- the last shift isn't closed
not_last : (s : SiteState) → closing s CloseShift ≡ None → IsShift (open_shift s)
    → open_shift s < GREATEST_SHIFT
not_last s closes is = by_test (open_shift s == GREATEST_SHIFT) refl closes
  where
    by_test : (b : Bool) → (open_shift s == GREATEST_SHIFT) ≡ b
        → unless (not b) ShiftsSpent ≡ None → open_shift s < GREATEST_SHIFT
    by_test true last closes = cc
    by_test false at closes =
        let high = is.high in grind (arith, nat_tests)

-- the number of the open shift is one that a shift may have
pub shift_after : (s : SiteState) (e : Event) → closing s e ≡ None → IsShift (open_shift s)
    → IsShift (length (drawn_after s e))
shift_after s CloseShift closes is =
    let last = not_last s closes is in
    let next = length-append s.drawn (nothing_drawn ∷ []) in
    record { low = omega (arith, next); high = omega (arith, next, last) }
shift_after s (Offline p) closes is =
    subst IsShift (sym (by_length s s.nozzles p (step_at s (Offline p)))) is
shift_after s (HangUp p n reading) closes is =
    subst IsShift (sym (by_length s (nozzles_after s (HangUp p n reading)) p
    (step_at s (HangUp p n reading)))) is
shift_after s e closes is = is

-- each shift has a figure for each product
pub drawn_rows : (s : SiteState) (e : Event) → list_all is_draw_row s.drawn ≡ true
    → list_all is_draw_row (drawn_after s e) ≡ true
drawn_rows s (Offline p) = by_rows s s.nozzles p (step_at s (Offline p))
drawn_rows s (HangUp p n reading) =
    by_rows s (nozzles_after s (HangUp p n reading)) p (step_at s (HangUp p n reading))
drawn_rows s CloseShift = λ all.
    list_all-append is_draw_row s.drawn (nothing_drawn ∷ [])
    ∙ and_from (list_all is_draw_row s.drawn) (list_all is_draw_row (nothing_drawn ∷ [])) all refl
drawn_rows s e = λ all. all

-- ---- what a draw weighs

-- one figure in the place of another
weighed_set : (w : ℕ → ℕ) (k i volume : ℕ) (row : List ℕ) → i < length row
    → weighed_from w k (set row i (get_or row i 0 + volume))
    ≡ weighed_from w k row + w (k + i) * volume
weighed_set w k i volume [] within = absurd (omega arith)
weighed_set w k zero volume (v ∷ vs) within =
    let place : k + 0 ≡ k = omega arith in
    let weighed : w (k + 0) * volume ≡ w k * volume = ap (λ (q : ℕ). w q * volume) place in
    omega (arith, weighed, mul-add (w k) v volume)
weighed_set w k (suc i) volume (v ∷ vs) within =
    let place : k + suc i ≡ (k + 1) + i = omega arith in
    let weighed : w (k + suc i) * volume ≡ w ((k + 1) + i) * volume =
    ap (λ (q : ℕ). w q * volume) place in
    let rest = weighed_set w (k + 1) i volume vs (omega arith) in
    omega (arith, weighed, rest)

-- one more draw in a shift
weighed_more : (w : ℕ → ℕ) (q volume : ℕ) (row : List ℕ) → 1 ≤ q → q ≤ length row
    → weighed_from w 1 (one_more_drawn q volume row) ≡ weighed_from w 1 row + w q * volume
weighed_more w q volume row low high =
    let within : q - 1 < length row = omega arith in
    let figure : member q row ≡ Some (get_or row (q - 1) 0) =
    numbered_within q row (q - 1) 0 (omega arith) within in
    let written : one_more_drawn q volume row ≡ set row (q - 1) (get_or row (q - 1) 0 + volume) =
    with_numbered_place q (unwrap_or (member q row) 0 + volume) row low
    ∙ ap (λ o. set row (q - 1) (unwrap_or o 0 + volume)) figure in
    let place : 1 + (q - 1) ≡ q = omega arith in
    ap (weighed_from w 1) written
    ∙ weighed_set w 1 (q - 1) volume row within
    ∙ ap (λ (k : ℕ). weighed_from w 1 row + w k * volume) place

-- a draw in the open shift
pub drawn_more : (w : ℕ → ℕ) (q volume : ℕ) (rows : List (List ℕ))
    → list_all is_draw_row rows ≡ true
    → 1 ≤ length rows → 1 ≤ q → q ≤ PRODUCT_CELLS
    → drawn_by w (draw_noted q volume rows) ≡ drawn_by w rows + w q * volume
drawn_more w q volume [] all some low high = absurd (omega arith)
drawn_more w q volume (row ∷ []) all some low high =
    let parts = and_parts (is_draw_row row) true all in
    let cells : length row ≡ PRODUCT_CELLS = same (length row) PRODUCT_CELLS parts.0 in
    omega (arith, weighed_more w q volume row low (omega arith))
drawn_more w q volume (row ∷ next ∷ rows) all some low high =
    let parts = and_parts (is_draw_row row) (list_all is_draw_row (next ∷ rows)) all in
    let rest = drawn_more w q volume (next ∷ rows) parts.1 (omega arith) low high in
    omega (arith, rest)

-- a shift in which nothing is drawn
nothing_weighs_from : (w : ℕ → ℕ) (q n : ℕ) → weighed_from w q (replicate n 0) ≡ 0
nothing_weighs_from w q zero = refl
nothing_weighs_from w q (suc n) = omega (arith, mul-zero (w q), nothing_weighs_from w (q + 1) n)

pub opened_weighs : (w : ℕ → ℕ) (rows : List (List ℕ))
    → drawn_by w (rows ++ nothing_drawn ∷ []) ≡ drawn_by w rows
opened_weighs w [] = omega (arith, nothing_weighs_from w 1 PRODUCT_CELLS)
opened_weighs w (row ∷ rows) = ap (λ (v : ℕ). weighed_from w 1 row + v) (opened_weighs w rows)
