-- How an event moves what tests drew in a shift.
use Rattle.std.proofs.Common.{◌≡◌, ◌≢◌, ℕ, zero, suc, ◌+◌, ◌-◌, ◌≤◌, ◌==◌, ◌&&◌, Bool, true, false}
use Rattle.std.proofs.Common.{cond, List, [], ◌∷◌, ◌++◌, length, get_or, Option, option_map, Some}
use Rattle.std.proofs.Common.{None, unwrap_or, refl, sym, ap, ◌∙◌, arith}
use Rattle.std.proofs.lemmas.Bool.Decides.{nat_tests}
use Rattle.std.specs.List.{slice_get}
use Rattle.site_base.specs.declared.actor.Actor.{Actor}
use Rattle.site_base.specs.declared.event.Event.{Event}
use Rattle.site_base.specs.declared.event.Event.TheVariants.{CloseShift, Offline, HangUp}
use Rattle.site_base.specs.declared.limits.TheConstants.{PRODUCT_CELLS}
use Rattle.site_base.specs.Members.{member}
use Rattle.site_base.proofs.Numbering.{numbered_place, numbered_within, numbered_with_same}
use Rattle.site_base.proofs.Numbering.{numbered_with_other, numbered_push_here, numbered_push_other}
use Rattle.site_base.proofs.Numbering.{numbered_next}
use Rattle.fuelling_point.specs.declared.event.PointEvent.{PointEvent}
use Rattle.fuelling_point.specs.declared.event.PointEvent.TheVariants as points
use Rattle.fuelling_point.specs.declared.step.PointStep.{PointStep}
use Rattle.fuelling_point.specs.declared.step.PointStep.TheVariants.{Drawn}
use Rattle.fuelling_point.specs.KeptPoints.{Facts}
use Rattle.fuelling_point.specs.Laws.{drawn_in}
use Rattle.fuelling_point.specs.Step.{step_of}
use Rattle.written_site.specs.ShiftFigures.{shift_drawn}
use Rattle.written_site.specs.SiteChecks.{own_event, flow_since}
use Rattle.written_site.specs.SiteState.{SiteState, facts_of, nothing_drawn, open_shift}
use Rattle.written_site.specs.SiteStep.{accepted_site, draw_noted, draws_by, nozzles_after}
use Rattle.written_site.specs.SiteStep.{one_more_drawn, step_at}
use Rattle.written_site.specs.Sound.{Sound}
use Rattle.written_site.specs.SoundSteps.{IsTaken, drawn_at, product_at}
use Rattle.written_site.specs.Volumes.{nozzle_out, product_out, running_at}
use Rattle.written_site.proofs.SoundMachine.{drawn_from}
use Rattle.written_site.proofs.SoundSold.{own_point, run_own}
use Rattle.written_site.proofs.SoundTables.{same}
use Rattle.written_site.proofs.SoundUses.{draw_cells}
use Rattle.written_site.proofs.SoundVolumes.{none_drawn, nozzle_there, product_out_after}
use Rattle.written_site.proofs.SoundVolumes.{product_supplied}

-- ---- the draws of a shift

-- what was drawn of product r in shift g, of these draws
abbrev pub drawn_there : ℕ → ℕ → List (List ℕ) → ℕ
drawn_there g r rows = unwrap_or (member r (unwrap_or (member g rows) nothing_drawn)) 0

-- a draw changes the last shift's draws, and no other's
noted_at : (q v i : ℕ) (rows : List (List ℕ))
    → slice_get (draw_noted q v rows) i
    ≡ cond (suc i == length rows) (option_map (one_more_drawn q v) (slice_get rows i))
    (slice_get rows i)
noted_at q v i [] = by_test (suc i == 0)
  where
    by_test : (b : Bool) → None ≡ cond b (option_map (one_more_drawn q v) None) None
    by_test true = refl
    by_test false = refl
noted_at q v zero (row ∷ []) = refl
noted_at q v (suc i) (row ∷ []) = by_test (suc (suc i) == 1)
  where
    by_test : (b : Bool) → None ≡ cond b (option_map (one_more_drawn q v) None) None
    by_test true = refl
    by_test false = refl
noted_at q v zero (row ∷ next ∷ rows) =
    let apart : (1 == length (row ∷ next ∷ rows)) ≡ false = grind (arith, nat_tests) in
    ap (λ (b : Bool). cond b (Some (one_more_drawn q v row)) (Some row)) (sym apart)
noted_at q v (suc i) (row ∷ next ∷ rows) =
    let one_less : (suc (suc i) == length (row ∷ next ∷ rows)) ≡ (suc i == length (next ∷ rows)) =
    grind (arith, nat_tests) in
    noted_at q v i (next ∷ rows)
    ∙ ap (λ (b : Bool). cond b (option_map (one_more_drawn q v) (slice_get (next ∷ rows) i))
    (slice_get (next ∷ rows) i)) (sym one_less)

-- the figure of a product, with one more draw
more_figure : (q r v : ℕ) (row : List ℕ) → 1 ≤ q → q ≤ length row
    → unwrap_or (member r (one_more_drawn q v row)) 0
    ≡ unwrap_or (member r row) 0 + cond (r == q) v 0
more_figure q r v row low high = by_test (r == q) refl
  where
    its : member q row ≡ Some (get_or row (q - 1) 0)
    its = numbered_within q row (q - 1) 0 (omega arith) (omega arith)

    apart : (r == q) ≡ false → r ≢ q
    apart at = grind (arith, nat_tests)

    by_test : (b : Bool) → (r == q) ≡ b
        → unwrap_or (member r (one_more_drawn q v row)) 0
        ≡ unwrap_or (member r row) 0 + cond b v 0
    by_test true at =
        let product : r ≡ q = same r q at in
        ap (λ (n : ℕ). unwrap_or (member n (one_more_drawn q v row)) 0) product
        ∙ ap (λ (o : Option ℕ). unwrap_or o 0)
        (numbered_with_same q row (get_or row (q - 1) 0) (unwrap_or (member q row) 0 + v) its)
        ∙ ap (λ (n : ℕ). unwrap_or (member n row) 0 + v) (sym product)
    by_test false at =
        ap (λ (o : Option ℕ). unwrap_or o 0)
        (numbered_with_other q r row (unwrap_or (member q row) 0 + v) (apart at))
        ∙ (omega arith)

pub noted_figure : (q v g r : ℕ) (rows : List (List ℕ)) → 1 ≤ length rows → 1 ≤ q
    → q ≤ PRODUCT_CELLS
    → ((h : ℕ) (row : List ℕ) → member h rows ≡ Some row → length row ≡ PRODUCT_CELLS)
    → drawn_there g r (draw_noted q v rows)
    ≡ drawn_there g r rows + cond (g == length rows && r == q) v 0
noted_figure q v zero r rows some low high cells =
    let apart : (0 == length rows) ≡ false = grind (arith, nat_tests) in
    let none : cond (0 == length rows && r == q) v 0 ≡ 0 =
    ap (λ (b : Bool). cond (b && r == q) v 0) apart in
    omega (arith, none)
noted_figure q v (suc i) r rows some low high cells = by_test (suc i == length rows) refl
  where
    back : suc i - 1 ≡ i
    back = omega arith

    place : member (suc i) rows ≡ slice_get rows i
    place = numbered_place (suc i) rows (omega arith) ∙ ap (slice_get rows) back

    shown : member (suc i) (draw_noted q v rows)
        ≡ cond (suc i == length rows) (option_map (one_more_drawn q v) (slice_get rows i))
        (slice_get rows i)
    shown =
        numbered_place (suc i) (draw_noted q v rows) (omega arith)
        ∙ ap (slice_get (draw_noted q v rows)) back ∙ noted_at q v i rows

    by_test : (b : Bool) → (suc i == length rows) ≡ b
        → drawn_there (suc i) r (draw_noted q v rows)
        ≡ drawn_there (suc i) r rows + cond (b && r == q) v 0
    by_test true at =
        let count : suc i ≡ length rows = same (suc i) (length rows) at in
        let row : List ℕ = get_or rows i [] in
        let there : member (suc i) rows ≡ Some row =
        numbered_within (suc i) rows i [] (omega arith) (omega (arith, count)) in
        let long : length row ≡ PRODUCT_CELLS = cells (suc i) row there in
        let new : member (suc i) (draw_noted q v rows) ≡ Some (one_more_drawn q v row) =
        shown
        ∙ ap (λ (b : Bool). cond b (option_map (one_more_drawn q v) (slice_get rows i))
        (slice_get rows i)) at
        ∙ ap (option_map (one_more_drawn q v)) (sym place ∙ there) in
        ap (λ (o : Option (List ℕ)). unwrap_or (member r (unwrap_or o nothing_drawn)) 0) new
        ∙ more_figure q r v row low (omega (arith, long))
        ∙ ap (λ (o : Option (List ℕ)). unwrap_or (member r (unwrap_or o nothing_drawn)) 0
        + cond (r == q) v 0) (sym there)
    by_test false at =
        let still : member (suc i) (draw_noted q v rows) ≡ member (suc i) rows =
        shown
        ∙ ap (λ (b : Bool). cond b (option_map (one_more_drawn q v) (slice_get rows i))
        (slice_get rows i)) at
        ∙ sym place in
        ap (λ (o : Option (List ℕ)). unwrap_or (member r (unwrap_or o nothing_drawn)) 0) still
        ∙ (omega arith)

-- a shift that is opened has no draws, as every shift to come
pub opened_figure : (g r : ℕ) (rows : List (List ℕ))
    → drawn_there g r (rows ++ nothing_drawn ∷ []) ≡ drawn_there g r rows
opened_figure g r rows = by_test (g == length rows + 1) refl
  where
    apart : (g == length rows + 1) ≡ false → g ≢ length rows + 1
    apart at = grind (arith, nat_tests)

    by_test : (b : Bool) → (g == length rows + 1) ≡ b
        → drawn_there g r (rows ++ nothing_drawn ∷ []) ≡ drawn_there g r rows
    by_test true at =
        let next : g ≡ length rows + 1 = same g (length rows + 1) at in
        ap (λ (h : ℕ). drawn_there h r (rows ++ nothing_drawn ∷ [])) next
        ∙ ap (λ (o : Option (List ℕ)). unwrap_or (member r (unwrap_or o nothing_drawn)) 0)
        (numbered_push_here rows nothing_drawn ∙ sym (ap (λ (o : Option (List ℕ)).
        Some (unwrap_or o nothing_drawn)) (numbered_next rows)))
        ∙ ap (λ (h : ℕ). drawn_there h r rows) (sym next)
    by_test false at =
        ap (λ (o : Option (List ℕ)). unwrap_or (member r (unwrap_or o nothing_drawn)) 0)
        (numbered_push_other g rows nothing_drawn (apart at))

-- ---- every event

pub none_more : (b : Bool) (n v : ℕ) → v ≡ 0 → n ≡ n + cond b v 0
none_more true n v none = omega (arith, none)
none_more false n v none = omega arith

by_step : (s : SiteState) (e : Event) (p : ℕ) (event : PointEvent) (g r : ℕ) → Sound s
    → IsTaken s e → own_event s e ≡ Some (p, event) → (step : PointStep)
    → step_of event (facts_of s p) ≡ step
    → drawn_there g r (draws_by s (nozzles_after s e) p step)
    ≡ drawn_there g r s.drawn
    + cond (g == open_shift s && r == product_out s.nozzles p (facts_of s p)) (drawn_in step) 0
by_step s e p event g r sound taken own (Drawn nozzle volume) is =
    let f : Facts = facts_of s p in
    let at = own_point s e p event sound taken own in
    let from = drawn_from event f nozzle volume at.sound.whole at.taken is in
    let run : running_at (nozzles_after s e) p f ≡ volume =
    run_own s e p event taken own at.sound from.was ∙ sym from.its_volume in
    let supplied =
    product_supplied s p (nozzle_out f) sound (nozzle_there s p f at.sound from.was) in
    let product : product_out (nozzles_after s e) p f ≡ product_out s.nozzles p f =
    product_out_after s e p f in
    ap (λ (q : ℕ). drawn_there g r (draw_noted q (running_at (nozzles_after s e) p f) s.drawn))
    product
    ∙ ap (λ (v : ℕ). drawn_there g r (draw_noted (product_out s.nozzles p f) v s.drawn)) run
    ∙ noted_figure (product_out s.nozzles p f) volume g r s.drawn sound.shift.low supplied.low
    supplied.high (λ h row there. draw_cells s h row sound there)
by_step s e p event g r sound taken own step is =
    none_more (g == open_shift s && r == product_out s.nozzles p (facts_of s p))
    (drawn_there g r s.drawn) 0 refl

pub draws_move : (s : SiteState) (a : Actor) (e : Event) (g r : ℕ) → Sound s → IsTaken s e
    → shift_drawn (accepted_site s a e) g r
    ≡ shift_drawn s g r + cond (g == open_shift s && r == product_at s e) (drawn_at s e) 0
draws_move s a (Offline p) g r sound taken =
    by_step s (Offline p) p points.Offline g r sound taken refl (step_at s (Offline p)) refl
draws_move s a (HangUp p n reading) g r sound taken =
    by_step s (HangUp p n reading) p (points.HangUp n (flow_since s p n reading)) g r sound taken
    refl
    (step_at s (HangUp p n reading)) refl
draws_move s a CloseShift g r sound taken =
    opened_figure g r s.drawn
    ∙ none_more (g == open_shift s && r == 0) (drawn_there g r s.drawn) 0 refl
draws_move s a e g r sound taken =
    none_more (g == open_shift s && r == product_at s e) (drawn_there g r s.drawn) (drawn_at s e)
    (none_drawn s (own_event s e) refl)
