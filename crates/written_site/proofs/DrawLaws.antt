-- The draws of tests are what the rows tell, for every legal history.
use Rattle.std.proofs.Common.{◌≡◌, ℕ, zero, suc, ◌+◌, ◌-◌, ◌*◌, ◌≤◌, ◌<◌, ◌==◌, ◌&&◌, nat_le, Bool}
use Rattle.std.proofs.Common.{true, false, cond, List, [], ◌∷◌, length, replicate, Option, Some}
use Rattle.std.proofs.Common.{None, unwrap_or, Ok, Err, refl, sym, ap, ◌∙◌, if◌then◌else◌, ◌⊎◌, inl}
use Rattle.std.proofs.Common.{inr, arith}
use Rattle.std.proofs.lemmas.Bool.Decides.{nat_tests}
use Rattle.std.specs.List.{list_all}
use Rattle.std.specs.Prelude.{slice_get}
use Rattle.site_base.specs.declared.actor.Actor.{Actor}
use Rattle.site_base.specs.declared.answer.Answer.{Answer}
use Rattle.site_base.specs.declared.answer.Answer.TheVariants as answers
use Rattle.site_base.specs.declared.event.Event.{Event}
use Rattle.site_base.specs.declared.event.Event.TheVariants.{CloseShift, Offline, HangUp}
use Rattle.site_base.specs.declared.limits.TheConstants.{PRODUCT_CELLS}
use Rattle.site_base.specs.declared.row.Row.{Row}
use Rattle.site_base.specs.Configured.{Configured}
use Rattle.site_base.specs.Events.{point_named}
use Rattle.site_base.specs.Members.{member}
use Rattle.site_base.proofs.Numbering.{numbered_place}
use Rattle.fuelling_point.specs.declared.event.PointEvent.{PointEvent}
use Rattle.fuelling_point.specs.declared.event.PointEvent.TheVariants as points
use Rattle.fuelling_point.specs.declared.step.PointStep.{PointStep}
use Rattle.fuelling_point.specs.declared.step.PointStep.TheVariants.{Drawn}
use Rattle.fuelling_point.specs.KeptPoints.{growth_of}
use Rattle.fuelling_point.specs.Step.{step_of}
use Rattle.meters.specs.MeteredVolumes.{product_alone}
use Rattle.written_site.specs.DrawLaws.{tells_drawn, run_at, product_read, draws_at, drawn_for}
use Rattle.written_site.specs.DrawLaws.{drawn_while, AreDrawsCounted}
use Rattle.written_site.specs.Histories.{Moment}
use Rattle.written_site.specs.RowWords.{OfBooks, open_after}
use Rattle.written_site.specs.ShiftFigures.{shift_drawn}
use Rattle.written_site.specs.SiteChecks.{Passed, own_event, flow_since}
use Rattle.written_site.specs.SiteState.{SiteState, nothing_drawn, facts_of, open_shift}
use Rattle.written_site.specs.SiteStep.{accepted_site, site_answer, step_at, step_told}
use Rattle.written_site.specs.SiteStep.{nozzles_after, draws_by, draw_noted, reply_to, site_after}
use Rattle.written_site.specs.Sound.{is_draw_row}
use Rattle.written_site.specs.Volumes.{product_out, running_at, drawn_by, adjusted_volume}
use Rattle.written_site.proofs.FigureDraws.{drawn_there, noted_figure, opened_figure}
use Rattle.written_site.proofs.RowFacts.{own_after}
use Rattle.written_site.proofs.RowWords.{told_row, of_row}
use Rattle.written_site.proofs.RunRows.{KnowsRuns, runs_more, runs_first, product_so, run_so}
use Rattle.written_site.proofs.SlotRows.{moment_at}
use Rattle.written_site.proofs.SoldRows.{counted}
use Rattle.written_site.proofs.SoundDraws.{opened_weighs}
use Rattle.written_site.proofs.SoundMachine.{drawn_from}
use Rattle.written_site.proofs.SoundOpening.{nothing_weighs}
use Rattle.written_site.proofs.SoundTables.{turned}
use Rattle.written_site.proofs.SoundUses.{row_at}
use Rattle.written_site.proofs.ToldAnswers.{ends_fuelling, is_over, not_over}
use Rattle.written_site.proofs.VolumeLaws.{unnoted, drawn_one}

-- ---- one draw in the figures

cells_in : (rows : List (List ℕ)) → list_all is_draw_row rows ≡ true → (h : ℕ) (row : List ℕ)
    → member h rows ≡ Some row → length row ≡ PRODUCT_CELLS
cells_in rows all zero row is = cc
cells_in rows all (suc h) row is =
    row_at (suc h - 1) row rows all (sym (numbered_place (suc h) rows (omega arith)) ∙ is)

-- a product that has no figure isn't r
out_of_range : (q r : ℕ) → 1 ≤ r → r ≤ PRODUCT_CELLS → (q ≡ 0) ⊎ (PRODUCT_CELLS < q)
    → (r == q) ≡ false
out_of_range q r low high (inl none) = let apart : (r == q) ≡ false = grind
    (arith, nat_tests) in apart
out_of_range q r low high (inr beyond) =
    let apart : (r == q) ≡ false = grind (arith, nat_tests) in apart

nothing_more : (a : Bool) (v : ℕ) → ◌≡◌ {A = ℕ} (cond (a && false) v 0) 0
nothing_more true v = refl
nothing_more false v = refl

-- one draw of product q, in the figure of product r of shift g
figure_one : (q v g r : ℕ) (rows : List (List ℕ)) → 1 ≤ r → r ≤ PRODUCT_CELLS
    → list_all is_draw_row rows ≡ true → 1 ≤ length rows
    → drawn_there g r (draw_noted q v rows)
    ≡ drawn_there g r rows + cond (g == length rows && r == q) v 0
figure_one q v g r rows low high all some = by_low (nat_le 1 q) refl
  where
    beyond_range : (q ≡ 0) ⊎ (PRODUCT_CELLS < q)
        → drawn_there g r (draw_noted q v rows)
        ≡ drawn_there g r rows + cond (g == length rows && r == q) v 0
    beyond_range out =
        let none : cond (g == length rows && r == q) v 0 ≡ 0 =
        ap (λ (b : Bool). cond (g == length rows && b) v 0) (out_of_range q r low high out)
        ∙ nothing_more (g == length rows) v in
        ap (drawn_there g r) (unnoted q v rows all out) ∙ omega (arith, none)

    by_high : 1 ≤ q → (b : Bool) → nat_le q PRODUCT_CELLS ≡ b
        → drawn_there g r (draw_noted q v rows)
        ≡ drawn_there g r rows + cond (g == length rows && r == q) v 0
    by_high above true is =
        noted_figure q v g r rows some above (grind (arith, nat_tests)) (cells_in rows all)
    by_high above false is =
        let beyond : PRODUCT_CELLS < q = grind (arith, nat_tests) in beyond_range (inr beyond)

    by_low : (b : Bool) → nat_le 1 q ≡ b
        → drawn_there g r (draw_noted q v rows)
        ≡ drawn_there g r rows + cond (g == length rows && r == q) v 0
    by_low true is =
        let above : 1 ≤ q = grind (arith, nat_tests) in by_high above (nat_le q PRODUCT_CELLS) refl
    by_low false is =
        let none : q ≡ 0 = grind (arith, nat_tests) in beyond_range (inl none)

-- ---- what a moment tells

none_drawn_told : (answer : Answer) → is_over answer ≡ false → tells_drawn (Ok answer) ≡ false
none_drawn_told (answers.Drawn growth) other = cc
none_drawn_told answer other = refl

pub never_drawn : (s : SiteState) (e : Event) → ends_fuelling e ≡ false
    → tells_drawn (Ok (site_answer s e)) ≡ false
never_drawn s e other = none_drawn_told (site_answer s e) (not_over s e other)

-- a moment that isn't answered so draws nothing
draws_none : (c : Configured) (q : ℕ) (point : Option ℕ) (m : Moment)
    → tells_drawn m.row.reply ≡ false → draws_at c q point m ≡ 0
draws_none c q None m none = refl
draws_none c q (Some p) m none =
    ap (λ (b : Bool). if b && product_read c p m.earlier == q then run_at c p m else 0) none

-- ---- one row

either_turned : (a b c d : Bool) (v : ℕ) → a ≡ c → b ≡ d
    → ◌≡◌ {A = ℕ} (cond (a && b) v 0) (if c then (if d then v else 0) else 0)
either_turned true b c d v same same' =
    ap (λ (x : Bool). cond x v 0) same' ∙ ap (λ (x : Bool). if x then (if d then v else 0) else 0)
    same
either_turned false b c d v same same' =
    ap (λ (x : Bool). if x then (if d then v else 0) else 0) same

alone_turned : (b d : Bool) (v : ℕ) → b ≡ d → ◌≡◌ {A = ℕ} (cond b 1 0 * v) (if d then v else 0)
alone_turned true d v same =
    let once : 1 * v ≡ v = omega arith in once ∙ ap (λ (x : Bool). if x then v else 0) same
alone_turned false d v same =
    let none : 0 * v ≡ 0 = omega arith in none ∙ ap (λ (x : Bool). if x then v else 0) same

module _ (c : Configured) (earlier : List Row) (s : SiteState) (a : Actor) (e : Event)
    (known : KnowsRuns c earlier s) (passes : Passed s a e) where
  abbrev m : Moment
  m = moment_at earlier s (told_row a e (Ok (site_answer s e)))

  -- what the event draws of product r, as the row tells it, where it is this step of its point
  abbrev drawn_so : ℕ → ℕ → ℕ → PointStep → ℕ
  drawn_so r p growth step =
      if tells_drawn (Ok (step_told s p growth step)) && product_read c p earlier == r
      then run_at c p m else 0

  run_here : (p : ℕ) (event : PointEvent) → own_event s e ≡ Some (p, event)
      → (nozzle volume : ℕ) → step_of event (facts_of s p) ≡ Drawn nozzle volume
      → running_at (nozzles_after s e) p (facts_of s p) ≡ run_at c p m
  run_here p event own nozzle volume is =
      run_so c earlier s a e known passes p event own
      (drawn_from event (facts_of s p) nozzle volume (known.volumes.fuel.known.whole p)
      (own_after s a e p event passes own).1 is).was

  figure_step : (g r p : ℕ) (event : PointEvent) → own_event s e ≡ Some (p, event)
      → 1 ≤ r → r ≤ PRODUCT_CELLS → (step : PointStep) → step_of event (facts_of s p) ≡ step
      → drawn_there g r (draws_by s (nozzles_after s e) p step)
      ≡ drawn_there g r s.drawn
      + (if open_after earlier == g then drawn_so r p (growth_of event) step else 0)
  figure_step g r p event own low high (Drawn nozzle volume) is =
      let shift = known.volumes.fuel.known.shift in
      figure_one (product_out (nozzles_after s e) p (facts_of s p))
      (running_at (nozzles_after s e) p (facts_of s p)) g r s.drawn low high known.volumes.rows
      (omega (arith, shift))
      ∙ ap (λ (v : ℕ). drawn_there g r s.drawn + v)
      (either_turned (g == open_shift s) (r == product_out (nozzles_after s e) p (facts_of s p))
      (open_after earlier == g) (product_read c p earlier == r)
      (running_at (nozzles_after s e) p (facts_of s p))
      (turned g (open_shift s) ∙ ap (λ (h : ℕ). h == g) shift)
      (turned r (product_out (nozzles_after s e) p (facts_of s p))
      ∙ ap (λ (k : ℕ). k == r) (product_so c earlier s e known p))
      ∙ ap (λ (v : ℕ). if open_after earlier == g
      then (if product_read c p earlier == r then v else 0) else 0)
      (run_here p event own nozzle volume is))
  figure_step g r p event own low high step is =
      same_figure (drawn_there g r s.drawn) (open_after earlier == g)
    where
      same_figure : (v : ℕ) (b : Bool) → v ≡ v + (if b then 0 else 0)
      same_figure v true = omega arith
      same_figure v false = omega arith

  all_step : (r p : ℕ) (event : PointEvent) → own_event s e ≡ Some (p, event)
      → 1 ≤ r → r ≤ PRODUCT_CELLS → (step : PointStep) → step_of event (facts_of s p) ≡ step
      → drawn_by (product_alone r) (draws_by s (nozzles_after s e) p step)
      ≡ drawn_by (product_alone r) s.drawn + drawn_so r p (growth_of event) step
  all_step r p event own low high (Drawn nozzle volume) is =
      let shift = known.volumes.fuel.known.shift in
      drawn_one r (product_out (nozzles_after s e) p (facts_of s p))
      (running_at (nozzles_after s e) p (facts_of s p)) s.drawn low high known.volumes.rows
      (omega (arith, shift))
      ∙ ap (λ (v : ℕ). drawn_by (product_alone r) s.drawn + v)
      (alone_turned (product_out (nozzles_after s e) p (facts_of s p) == r)
      (product_read c p earlier == r) (running_at (nozzles_after s e) p (facts_of s p))
      (ap (λ (k : ℕ). k == r) (product_so c earlier s e known p))
      ∙ ap (λ (v : ℕ). if product_read c p earlier == r then v else 0)
      (run_here p event own nozzle volume is))
  all_step r p event own low high step is = omega arith

unmoved : (v : ℕ) (b : Bool) (w : ℕ) → w ≡ 0 → v ≡ v + (if b then w else 0)
unmoved v true w none = omega (arith, none)
unmoved v false w none = omega arith

unmoved_all : (v w : ℕ) → w ≡ 0 → v ≡ v + w
unmoved_all v w none = omega (arith, none)

-- what a row adds to the figures of product q
record Adds (c : Configured) (q : ℕ) (earlier : List Row) (s : SiteState) (r : Row)
    (new : SiteState)
    : Type 0 where
  shifts : (h : ℕ) → shift_drawn new h q
      ≡ shift_drawn s h q + drawn_while c h q (moment_at earlier s r)
  all : adjusted_volume new q ≡ adjusted_volume s q + drawn_for c q (moment_at earlier s r)

adds_none : (c : Configured) (q : ℕ) (earlier : List Row) (s : SiteState) (r : Row)
    (new : SiteState)
    → new.drawn ≡ s.drawn → tells_drawn r.reply ≡ false → Adds c q earlier s r new
adds_none c q earlier s r new same none =
    let nothing = draws_none c q (point_named r.event) (moment_at earlier s r) none in
    record {
      shifts = λ h. ap (drawn_there h q) same
          ∙ unmoved (shift_drawn s h q) (open_after earlier == h)
          (drawn_for c q (moment_at earlier s r))
          nothing;
      all = ap (drawn_by (product_alone q)) same
          ∙ unmoved_all (adjusted_volume s q) (drawn_for c q (moment_at earlier s r)) nothing;
    }

adds_accepted : (c : Configured) (q : ℕ) (earlier : List Row) (s : SiteState) (a : Actor)
    (e : Event)
    → KnowsRuns c earlier s → 1 ≤ q → q ≤ PRODUCT_CELLS → Passed s a e
    → Adds c q earlier s (told_row a e (Ok (site_answer s e))) (accepted_site s a e)
adds_accepted c q earlier s a (Offline p) known low high passes = record {
  shifts = λ h. figure_step c earlier s a (Offline p) known passes h q p points.Offline refl low
      high
      (step_at s (Offline p)) refl;
  all = all_step c earlier s a (Offline p) known passes q p points.Offline refl low high
      (step_at s (Offline p)) refl;
}
adds_accepted c q earlier s a (HangUp p n reading) known low high passes = record {
  shifts = λ h. figure_step c earlier s a (HangUp p n reading) known passes h q p
      (points.HangUp n (flow_since s p n reading)) refl low high (step_at s (HangUp p n reading))
      refl;
  all = all_step c earlier s a (HangUp p n reading) known passes q p
      (points.HangUp n (flow_since s p n reading)) refl low high (step_at s (HangUp p n reading))
      refl;
}
adds_accepted c q earlier s a CloseShift known low high passes = record {
  shifts = λ h. opened_figure h q s.drawn
      ∙ unmoved (shift_drawn s h q) (open_after earlier == h) 0 refl;
  all = opened_weighs (product_alone q) s.drawn ∙ unmoved_all (adjusted_volume s q) 0 refl;
}
adds_accepted c q earlier s a e known low high passes =
    adds_none c q earlier s (told_row a e (Ok (site_answer s e))) (accepted_site s a e) refl
    (never_drawn s e refl)

adds_row : (c : Configured) (q : ℕ) → 1 ≤ q → q ≤ PRODUCT_CELLS
    → (earlier : List Row) (s : SiteState) (r : Row) → KnowsRuns c earlier s
    → r.reply ≡ reply_to s r.actor r.event → Adds c q earlier s r (site_after s r.actor r.event)
adds_row c q low high earlier s r known replies =
    of_row (λ row new. Adds c q earlier s row new) s r replies
    (λ refusal. adds_none c q earlier s (told_row r.actor r.event (Err refusal)) s refl refl)
    (λ passes. adds_accepted c q earlier s r.actor r.event known low high passes)

zero_at : (n i : ℕ) → ◌≡◌ {A = ℕ} (unwrap_or (slice_get (replicate n 0) i) 0) 0
zero_at zero i = refl
zero_at (suc n) zero = refl
zero_at (suc n) (suc i) = zero_at n i

zero_numbered : (n q : ℕ) → ◌≡◌ {A = ℕ} (unwrap_or (member q (replicate n 0)) 0) 0
zero_numbered n q = by_test (q == 0)
  where
    by_test : (b : Bool)
        → ◌≡◌ {A = ℕ} (unwrap_or (if b then None else slice_get (replicate n 0) (q - 1)) 0) 0
    by_test true = refl
    by_test false = zero_at n (q - 1)

-- when the site opens nothing is drawn
none_first : (h q : ℕ) → drawn_there h q (nothing_drawn ∷ []) ≡ 0
none_first h q = opened_figure h q [] ∙ by_test (h == 0)
  where
    by_test : (b : Bool)
        → unwrap_or (member q (unwrap_or (if b then None else None) nothing_drawn)) 0 ≡ 0
    by_test true = zero_numbered PRODUCT_CELLS q
    by_test false = zero_numbered PRODUCT_CELLS q

pub draws_counted : OfBooks AreDrawsCounted
draws_counted c rows legal = record {
  shifts = λ h q low high.
      counted (KnowsRuns c) (runs_more c) (λ s. shift_drawn s h q) (drawn_while c h q)
      (λ earlier s r known replies.
      (adds_row c q low (omega (arith, high)) earlier s r known replies).shifts h)
      c rows (runs_first c) legal (none_first h q);
  all = λ q low high.
      counted (KnowsRuns c) (runs_more c) (λ s. adjusted_volume s q) (drawn_for c q)
      (λ earlier s r known replies.
      (adds_row c q low (omega (arith, high)) earlier s r known replies).all)
      c rows (runs_first c) legal (nothing_weighs (product_alone q));
}
