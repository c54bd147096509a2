-- Volumes are conserved, for every legal history.
use Rattle.std.proofs.Common.{◌≡◌, ℕ, ◌+◌, ◌-◌, ◌*◌, ◌≤◌, ◌<◌, ◌==◌, nat_le, Bool, true, false}
use Rattle.std.proofs.Common.{List, [], ◌∷◌, ◌++◌, length, Some, unwrap_or, refl, sym, ap, subst}
use Rattle.std.proofs.Common.{◌∙◌, ◌⊎◌, inl, inr, arith}
use Rattle.std.proofs.lemmas.Bool.{and_parts}
use Rattle.std.proofs.lemmas.Bool.Decides.{nat_tests}
use Rattle.std.proofs.lemmas.List.{set_past}
use Rattle.std.proofs.Math.Nat.{mul-zero}
use Rattle.std.specs.List.{list_all}
use Rattle.site_base.specs.declared.actor.Actor.{Actor}
use Rattle.site_base.specs.declared.actor.Actor.TheVariants.{Till}
use Rattle.site_base.specs.declared.event.Event.{Event}
use Rattle.site_base.specs.declared.event.Event.TheVariants.{SignOff, Lock, Unlock, Clear}
use Rattle.site_base.specs.declared.event.Event.TheVariants.{CloseShift, ReplaceMeter, Flow}
use Rattle.site_base.specs.declared.event.Event.TheVariants.{Offline, HangUp}
use Rattle.site_base.specs.declared.limits.TheConstants.{PRODUCT_CELLS}
use Rattle.site_base.specs.declared.row.Row.{Row}
use Rattle.site_base.specs.Configured.{Configured}
use Rattle.site_base.specs.Events.{growth_in_reply}
use Rattle.site_base.specs.Members.{member}
use Rattle.site_base.proofs.Numbering.{with_numbered_place}
use Rattle.fuelling_point.specs.declared.event.PointEvent.{PointEvent}
use Rattle.fuelling_point.specs.declared.event.PointEvent.TheVariants as points
use Rattle.fuelling_point.specs.declared.step.PointStep.{PointStep}
use Rattle.fuelling_point.specs.declared.step.PointStep.TheVariants.{Sold, Drawn}
use Rattle.fuelling_point.specs.KeptPoints.{Facts, volume_of}
use Rattle.fuelling_point.specs.Laws.{sold_in, drawn_in}
use Rattle.fuelling_point.specs.Step.{step_of}
use Rattle.meters.specs.declared.report.Report.TheVariants.{Growing}
use Rattle.meters.specs.MeteredVolumes.{every_product, metered_by, product_alone}
use Rattle.meters.specs.Nozzles.{Nozzle, opening_nozzles, read_at, replaced_at, reading_of}
use Rattle.meters.proofs.Lookups.{reading_is}
use Rattle.meters.proofs.Weights.{open_nothing, accepted_above}
use Rattle.transaction_buffer.specs.declared.request.Request.TheVariants as requests
use Rattle.transaction_buffer.specs.Sales.{no_sales}
use Rattle.transaction_buffer.proofs.OnShelves.{nothing_sold}
use Rattle.transaction_buffer.proofs.Summing.{sold_sum}
use Rattle.transaction_buffer.proofs.Volumes.{add_up}
use Rattle.written_site.specs.RowWords.{OfBooks, total}
use Rattle.written_site.specs.SiteChecks.{Passed, own_event, flow_since, put_back_at}
use Rattle.written_site.specs.SiteRun.{site_of_rows}
use Rattle.written_site.specs.SiteState.{SiteState, opening, points_of, nothing_drawn, facts_of}
use Rattle.written_site.specs.SiteState.{key_named, open_shift}
use Rattle.written_site.specs.SiteStep.{accepted_site, step_at, nozzles_after, points_after}
use Rattle.written_site.specs.SiteStep.{sales_after, sales_by, sale_made, drawn_after, draws_by}
use Rattle.written_site.specs.SiteStep.{draw_noted, one_more_drawn, reply_to, site_after}
use Rattle.written_site.specs.Sound.{is_draw_row}
use Rattle.written_site.specs.SoundSteps.{growth_at as growth_of_event, product_at, sold_at}
use Rattle.written_site.specs.SoundSteps.{drawn_at}
use Rattle.written_site.specs.VolumeLaws.{AreVolumesConserved}
use Rattle.written_site.specs.Volumes.{product_out, running_at, running_by, sold_by, drawn_by}
use Rattle.written_site.proofs.FuellingRows.{KnowsFuel, fuel_more, fuel_first}
use Rattle.written_site.proofs.FuellingReplies.{growth_is}
use Rattle.written_site.proofs.MeterLaws.{Changed, mine, other, changed, fresh_found, fresh_points}
use Rattle.written_site.proofs.MeteredRows.{totals_read}
use Rattle.written_site.proofs.RowFacts.{own_after}
use Rattle.written_site.proofs.RowWords.{of_row, kept, total_push}
use Rattle.written_site.proofs.SoundDraws.{drawn_more, drawn_rows, opened_weighs}
use Rattle.written_site.proofs.SoundMachine.{sold_from, drawn_from}
use Rattle.written_site.proofs.SoundMeters.{read_keeps, replaced_keeps, product_after}
use Rattle.written_site.proofs.SoundOpening.{closed_volumes, nothing_weighs}
use Rattle.written_site.proofs.SoundOpening.{balanced as balanced_first}
use Rattle.written_site.proofs.SoundPoints.{run_is_volume}
use Rattle.written_site.proofs.SoundReports.{IsRead}
use Rattle.written_site.proofs.SoundRunning.{flowed_by, flowed_products}
use Rattle.written_site.proofs.SoundSold.{run_read}
use Rattle.written_site.proofs.SoundSums.{other_weight, sold_alone}
use Rattle.written_site.proofs.SoundTables.{same, facts_there}
use Rattle.written_site.proofs.SoundVolumes.{weighs_none, stays_so, weight_of, sign_off_weighs}
use Rattle.written_site.proofs.SoundVolumes.{asked_weighs, over_is, none_sold, none_drawn, balanced}
use Rattle.written_site.proofs.VolumeRows.{AreRisen, meters_move, kept_move, Quiet, quiet_first}
use Rattle.written_site.proofs.VolumeRows.{quiet_after, runs_as_kept}

-- ---- meters rise

read_rises : (q m reading : ℕ) (xs : List Nozzle) → AreRisen xs → reading_of q m xs ≤ reading
    → (p n : ℕ) (y : Nozzle) → Changed p n q m (read_at reading) xs y → y.began ≤ y.last
read_rises q m reading xs risen above p n y (other its there) = risen p n y there
read_rises q m reading xs risen above p n y (mine its x there made) =
    let parts = and_parts (q == p) (m == n) its in
    let last : reading_of q m xs ≡ x.last =
    ap (λ (k : ℕ). reading_of k m xs) (same q p parts.0)
    ∙ ap (λ (k : ℕ). reading_of p k xs) (same m n parts.1)
    ∙ reading_is p n xs x there in
    let up = risen p n x there in
    subst (λ (z : Nozzle). z.began ≤ z.last) (sym made) (omega (arith, last, up, above))

replaced_rises : (q m reading : ℕ) (xs : List Nozzle) → AreRisen xs
    → (p n : ℕ) (y : Nozzle) → Changed p n q m (replaced_at reading) xs y → y.began ≤ y.last
replaced_rises q m reading xs risen p n y (other its there) = risen p n y there
replaced_rises q m reading xs risen p n y (mine its x there made) =
    subst (λ (z : Nozzle). z.began ≤ z.last) (sym made) (omega arith)

risen_after : (s : SiteState) (a : Actor) (e : Event) → Passed s a e → AreRisen s.nozzles
    → AreRisen (nozzles_after s e)
risen_after s a (Flow q m reading) passes risen p n y is =
    read_rises q m reading s.nozzles risen
    (accepted_above Growing (reading_of q m s.nozzles) reading passes.reads) p n y
    (changed p n q m (read_at reading) s.nozzles y (read_keeps reading) is)
risen_after s a (HangUp q m reading) passes risen p n y is =
    read_rises q m reading s.nozzles risen
    (accepted_above (put_back_at (facts_of s q).state)
    (reading_of q m s.nozzles) reading passes.reads)
    p n y
    (changed p n q m (read_at reading) s.nozzles y (read_keeps reading) is)
risen_after s a (ReplaceMeter q m reading) passes risen p n y is =
    replaced_rises q m reading s.nozzles risen p n y
    (changed p n q m (replaced_at reading) s.nozzles y (replaced_keeps reading) is)
risen_after s a e passes risen p n y is = risen p n y is

-- ---- draws

-- a draw of a product without a figure isn't noted
unnoted_row : (r v : ℕ) (row : List ℕ) → (r ≡ 0) ⊎ (length row < r) → one_more_drawn r v row ≡ row
unnoted_row r v row (inl none) =
    ap (λ (k : ℕ). one_more_drawn k v row) none
unnoted_row r v row (inr beyond) =
    with_numbered_place r (unwrap_or (member r row) 0 + v) row (omega (arith, beyond))
    ∙ set_past row (r - 1) (unwrap_or (member r row) 0 + v) (omega (arith, beyond))

cells_so : (row : List ℕ) (r : ℕ) → length row ≡ PRODUCT_CELLS → (r ≡ 0) ⊎ (PRODUCT_CELLS < r)
    → (r ≡ 0) ⊎ (length row < r)
cells_so row r cells (inl none) = inl none
cells_so row r cells (inr beyond) = inr (omega (arith, cells, beyond))

pub unnoted : (r v : ℕ) (rows : List (List ℕ)) → list_all is_draw_row rows ≡ true
    → (r ≡ 0) ⊎ (PRODUCT_CELLS < r) → draw_noted r v rows ≡ rows
unnoted r v [] all out = refl
unnoted r v (row ∷ []) all out =
    let parts = and_parts (is_draw_row row) true all in
    ap (λ x. x ∷ []) (unnoted_row r v row
    (cells_so row r (same (length row) PRODUCT_CELLS parts.0) out))
unnoted r v (row ∷ next ∷ rows) all out =
    let parts = and_parts (is_draw_row row) (list_all is_draw_row (next ∷ rows)) all in
    ap (λ xs. row ∷ xs) (unnoted r v (next ∷ rows) parts.1 out)

-- a draw of product r, as product q weighs it
pub drawn_one : (q r v : ℕ) (rows : List (List ℕ)) → 1 ≤ q → q ≤ PRODUCT_CELLS
    → list_all is_draw_row rows ≡ true → 1 ≤ length rows
    → drawn_by (product_alone q) (draw_noted r v rows)
    ≡ drawn_by (product_alone q) rows + product_alone q r * v
drawn_one q r v rows low high all some = by_low (nat_le 1 r) refl
  where
    out_of_range : (r ≡ 0) ⊎ (PRODUCT_CELLS < r) → product_alone q r ≡ 0
        → drawn_by (product_alone q) (draw_noted r v rows)
        ≡ drawn_by (product_alone q) rows + product_alone q r * v
    out_of_range out none =
        ap (drawn_by (product_alone q)) (unnoted r v rows all out)
        ∙ weighs_none v (drawn_by (product_alone q) rows)
        ∙ ap (λ (k : ℕ). drawn_by (product_alone q) rows + k) (mul-zero v ∙ no_weight)
      where
        no_weight : 0 ≡ product_alone q r * v
        no_weight = sym (ap (λ (k : ℕ). k * v) none ∙ omega arith)

    by_high : 1 ≤ r → (b : Bool) → nat_le r PRODUCT_CELLS ≡ b
        → drawn_by (product_alone q) (draw_noted r v rows)
        ≡ drawn_by (product_alone q) rows + product_alone q r * v
    by_high above true is =
        drawn_more (product_alone q) r v rows all some above (grind (arith, nat_tests))
    by_high above false is =
        let beyond : PRODUCT_CELLS < r = grind (arith, nat_tests) in
        out_of_range (inr beyond) (other_weight q r (λ one. omega (arith, one, beyond, high)))

    by_low : (b : Bool) → nat_le 1 r ≡ b
        → drawn_by (product_alone q) (draw_noted r v rows)
        ≡ drawn_by (product_alone q) rows + product_alone q r * v
    by_low true is =
        let above : 1 ≤ r = grind (arith, nat_tests) in
        by_high above (nat_le r PRODUCT_CELLS) refl
    by_low false is =
        let none : r ≡ 0 = grind (arith, nat_tests) in
        out_of_range (inl none) (other_weight q r (λ one. omega (arith, one, none, low)))

-- ---- what an accepted event sells and draws

module _ (c : Configured) (earlier : List Row) (s : SiteState) (a : Actor) (e : Event)
    (fuel : KnowsFuel c earlier s) (passes : Passed s a e) where
  read : IsRead s e
  read = record { names = passes.names; takes = passes.takes; reads = passes.reads }

  sold_step : (w : ℕ → ℕ) (p : ℕ) (event : PointEvent) → own_event s e ≡ Some (p, event)
      → (step : PointStep) → step_of event (facts_of s p) ≡ step
      → sold_by w (sales_by s (nozzles_after s e) p step)
      ≡ sold_by w s.sales + w (product_out s.nozzles p (facts_of s p)) * sold_in step
  sold_step w p event own (Sold nozzle volume price prepaid) is =
      let f : Facts = facts_of s p in
      let from = sold_from event f nozzle volume price prepaid (fuel.known.whole p)
      (own_after s a e p event passes own).1 is in
      let run : running_at (nozzles_after s e) p f ≡ volume =
      run_read s e p event read own (fuel.known.whole p)
      ((fuel.points p).fuels from.was).meter from.was
      ∙ sym from.its_volume in
      sold_sum (weight_of w) p (sale_made s (nozzles_after s e) p) s.sales
      ∙ ap (λ (v : ℕ). sold_by w s.sales + v) (over_is w s e p volume f run)
  sold_step w p event own step is =
      weighs_none (w (product_out s.nozzles p (facts_of s p))) (sold_by w s.sales)

  drawn_step : (q p : ℕ) (event : PointEvent) → own_event s e ≡ Some (p, event)
      → 1 ≤ q → q ≤ PRODUCT_CELLS → list_all is_draw_row s.drawn ≡ true → 1 ≤ length s.drawn
      → (step : PointStep) → step_of event (facts_of s p) ≡ step
      → drawn_by (product_alone q) (draws_by s (nozzles_after s e) p step)
      ≡ drawn_by (product_alone q) s.drawn
      + product_alone q (product_out s.nozzles p (facts_of s p)) * drawn_in step
  drawn_step q p event own low high all some (Drawn nozzle volume) is =
      let f : Facts = facts_of s p in
      let from = drawn_from event f nozzle volume (fuel.known.whole p)
      (own_after s a e p event passes own).1 is in
      let run : running_at (nozzles_after s e) p f ≡ volume =
      run_read s e p event read own (fuel.known.whole p)
      ((fuel.points p).fuels from.was).meter from.was
      ∙ sym from.its_volume in
      drawn_one q (product_out (nozzles_after s e) p f)
      (running_at (nozzles_after s e) p f) s.drawn low
      high all some
      ∙ ap (λ (v : ℕ). drawn_by (product_alone q) s.drawn + v)
      (over_is (product_alone q) s e p volume f run)
  drawn_step q p event own low high all some step is =
      weighs_none (product_alone q (product_out s.nozzles p (facts_of s p)))
      (drawn_by (product_alone q) s.drawn)

sales_move : (w : ℕ → ℕ) (c : Configured) (earlier : List Row) (s : SiteState) (a : Actor)
    (e : Event)
    → KnowsFuel c earlier s → Passed s a e
    → sold_by w (sales_after s a e) ≡ sold_by w s.sales + w (product_at s e) * sold_at s e
sales_move w c earlier s (Till t) SignOff fuel passes =
    sign_off_weighs w t s.sales ∙ weighs_none (w 0) (sold_by w s.sales)
sales_move w c earlier s (Till t) (Lock p id) fuel passes =
    asked_weighs w requests.Lock t (key_named s p id) s.sales
    ∙ weighs_none (w 0) (sold_by w s.sales)
sales_move w c earlier s (Till t) (Unlock p id) fuel passes =
    asked_weighs w requests.Unlock t (key_named s p id) s.sales
    ∙ weighs_none (w 0) (sold_by w s.sales)
sales_move w c earlier s (Till t) (Clear p id) fuel passes =
    asked_weighs w (requests.Clear (open_shift s)) t (key_named s p id) s.sales
    ∙ weighs_none (w 0) (sold_by w s.sales)
sales_move w c earlier s a (Offline p) fuel passes =
    sold_step c earlier s a (Offline p) fuel passes w p points.Offline refl
    (step_at s (Offline p)) refl
sales_move w c earlier s a (HangUp p n reading) fuel passes =
    sold_step c earlier s a (HangUp p n reading) fuel passes w p
    (points.HangUp n (flow_since s p n reading)) refl (step_at s (HangUp p n reading)) refl
sales_move w c earlier s a e fuel passes =
    stays_so (w (product_at s e)) (sold_by w s.sales) (sold_at s e)
    (none_sold s (own_event s e) refl)

pub draws_move : (q : ℕ) (c : Configured) (earlier : List Row) (s : SiteState) (a : Actor)
    (e : Event)
    → KnowsFuel c earlier s → Passed s a e → 1 ≤ q → q ≤ PRODUCT_CELLS
    → list_all is_draw_row s.drawn ≡ true → 1 ≤ length s.drawn
    → drawn_by (product_alone q) (drawn_after s e)
    ≡ drawn_by (product_alone q) s.drawn + product_alone q (product_at s e) * drawn_at s e
draws_move q c earlier s a (Offline p) fuel passes low high all some =
    drawn_step c earlier s a (Offline p) fuel passes q p points.Offline refl low high all some
    (step_at s (Offline p)) refl
draws_move q c earlier s a (HangUp p n reading) fuel passes low high all some =
    drawn_step c earlier s a (HangUp p n reading) fuel passes q p
    (points.HangUp n (flow_since s p n reading)) refl low high all some
    (step_at s (HangUp p n reading)) refl
draws_move q c earlier s a CloseShift fuel passes low high all some =
    opened_weighs (product_alone q) s.drawn
    ∙ weighs_none (product_alone q 0) (drawn_by (product_alone q) s.drawn)
draws_move q c earlier s a e fuel passes low high all some =
    stays_so (product_alone q (product_at s e)) (drawn_by (product_alone q) s.drawn) (drawn_at s e)
    (none_drawn s (own_event s e) refl)

-- ---- one row more

-- what the points keep is what is running
runs_so : (w : ℕ → ℕ) (c : Configured) (earlier : List Row) (s : SiteState) → KnowsFuel c earlier s
    → Quiet [] s.points → running_by w s.nozzles s.points ≡ flowed_by w s.nozzles s.points
runs_so w c earlier s fuel quiet =
    runs_as_kept w s.nozzles [] s.points quiet (λ p f unseen is.
    let facts : facts_of s p ≡ f = facts_there s.points p f is in
    subst (λ (g : Facts). running_at s.nozzles p g ≡ volume_of g) facts
    (run_is_volume s.nozzles p (facts_of s p) (λ under_way.
    ((fuel.points p).fuels under_way).meter)))

-- how a row moves the volumes of product q
record Moves (q : ℕ) (s new : SiteState) : Type 0 where
  growth : ℕ
  weight : ℕ
  sold : ℕ
  drawn : ℕ
  meters : metered_by (product_alone q) new.nozzles
      ≡ metered_by (product_alone q) s.nozzles + growth
  keeps : flowed_by (product_alone q) new.nozzles new.points + weight * (sold + drawn)
      ≡ flowed_by (product_alone q) s.nozzles s.points + growth
  sales : sold_by (product_alone q) new.sales ≡ sold_by (product_alone q) s.sales + weight * sold
  draws : drawn_by (product_alone q) new.drawn
      ≡ drawn_by (product_alone q) s.drawn + weight * drawn

-- what is known of volumes
pub record KnowsVolumes (c : Configured) (earlier : List Row) (s : SiteState) : Type 0 where
  pub fuel : KnowsFuel c earlier s
  pub risen : AreRisen s.nozzles
  pub quiet : Quiet [] s.points
  pub rows : list_all is_draw_row s.drawn ≡ true
  pub conserved : (q : ℕ) → 1 ≤ q → q ≤ PRODUCT_CELLS
      → metered_by (product_alone q) s.nozzles
      ≡ running_by (product_alone q) s.nozzles s.points + sold_by (product_alone q) s.sales
      + drawn_by (product_alone q) s.drawn
  pub grown : total (λ r. growth_in_reply r.reply) earlier ≡ metered_by every_product s.nozzles

moves_accepted : (q : ℕ) (c : Configured) (earlier : List Row) (s : SiteState) (a : Actor)
    (e : Event)
    → KnowsVolumes c earlier s → 1 ≤ q → q ≤ PRODUCT_CELLS → Passed s a e
    → Moves q s (accepted_site s a e)
moves_accepted q c earlier s a e known low high passes =
    let w = product_alone q in
    let shift = known.fuel.known.shift in
    record {
      growth = w (product_at s e) * growth_of_event s e;
      weight = w (product_at s e);
      sold = sold_at s e;
      drawn = drawn_at s e;
      meters = meters_move w s a e known.risen known.fuel.known.whole passes;
      keeps = ap (λ (v : ℕ). v + w (product_at s e) * (sold_at s e + drawn_at s e))
          (flowed_products w s.nozzles (nozzles_after s e) (product_after s e) (points_after s e))
          ∙ kept_move w s a e known.fuel.known.whole passes (own_event s e) refl;
      sales = sales_move w c earlier s a e known.fuel passes;
      draws = draws_move q c earlier s a e known.fuel passes low high known.rows
          (omega (arith, shift));
    }

moves_row : (q : ℕ) (c : Configured) (earlier : List Row) (s : SiteState) (r : Row)
    → KnowsVolumes c earlier s → 1 ≤ q → q ≤ PRODUCT_CELLS → r.reply ≡ reply_to s r.actor r.event
    → Moves q s (site_after s r.actor r.event)
moves_row q c earlier s r known low high replies =
    of_row (λ row new. Moves q s new) s r replies
    (λ refusal. record {
      growth = 0;
      weight = 0;
      sold = 0;
      drawn = 0;
      meters = omega arith;
      keeps = omega arith;
      sales = omega arith;
      draws = omega arith;
    })
    (λ passes. moves_accepted q c earlier s r.actor r.event known low high passes)

-- what a row tells to have flowed is metered
grown_row : (c : Configured) (earlier : List Row) (s : SiteState) (r : Row)
    → KnowsVolumes c earlier s
    → r.reply ≡ reply_to s r.actor r.event
    → metered_by every_product (site_after s r.actor r.event).nozzles
    ≡ metered_by every_product s.nozzles + growth_in_reply r.reply
grown_row c earlier s r known replies =
    of_row (λ row new. metered_by every_product new.nozzles
    ≡ metered_by every_product s.nozzles + growth_in_reply row.reply) s r replies
    (λ refusal. omega arith)
    (λ passes.
    let told = growth_is s r.actor r.event passes in
    let moved = meters_move every_product s r.actor r.event known.risen known.fuel.known.whole
    passes in
    omega (arith, told, moved))

pub volumes_more : (c : Configured) (earlier : List Row) (s : SiteState) (r : Row)
    → KnowsVolumes c earlier s → r.reply ≡ reply_to s r.actor r.event
    → KnowsVolumes c (earlier ++ r ∷ []) (site_after s r.actor r.event)
volumes_more c earlier s r known replies = record {
  fuel = fuel_then;
  risen = of_row (λ row new. AreRisen new.nozzles) s r replies (λ refusal. known.risen)
      (λ passes. risen_after s r.actor r.event passes known.risen);
  quiet = quiet_then;
  rows = of_row (λ row new. list_all is_draw_row new.drawn ≡ true) s r replies
      (λ refusal. known.rows) (λ passes. drawn_rows s r.event known.rows);
  conserved = λ q low high.
      let w = product_alone q in
      let moves = moves_row q c earlier s r known low high replies in
      let before = runs_so w c earlier s known.fuel known.quiet in
      let after = runs_so w c (earlier ++ r ∷ []) new fuel_then quiet_then in
      balanced (metered_by w s.nozzles) (metered_by w new.nozzles)
      (running_by w s.nozzles s.points) (running_by w new.nozzles new.points)
      (sold_by w s.sales) (sold_by w new.sales) (drawn_by w s.drawn) (drawn_by w new.drawn)
      moves.growth moves.weight moves.sold moves.drawn (known.conserved q low high) moves.meters
      (ap (λ (v : ℕ). v + moves.weight * (moves.sold + moves.drawn)) after
      ∙ moves.keeps ∙ ap (λ (v : ℕ). v + moves.growth) (sym before))
      moves.sales moves.draws;
  grown = (let so_far = known.grown in
      let here = grown_row c earlier s r known replies in
      let sum = total_push (λ (x : Row). growth_in_reply x.reply) earlier r in
      omega (arith, so_far, here, sum));
}
  where
    new : SiteState
    new = site_after s r.actor r.event

    fuel_then : KnowsFuel c (earlier ++ r ∷ []) new
    fuel_then = fuel_more c earlier s r known.fuel replies

    quiet_then : Quiet [] new.points
    quiet_then = of_row (λ row then_site. Quiet [] then_site.points) s r replies
        (λ refusal. known.quiet) (λ passes. quiet_after s.points (own_event s r.event) known.quiet)

no_nozzle_risen : (c : Configured) → AreRisen (opening_nozzles c)
no_nozzle_risen c p n x is =
    let fresh = fresh_found p n (opening_nozzles c) x (fresh_points c.points) is in
    let same_reading = fresh.began in
    omega (arith, same_reading)

pub volumes_first : (c : Configured) → KnowsVolumes c [] (opening c)
volumes_first c = record {
  fuel = fuel_first c;
  risen = no_nozzle_risen c;
  quiet = quiet_first [] c.points;
  rows = refl;
  conserved = λ q low high.
      let w = product_alone q in
      balanced_first (metered_by w (opening_nozzles c))
      (running_by w (opening_nozzles c) (points_of c.points)) (sold_by w no_sales)
      (drawn_by w (nothing_drawn ∷ []))
      (open_nothing w c.points) (closed_volumes w (opening_nozzles c) c.points)
      (nothing_sold (λ x. w x.product * x.volume)) (nothing_weighs w);
  grown = sym (open_nothing every_product c.points);
}

pub volumes_conserved : OfBooks AreVolumesConserved
volumes_conserved c rows legal =
    let known = kept (KnowsVolumes c) (volumes_more c) [] (opening c) rows
    (volumes_first c) legal in
    let s : SiteState = site_of_rows (opening c) rows in
    record {
      metered = totals_read c rows legal;
      conserved = λ q low high.
          let read = totals_read c rows legal q in
          let all = known.conserved q low (omega (arith, high)) in
          let sold = sold_alone q s.sales in
          let by_status = add_up q s.sales in
          omega (arith, read, all, sold, by_status);
      grown = known.grown;
    }
