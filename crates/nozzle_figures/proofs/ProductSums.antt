-- The nozzles of a product add up to the product.
use Rattle.std.proofs.Common.{◌≡◌, ◌⊎◌, inl, inr, ℕ, ◌+◌, ◌*◌, ◌==◌, ◌&&◌, ◌||◌, not, Bool, true}
use Rattle.std.proofs.Common.{false, List, [], ◌∷◌, Option, Some, None, refl, ap, sym, subst, ◌∙◌}
use Rattle.std.proofs.Common.{arith, unwrap_or}
use Rattle.std.specs.Prelude.{if◌then◌else◌, is_none, is_some, option_map}
use Rattle.std.proofs.Math.Nat.{mul-zero}
use Rattle.std.proofs.lemmas.Bool.{and_parts}
use Rattle.site_base.specs.declared.event.Event.{Event}
use Rattle.site_base.specs.declared.event.Event.TheVariants.{Flow, HangUp}
use Rattle.site_base.specs.declared.refusal.Refusal.{Refusal}
use Rattle.site_base.specs.declared.row.Row.{Row}
use Rattle.site_base.specs.declared.state.PointState.TheVariants.{Closed}
use Rattle.site_base.specs.Configured.{Configured}
use Rattle.fuelling_point.specs.declared.event.PointEvent.{PointEvent}
use Rattle.fuelling_point.specs.declared.event.PointEvent.TheVariants as points
use Rattle.fuelling_point.specs.declared.step.PointStep.{PointStep}
use Rattle.fuelling_point.specs.declared.step.PointStep.TheVariants.{Sold, Drawn}
use Rattle.fuelling_point.specs.KeptPoints.{Facts, empty_point}
use Rattle.fuelling_point.specs.Laws.{drawn_in, sold_in}
use Rattle.fuelling_point.specs.Step.{step_of}
use Rattle.meters.specs.MeteredVolumes.{product_alone, product_total}
use Rattle.meters.specs.Nozzles.{Nozzle, has_nozzle, is_nozzle, nozzle_of, opening_nozzles}
use Rattle.meters.specs.Nozzles.{product_of}
use Rattle.meters.proofs.Weights.{open_nothing}
use Rattle.transaction_buffer.proofs.OnShelves.{nothing_sold}
use Rattle.written_site.specs.MeteredRows.{is_among}
use Rattle.written_site.specs.MeterLaws.{is_its}
use Rattle.written_site.specs.SiteChecks.{first_refusal, flow_since, own_event}
use Rattle.written_site.specs.SiteRun.{events_of, site_of_rows}
use Rattle.written_site.specs.SiteState.{SiteState, facts_of, opening}
use Rattle.site_base.specs.Checks.{value_or}
use Rattle.written_site.specs.SiteStep.{accepted_site, site_after, step_by}
use Rattle.written_site.specs.Sound.{InRange, Sound}
use Rattle.written_site.specs.SoundRuns.{AreInRange}
use Rattle.written_site.specs.SoundSteps.{IsTaken, drawn_at, growth_at, growth_by, product_at}
use Rattle.written_site.specs.SoundSteps.{product_by, sold_at}
use Rattle.written_site.specs.Volumes.{drawn_by, nozzle_out, running_at, sold_by}
use Rattle.written_site.proofs.PassedChecks.{passed}
use Rattle.written_site.proofs.PointAfter.{opens_closed}
use Rattle.written_site.proofs.Sound.{sound_after, taken_when_passed}
use Rattle.written_site.proofs.SoundMachine.{drawn_from, sold_from}
use Rattle.written_site.proofs.SoundMeters.{product_after, some_of}
use Rattle.written_site.proofs.SoundOpening.{nothing_weighs, opening_sound}
use Rattle.written_site.proofs.SoundReports.{flow_is_out, flow_nozzle, hung_up_is_out}
use Rattle.written_site.proofs.SoundReports.{hung_up_nozzle}
use Rattle.written_site.proofs.SoundSold.{own_point}
use Rattle.written_site.proofs.SoundSums.{adds_up}
use Rattle.written_site.proofs.SoundTables.{same, turned}
use Rattle.written_site.proofs.SoundVolumes.{moves_volumes, nozzle_there}
use Rattle.nozzle_figures.specs.NozzleMoves.{by_nozzle, drawing, flowing, of_accepted}
use Rattle.nozzle_figures.specs.NozzleMoves.{running_by_nozzle, selling, sum_over}
use Rattle.nozzle_figures.specs.ProductSums.{EachProductAddsUp, product_sum}
use Rattle.nozzle_figures.specs.ProductSums.{sum_of_product}
use Rattle.nozzle_figures.proofs.NozzleMoves.{none_of, nothing_by, reported, volumes_over}

-- ---- sums

sum_alike : (q : ℕ) (a b : ℕ → ℕ → ℕ) → ((p n : ℕ) → a p n ≡ b p n) → (seen xs : List Nozzle)
    → sum_of_product q a seen xs ≡ sum_of_product q b seen xs
sum_alike q a b alike seen [] = refl
sum_alike q a b alike seen (x ∷ xs) =
    ap (λ (v : ℕ). (if x.product == q && not (is_among seen x.point x.number) then v else 0)
    + sum_of_product q a (x ∷ seen) xs) (alike x.point x.number)
    ∙ ap (λ (v : ℕ). (if x.product == q && not (is_among seen x.point x.number)
    then b x.point x.number else 0) + v) (sum_alike q a b alike (x ∷ seen) xs)

both : (t : Bool) (a b : ℕ) → (if t then a + b else 0) ≡ (if t then a else 0) + (if t then b else 0)
both true a b = refl
both false a b = refl

sum_both : (q : ℕ) (a b : ℕ → ℕ → ℕ) (seen xs : List Nozzle)
    → sum_of_product q (λ p n. a p n + b p n) seen xs
    ≡ sum_of_product q a seen xs + sum_of_product q b seen xs
sum_both q a b seen [] = refl
sum_both q a b seen (x ∷ xs) =
    omega (
      arith,
      both (x.product == q && not (is_among seen x.point x.number)) (a x.point x.number)
          (b x.point x.number),
      sum_both q a b (x ∷ seen) xs,
    )

sum_none : (q : ℕ) (seen xs : List Nozzle) → sum_of_product q (λ p n. 0) seen xs ≡ 0
sum_none q seen [] = refl
sum_none q seen (x ∷ xs) =
    omega (
      arith,
      none_of (x.product == q && not (is_among seen x.point x.number)),
      sum_none q (x ∷ seen) xs,
    )

-- ---- a figure of one nozzle

-- it counts if that nozzle delivers the product
abbrev at_first : ℕ → ℕ → Option Nozzle → ℕ
at_first q v None = 0
at_first q v (Some x) = if x.product == q then v else 0

names_turned : (p m : ℕ) (x : Nozzle) → is_its x.point x.number p m ≡ is_nozzle p m x
names_turned p m x =
    ap (λ (b : Bool). b && m == x.number) (turned p x.point)
    ∙ ap (λ (b : Bool). x.point == p && b) (turned m x.number)

alone_sum : (q p m v : ℕ) (seen xs : List Nozzle)
    → sum_of_product q (λ a b. if is_its a b p m then v else 0) seen xs
    ≡ (if is_among seen p m then 0 else at_first q v (nozzle_of p m xs))
alone_sum q p m v seen [] = sym (none_of (is_among seen p m))
alone_sum q p m v seen (x ∷ xs) =
    by_test (is_nozzle p m x) refl (alone_sum q p m v (x ∷ seen) xs)
  where
    rest : ℕ
    rest = sum_of_product q (λ a b. if is_its a b p m then v else 0) (x ∷ seen) xs

    first : (product among : Bool)
        → (if product && not among then v else 0) + 0
        ≡ (if among then 0 else (if product then v else 0))
    first true true = refl
    first true false = omega arith
    first false true = refl
    first false false = refl

    by_test : (b : Bool) → is_nozzle p m x ≡ b
        → rest ≡ (if is_among (x ∷ seen) p m then 0 else at_first q v (nozzle_of p m xs))
        → (if x.product == q && not (is_among seen x.point x.number)
        then (if is_its x.point x.number p m then v else 0) else 0) + rest
        ≡ (if is_among seen p m then 0 else at_first q v (nozzle_of p m (x ∷ xs)))
    by_test true is behind =
        let names = and_parts (x.point == p) (x.number == m) is in
        let among : is_among seen x.point x.number ≡ is_among seen p m =
        ap (λ (r : ℕ). is_among seen r x.number) (same x.point p names.0)
        ∙ ap (λ (r : ℕ). is_among seen p r) (same x.number m names.1) in
        let none : rest ≡ 0 =
        behind
        ∙ ap (λ (b : Bool). if b || is_among seen p m then 0
        else at_first q v (nozzle_of p m xs)) is in
        ap (λ (b : Bool). (if x.product == q && not b
        then (if is_its x.point x.number p m then v else 0) else 0) + rest) among
        ∙ ap (λ (b : Bool). (if x.product == q && not (is_among seen p m)
        then (if b then v else 0) else 0) + rest) (names_turned p m x ∙ is)
        ∙ ap (λ (k : ℕ). (if x.product == q && not (is_among seen p m) then v else 0) + k) none
        ∙ first (x.product == q) (is_among seen p m)
        ∙ ap (λ (b : Bool). if is_among seen p m then 0
        else at_first q v (if b then Some x else nozzle_of p m xs)) (sym is)
    by_test false is behind =
        let here : (if x.product == q && not (is_among seen x.point x.number)
        then (if is_its x.point x.number p m then v else 0) else 0) ≡ 0 =
        ap (λ (b : Bool). if x.product == q && not (is_among seen x.point x.number)
        then (if b then v else 0) else 0) (names_turned p m x ∙ is)
        ∙ none_of (x.product == q && not (is_among seen x.point x.number)) in
        let later : rest
        ≡ (if is_among seen p m then 0 else at_first q v (nozzle_of p m (x ∷ xs))) =
        behind
        ∙ ap (λ (b : Bool). if b || is_among seen p m then 0
        else at_first q v (nozzle_of p m xs)) is
        ∙ ap (λ (b : Bool). if is_among seen p m then 0
        else at_first q v (if b then Some x else nozzle_of p m xs)) (sym is) in
        omega (arith, here, later)

-- ---- an event

-- the nozzle that is out at the event's point is there
abbrev has_out : SiteState → Option (ℕ × PointEvent) → Bool
has_out s None = true
has_out s (Some x) = has_nozzle x.0 (nozzle_out (facts_of s x.0)) s.nozzles

flows_there : (s : SiteState) (e : Event) → Sound s → IsTaken s e
    → (has_out s (own_event s e) ≡ true) ⊎ (growth_at s e ≡ 0)
flows_there s (Flow p n reading) sound taken =
    let own = own_point s (Flow p n reading) p (points.Flow n (flow_since s p n reading)) sound taken
    refl in
    inl (ap (λ (m : ℕ). has_nozzle p m s.nozzles)
    (flow_is_out n (flow_since s p n reading) (facts_of s p) own.sound.whole own.taken)
    ∙ flow_nozzle s p n reading taken.names)
flows_there s (HangUp p n reading) sound taken =
    let own = own_point s (HangUp p n reading) p (points.HangUp n (flow_since s p n reading)) sound
    taken refl in
    inl (ap (λ (m : ℕ). has_nozzle p m s.nozzles)
    (hung_up_is_out n (flow_since s p n reading) (facts_of s p) own.sound.whole own.taken)
    ∙ hung_up_nozzle s p n reading taken.names)
flows_there s e sound taken = inr refl

sells_there : (s : SiteState) (e : Event) → Sound s → IsTaken s e
    → (has_out s (own_event s e) ≡ true) ⊎ (sold_at s e ≡ 0)
sells_there s e sound taken = by_own (own_event s e) refl
  where
    by_own : (own : Option (ℕ × PointEvent)) → own_event s e ≡ own
        → (has_out s own ≡ true) ⊎ (sold_in (step_by s own) ≡ 0)
    by_own None is = inl refl
    by_own (Some x) is = by_step (step_of x.1 (facts_of s x.0)) refl
      where
        by_step : (step : PointStep) → step_of x.1 (facts_of s x.0) ≡ step
            → (has_out s (Some x) ≡ true) ⊎ (sold_in step ≡ 0)
        by_step (Sold nozzle volume price prepaid) sold =
            let at = own_point s e x.0 x.1 sound taken is in
            let from = sold_from x.1 (facts_of s x.0) nozzle volume price prepaid at.sound.whole
            at.taken sold in
            inl (nozzle_there s x.0 (facts_of s x.0) at.sound from.was)
        by_step step other = inr refl

draws_there : (s : SiteState) (e : Event) → Sound s → IsTaken s e
    → (has_out s (own_event s e) ≡ true) ⊎ (drawn_at s e ≡ 0)
draws_there s e sound taken = by_own (own_event s e) refl
  where
    by_own : (own : Option (ℕ × PointEvent)) → own_event s e ≡ own
        → (has_out s own ≡ true) ⊎ (drawn_in (step_by s own) ≡ 0)
    by_own None is = inl refl
    by_own (Some x) is = by_step (step_of x.1 (facts_of s x.0)) refl
      where
        by_step : (step : PointStep) → step_of x.1 (facts_of s x.0) ≡ step
            → (has_out s (Some x) ≡ true) ⊎ (drawn_in step ≡ 0)
        by_step (Drawn nozzle volume) drawn =
            let at = own_point s e x.0 x.1 sound taken is in
            let from = drawn_from x.1 (facts_of s x.0) nozzle volume at.sound.whole at.taken
            drawn in
            inl (nozzle_there s x.0 (facts_of s x.0) at.sound from.was)
        by_step step other = inr refl

-- these nozzles have the names and products of the site's
abbrev AreItsNozzles : SiteState → List Nozzle → Type 0
AreItsNozzles s xs = (p n : ℕ) → product_of p n xs ≡ product_of p n s.nozzles

weighs : (b : Bool) (v : ℕ) → (if b then v else 0) ≡ (if b then 1 else 0) * v
weighs true v = omega arith
weighs false v = omega arith

first_weighs : (q v : ℕ) (o : Option Nozzle) (product : Option ℕ)
    → option_map (λ (x : Nozzle). x.product) o ≡ product → is_some product ≡ true
    → at_first q v o ≡ product_alone q (unwrap_or product 0) * v
first_weighs q v None product is some = absurd (cc)
first_weighs q v (Some x) product is some =
    weighs (x.product == q) v
    ∙ ap (λ (o : Option ℕ). product_alone q (unwrap_or o 0) * v) is

event_sum : (q v : ℕ) (xs : List Nozzle) (s : SiteState) (e : Event) → AreItsNozzles s xs
    → (own_event s e ≡ None → v ≡ 0) → (has_out s (own_event s e) ≡ true) ⊎ (v ≡ 0)
    → sum_of_product q (λ p n. by_nozzle p n s e v) [] xs ≡ product_alone q (product_at s e) * v
event_sum q v xs s e its still there = by_kind there
  where
    nothing : v ≡ 0
        → sum_of_product q (λ p n. by_nozzle p n s e v) [] xs
        ≡ product_alone q (product_at s e) * v
    nothing none =
        sum_alike q (λ p n. by_nozzle p n s e v) (λ p n. 0)
        (λ p n. ap (by_nozzle p n s e) none ∙ nothing_by p n s e) [] xs
        ∙ sum_none q [] xs
        ∙ sym (ap (λ (k : ℕ). product_alone q (product_at s e) * k) none
        ∙ mul-zero (product_alone q (product_at s e)))

    own_sum : (x : ℕ × PointEvent) → own_event s e ≡ Some x → has_out s (Some x) ≡ true
        → sum_of_product q (λ p n. by_nozzle p n s e v) [] xs
        ≡ product_alone q (product_at s e) * v
    own_sum x own has =
        let m = nozzle_out (facts_of s x.0) in
        let product = product_of x.0 m s.nozzles in
        sum_alike q (λ p n. by_nozzle p n s e v) (λ p n. if is_its p n x.0 m then v else 0)
        (λ p n. reported p n x.0 m s e x.1 v own refl) [] xs
        ∙ alone_sum q x.0 m v [] xs
        ∙ first_weighs q v (nozzle_of x.0 m xs) product (its x.0 m)
        (some_of (λ (y : Nozzle). y.product) (nozzle_of x.0 m s.nozzles) ∙ has)
        ∙ ap (λ (o : Option (ℕ × PointEvent)). product_alone q (product_by s o) * v) (sym own)

    by_kind : (has_out s (own_event s e) ≡ true) ⊎ (v ≡ 0)
        → sum_of_product q (λ p n. by_nozzle p n s e v) [] xs
        ≡ product_alone q (product_at s e) * v
    by_kind (inr none) = nothing none
    by_kind (inl has) = by_own (own_event s e) refl has
      where
        by_own : (own : Option (ℕ × PointEvent)) → own_event s e ≡ own → has_out s own ≡ true
            → sum_of_product q (λ p n. by_nozzle p n s e v) [] xs
            ≡ product_alone q (product_at s e) * v
        by_own None is has = nothing (still is)
        by_own (Some x) is has = own_sum x is has

-- ---- a row

-- the figures of a product, once a row has come
record Adds (q : ℕ) (xs : List Nozzle) (s : SiteState) (r : Row) (later : SiteState)
    : Type 0 where
  pub metered : product_total q later.nozzles
      ≡ product_total q s.nozzles
      + sum_of_product q (λ p n. of_accepted (flowing p n) s r) [] xs
  pub sold : sold_by (product_alone q) later.sales
      ≡ sold_by (product_alone q) s.sales
      + sum_of_product q (λ p n. of_accepted (selling p n) s r) [] xs
  pub drawn : drawn_by (product_alone q) later.drawn
      ≡ drawn_by (product_alone q) s.drawn
      + sum_of_product q (λ p n. of_accepted (drawing p n) s r) [] xs
  pub its : AreItsNozzles later xs

-- a row's figure is its event's, if it was accepted
figure_of : (figure : SiteState → Event → ℕ) (s : SiteState) (r : Row) (o : Option Refusal)
    → first_refusal s r.actor r.event ≡ o
    → of_accepted figure s r ≡ (if is_none o then figure s r.event else 0)
figure_of figure s r o is =
    ap (λ (x : Option Refusal). if is_none x then figure s r.event else 0) is

refused_sum : (q : ℕ) (figure : ℕ → ℕ → SiteState → Event → ℕ) (xs : List Nozzle)
    (s : SiteState) (r : Row) (refusal : Refusal)
    → first_refusal s r.actor r.event ≡ Some refusal
    → sum_of_product q (λ p n. of_accepted (figure p n) s r) [] xs ≡ 0
refused_sum q figure xs s r refusal is =
    sum_alike q (λ p n. of_accepted (figure p n) s r) (λ p n. 0)
    (λ p n. figure_of (figure p n) s r (Some refusal) is) [] xs
    ∙ sum_none q [] xs

accepted_sum : (q : ℕ) (figure : ℕ → ℕ → SiteState → Event → ℕ) (xs : List Nozzle)
    (s : SiteState) (r : Row) → first_refusal s r.actor r.event ≡ None
    → sum_of_product q (λ p n. of_accepted (figure p n) s r) [] xs
    ≡ sum_of_product q (λ p n. figure p n s r.event) [] xs
accepted_sum q figure xs s r is =
    sum_alike q (λ p n. of_accepted (figure p n) s r) (λ p n. figure p n s r.event)
    (λ p n. figure_of (figure p n) s r None is) [] xs

row_adds : (q : ℕ) (xs : List Nozzle) (s : SiteState) (r : Row) → Sound s → InRange r.event
    → AreItsNozzles s xs → Adds q xs s r (site_after s r.actor r.event)
row_adds q xs s r sound range its = by_refusal (first_refusal s r.actor r.event) refl
  where
    e : Event
    e = r.event

    by_refusal : (o : Option Refusal) → first_refusal s r.actor r.event ≡ o
        → Adds q xs s r (site_after s r.actor r.event)
    by_refusal (Some refusal) is =
        let same_site : site_after s r.actor r.event ≡ s =
        ap (λ (o : Option Refusal). value_or o (accepted_site s r.actor e) s) is in
        subst (Adds q xs s r) (sym same_site) (record {
          metered = omega (arith, refused_sum q flowing xs s r refusal is);
          sold = omega (arith, refused_sum q selling xs s r refusal is);
          drawn = omega (arith, refused_sum q drawing xs s r refusal is);
          its = its;
        })
    by_refusal None is =
        let passes = passed s r.actor e is in
        let taken = taken_when_passed s r.actor e range passes in
        let moves = moves_volumes (product_alone q) s r.actor e sound taken in
        let same_site : site_after s r.actor r.event ≡ accepted_site s r.actor e =
        ap (λ (o : Option Refusal). value_or o (accepted_site s r.actor e) s) is in
        subst (Adds q xs s r) (sym same_site) (record {
          metered = omega (
            arith,
            moves.metered,
            accepted_sum q flowing xs s r is,
            event_sum q (growth_at s e) xs s e its (λ none. ap growth_by none)
                (flows_there s e sound taken),
          );
          sold = omega (
            arith,
            moves.sold,
            accepted_sum q selling xs s r is,
            event_sum q (sold_at s e) xs s e its
                (λ none. ap (λ (o : Option (ℕ × PointEvent)). sold_in (step_by s o)) none)
                (sells_there s e sound taken),
          );
          drawn = omega (
            arith,
            moves.drawn,
            accepted_sum q drawing xs s r is,
            event_sum q (drawn_at s e) xs s e its
                (λ none. ap (λ (o : Option (ℕ × PointEvent)). drawn_in (step_by s o)) none)
                (draws_there s e sound taken),
          );
          its = λ p n. its p n ∙ sym (product_after s e p n);
        })

-- ---- rows

record AddAll (q : ℕ) (xs : List Nozzle) (s : SiteState) (rows : List Row) : Type 0 where
  pub metered : product_total q (site_of_rows s rows).nozzles
      ≡ product_total q s.nozzles
      + sum_of_product q (λ p n. sum_over (flowing p n) s rows) [] xs
  pub sold : sold_by (product_alone q) (site_of_rows s rows).sales
      ≡ sold_by (product_alone q) s.sales
      + sum_of_product q (λ p n. sum_over (selling p n) s rows) [] xs
  pub drawn : drawn_by (product_alone q) (site_of_rows s rows).drawn
      ≡ drawn_by (product_alone q) s.drawn
      + sum_of_product q (λ p n. sum_over (drawing p n) s rows) [] xs
  pub sound : Sound (site_of_rows s rows)

all_add : (q : ℕ) (xs : List Nozzle) (s : SiteState) (rows : List Row) → Sound s
    → AreInRange (events_of rows) → AreItsNozzles s xs → AddAll q xs s rows
all_add q xs s [] sound range its = record {
  metered = omega (arith, sum_none q [] xs);
  sold = omega (arith, sum_none q [] xs);
  drawn = omega (arith, sum_none q [] xs);
  sound = sound;
}
all_add q xs s (r ∷ rows) sound range its =
    let later = site_after s r.actor r.event in
    let one = row_adds q xs s r sound range.0 its in
    let rest = all_add q xs later rows (sound_after s r.actor r.event range.0 sound) range.1
    one.its in
    record {
      metered = omega (
        arith,
        one.metered,
        rest.metered,
        sum_both q (λ p n. of_accepted (flowing p n) s r)
            (λ p n. sum_over (flowing p n) later rows) [] xs,
      );
      sold = omega (
        arith,
        one.sold,
        rest.sold,
        sum_both q (λ p n. of_accepted (selling p n) s r)
            (λ p n. sum_over (selling p n) later rows) [] xs,
      );
      drawn = omega (
        arith,
        one.drawn,
        rest.drawn,
        sum_both q (λ p n. of_accepted (drawing p n) s r)
            (λ p n. sum_over (drawing p n) later rows) [] xs,
      );
      sound = rest.sound;
    }

-- ---- from the opening on

-- no fuelling is under way then
opens_still : (c : Configured) (p n : ℕ) → running_by_nozzle p n (opening c) ≡ 0
opens_still c p n =
    ap (λ (f : Facts). if nozzle_out f == n then running_at (opening_nozzles c) p f else 0)
    (opens_closed c p) ∙ none_of (nozzle_out (empty_point Closed) == n)

-- what is running, nozzle by nozzle
running_sum : (c : Configured) (rows : List Row) (q : ℕ) → Sound (opening c)
    → AreInRange (events_of rows)
    → product_sum c q (λ p n. sum_over (flowing p n) (opening c) rows)
    ≡ product_sum c q (λ p n. sum_over (selling p n) (opening c) rows)
    + product_sum c q (λ p n. sum_over (drawing p n) (opening c) rows)
    + product_sum c q (λ p n. running_by_nozzle p n (site_of_rows (opening c) rows))
running_sum c rows q sound range =
    let s = opening c in
    let xs = opening_nozzles c in
    let flows : ℕ → ℕ → ℕ = λ p n. sum_over (flowing p n) s rows in
    let sells : ℕ → ℕ → ℕ = λ p n. sum_over (selling p n) s rows in
    let draws : ℕ → ℕ → ℕ = λ p n. sum_over (drawing p n) s rows in
    let runs : ℕ → ℕ → ℕ = λ p n. running_by_nozzle p n (site_of_rows s rows) in
    sum_alike q flows (λ p n. sells p n + draws p n + runs p n)
    (λ p n. omega (arith, volumes_over p n s rows sound range, opens_still c p n)) [] xs
    ∙ sum_both q (λ p n. sells p n + draws p n) runs [] xs
    ∙ ap (λ (v : ℕ). v + sum_of_product q runs [] xs) (sum_both q sells draws [] xs)

pub each_product_adds_up : EachProductAddsUp
each_product_adds_up = λ c rows q fit range.
    let sound = opening_sound c fit in
    let xs = opening_nozzles c in
    let w = product_alone q in
    let all = all_add q xs (opening c) rows sound range (λ p n. refl) in
    let later = site_of_rows (opening c) rows in
    let up = adds_up later q all.sound in
    let conserved = all.sound.conserved w in
    let runs = running_sum c rows q sound range in
    let metered = open_nothing w c.points in
    let sold = nothing_sold (λ x. w x.product * x.volume) in
    let drawn = nothing_weighs w in
    record {
      metered = omega (arith, all.metered, metered);
      sold = omega (arith, all.sold, sold, up.whole, conserved);
      drawn = omega (arith, all.drawn, drawn);
      running = omega (
        arith,
        runs,
        all.metered,
        metered,
        all.sold,
        sold,
        all.drawn,
        drawn,
        conserved,
      );
    }
