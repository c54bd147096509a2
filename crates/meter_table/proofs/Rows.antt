-- Figures over rows, with one row more.
use Rattle.std.proofs.Common.{◌≡◌, ℕ, ◌+◌, ◌-◌, ◌^◌, List, [], ◌∷◌, ◌++◌, length, min}
use Rattle.std.proofs.Common.{Option, Some, None, refl, ap, sym, ◌∙◌, arith}
use Rattle.std.specs.List.{cons_option}
use Rattle.std.proofs.lemmas.Grind.{common_steps}
use Rattle.site_base.specs.declared.event.Event.{Event}
use Rattle.site_base.specs.declared.row.Row.{Row}
use Rattle.meters.specs.Nozzles.{Nozzle, reading_of}
use Rattle.written_site.specs.SiteRun.{site_of_rows}
use Rattle.written_site.specs.SiteState.{SiteState}
use Rattle.written_site.specs.SiteStep.{site_after}
use Rattle.written_site.proofs.Histories.{site_of_rows-push}
use Rattle.nozzle_figures.specs.NozzleMoves.{drawing, falling, flowing, of_accepted, rising}
use Rattle.nozzle_figures.specs.NozzleMoves.{running_by_nozzle, selling, sum_over}
use Rattle.meter_table.specs.declared.figures.NozzleFigures.{NozzleFigures}
use Rattle.meter_table.specs.Counting.{with_row}
use Rattle.meter_table.specs.Figures.{count_of, figures_of}
use Rattle.meter_table.specs.Figures.{greatest, higher, refused_reading, refused_readings}
use Rattle.meter_table.specs.Figures.{replacing}

pub sum_over-next : (f : SiteState → Event → ℕ) (s : SiteState) (rows : List Row) (r : Row)
    → sum_over f s (rows ++ r ∷ [])
    ≡ sum_over f s rows + of_accepted f (site_of_rows s rows) r
sum_over-next f s [] r = omega arith
sum_over-next f s (x ∷ rows) r =
    let rest = sum_over-next f (site_after s x.actor x.event) rows r in
    omega (arith, rest)

cons_joined : (o : Option ℕ) (xs ys : List ℕ) → cons_option o (xs ++ ys) ≡ cons_option o xs ++ ys
cons_joined None xs ys = refl
cons_joined (Some x) xs ys = refl

pub refused_readings-next : (p n : ℕ) (s : SiteState) (rows : List Row) (r : Row)
    → refused_readings p n s (rows ++ r ∷ [])
    ≡ refused_readings p n s rows
    ++ cons_option (refused_reading p n (site_of_rows s rows) r) []
refused_readings-next p n s [] r = refl
refused_readings-next p n s (x ∷ rows) r =
    ap (cons_option (refused_reading p n s x))
    (refused_readings-next p n (site_after s x.actor x.event) rows r)
    ∙ cons_joined (refused_reading p n s x)
    (refused_readings p n (site_after s x.actor x.event) rows)
    (cons_option (refused_reading p n (site_of_rows (site_after s x.actor x.event) rows) r) [])

pub greatest-append : (before : Option ℕ) (xs ys : List ℕ)
    → greatest before (xs ++ ys) ≡ greatest (greatest before xs) ys
greatest-append before [] ys = refl
greatest-append before (x ∷ xs) ys = greatest-append (Some (higher before x)) xs ys

least_of_sum : (a b most : ℕ) → min (a + b) most ≡ min (min a most + b) most
least_of_sum a b most = omega arith

pub count_of-append : (xs ys : List ℕ)
    → count_of (xs ++ ys) ≡ min (count_of xs + length ys) (2 ^ 64 - 1)
count_of-append xs ys =
    let long : length (xs ++ ys) ≡ length xs + length ys = grind (arith, common_steps) in
    ap (λ (k : ℕ). min k (2 ^ 64 - 1)) long
    ∙ least_of_sum (length xs) (length ys) (2 ^ 64 - 1)

-- figures of a nozzle, made of each
made : Nozzle → ℕ → ℕ → ℕ → ℕ → ℕ → ℕ → ℕ → ℕ → ℕ → ℕ → Option ℕ → NozzleFigures
made x opening closing metered sold drawn running replaced raised lowered refused highest = record {
  point = x.point;
  nozzle = x.number;
  product = x.product;
  opening = opening;
  closing = closing;
  metered = metered;
  sold = sold;
  drawn = drawn;
  running = running;
  replaced = replaced;
  raised = raised;
  lowered = lowered;
  refused = refused;
  highest = highest;
}

same_made : (x : Nozzle) (a b b' c c' d d' e e' f f' g g' h h' i i' j j' : ℕ) (k k' : Option ℕ)
    → b ≡ b' → c ≡ c' → d ≡ d' → e ≡ e' → f ≡ f' → g ≡ g' → h ≡ h' → i ≡ i' → j ≡ j' → k ≡ k'
    → made x a b c d e f g h i j k ≡ made x a b' c' d' e' f' g' h' i' j' k'
unfolding made
same_made x a b b' c c' d d' e e' f f' g g' h h' i i' j j' k k' p q r s t u v w y z = cc

-- the figures with one row more are those of the rows with it
pub figures_next : (s : SiteState) (rows : List Row) (r : Row) (x : Nozzle)
    → with_row (site_of_rows s rows) r (figures_of s rows x) ≡ figures_of s (rows ++ r ∷ []) x
unfolding made
figures_next s rows r x =
    let p = x.point in
    let n = x.number in
    let here = site_of_rows s rows in
    let later = site_after here r.actor r.event in
    let leads : later ≡ site_of_rows s (rows ++ r ∷ []) = sym (site_of_rows-push s rows r) in
    let over : (f : SiteState → Event → ℕ)
    → sum_over f s rows + of_accepted f here r ≡ sum_over f s (rows ++ r ∷ []) =
    λ f. sym (sum_over-next f s rows r) in
    let refusals = sym (refused_readings-next p n s rows r) in
    let more = cons_option (refused_reading p n here r) [] in
    same_made x (reading_of p n s.nozzles)
    (reading_of p n later.nozzles) (reading_of p n (site_of_rows s (rows ++ r ∷ [])).nozzles)
    _ _ _ _ _ _ _ _ _ _ _ _ _ _ _ _ _ _
    (ap (λ (t : SiteState). reading_of p n t.nozzles) leads)
    (over (flowing p n)) (over (selling p n)) (over (drawing p n))
    (ap (λ (t : SiteState). running_by_nozzle p n t) leads)
    (over (replacing p n)) (over (rising p n)) (over (falling p n))
    (sym (count_of-append (refused_readings p n s rows) more) ∙ ap count_of refusals)
    (sym (greatest-append None (refused_readings p n s rows) more) ∙ ap (greatest None) refusals)
