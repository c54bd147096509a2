-- What is kept of the nozzles, after a reading and after a replacement.
use Rattle.std.proofs.Common.{◌≡◌, ◌≢◌, ℕ, true, false, cond, ◌==◌, ◌+◌, ◌-◌, ◌*◌, ◌<◌, ◌≤◌, List}
use Rattle.std.proofs.Common.{length, get_or, Option, option_map, Some, inl, inr, refl, sym, ap}
use Rattle.std.proofs.Common.{◌∙◌, arith}
use Rattle.std.proofs.Math.ListN.{set, replicate}
use Rattle.std.proofs.lemmas.Bool.{cases_eq}
use Rattle.std.proofs.lemmas.Bool.Decides.{nat_tests}
use Rattle.std.proofs.lemmas.Grind.{get_or-set_at}
use Rattle.std.proofs.lemmas.List.{get_or-set_other, get_or-replicate}
use Rattle.site_base.specs.declared.limits.TheConstants.{PRODUCT_CELLS}
use Rattle.site_base.specs.declared.amounts.TheConstants.{GREATEST_READING}
use Rattle.meters.specs.declared.meter.TheConstants.{REPLACEMENT_LIMIT}
use Rattle.site_base.specs.declared.config.PointEntry.{PointEntry}
use Rattle.meters.specs.Nozzles.{Nozzle, nozzle_of, nozzles_of_points, with_last, with_meter}
use Rattle.meters.specs.Nozzles.{with_nozzle, read_at, replaced_at, times_replaced, AreNozzles}
use Rattle.meters.specs.MeteredVolumes.{product_total, product_alone, most_of_a_site}
use Rattle.meters.specs.Places.{AreKept, ArePlaces, AreTotals}
use Rattle.meters.proofs.Lookups.{KeepsName, place_in-with_nozzle, length-with_nozzle}
use Rattle.meters.proofs.Bounds.{reads, replaces, total_bound}
use Rattle.meters.proofs.Weights.{read_raises, meter_keeps, open_nothing}

read_keeps_name : (reading : ℕ) → KeepsName (read_at reading)
read_keeps_name reading = record { point = λ x. refl; number = λ x. refl }

meter_keeps_name : (reading : ℕ) → KeepsName (replaced_at reading)
meter_keeps_name reading = record { point = λ x. refl; number = λ x. refl }

places_stay : (p n : ℕ) (change : Nozzle → Nozzle) (xs : List Nozzle) (cells : List (Option ℕ))
    → KeepsName change → ArePlaces xs cells → ArePlaces (with_nozzle p n change xs) cells
places_stay p n change xs cells keeps are q m low high from most =
    are q m low high from most ∙ sym (place_in-with_nozzle p n q m change xs keeps)

its_product : (product k growth : ℕ) → k + 1 ≡ product
    → product_alone (k + 1) product * growth ≡ growth
its_product product k growth is =
    let same : (product == k + 1) ≡ true = grind (arith, nat_tests) in
    ap (λ b. cond b 1 0 * growth) same ∙ omega arith

other_product : (product k growth : ℕ) → k + 1 ≢ product
    → product_alone (k + 1) product * growth ≡ 0
other_product product k growth isnt =
    let other : (product == k + 1) ≡ false = grind (arith, nat_tests) in
    ap (λ b. cond b 1 0 * growth) other ∙ omega arith

-- a reading that isn't below the last one: its growth joins the total of the nozzle's product
module _ (xs : List Nozzle) (cells : List (Option ℕ)) (sums : List ℕ) (p n reading k : ℕ)
    (x : Nozzle) (kept : AreKept xs cells sums) (is : nozzle_of p n xs ≡ Some x)
    (above : x.last ≤ reading) (high : reading ≤ GREATEST_READING) (its : k + 1 ≡ x.product)
    (within : k < length sums) (inside : k < PRODUCT_CELLS) where
  pub nozzles_read : AreNozzles (with_last p n reading xs)
  nozzles_read = record {
    few = omega (arith, length-with_nozzle p n (read_at reading) xs, kept.nozzles.few);
    each = reads xs p n reading x.last kept.nozzles.each (ap (λ o. option_map (λ y. y.last) o) is)
        above high;
  }

  grown : product_total (k + 1) (with_last p n reading xs)
      ≡ get_or sums k 0 + (reading - x.last)
  grown =
      read_raises (product_alone (k + 1)) p n reading x xs kept.nozzles.each is above
      ∙ ap (λ g. product_total (k + 1) xs + g) (its_product x.product k (reading - x.last) its)
      ∙ ap (λ t. t + (reading - x.last)) (sym (kept.totals k inside))

  -- the new total fits
  pub fits : get_or sums k 0 + (reading - x.last) ≤ most_of_a_site
  fits = omega (arith, grown, total_bound (k + 1) (with_last p n reading xs) nozzles_read)

  totals_read : AreTotals (with_last p n reading xs)
      (set sums k (get_or sums k 0 + (reading - x.last)))
  totals_read j product =
      elim (cases_eq j k) [
        | inl same ↦
            get_or-set_at sums k j (get_or sums k 0 + (reading - x.last)) 0 same within
            ∙ sym grown
            ∙ ap (λ i. product_total (i + 1) (with_last p n reading xs)) (sym same)
        | inr other ↦
            get_or-set_other sums k j (get_or sums k 0 + (reading - x.last)) 0 other
            ∙ kept.totals j product
            ∙ sym (read_raises (product_alone (j + 1)) p n reading x xs kept.nozzles.each is above
            ∙ ap (λ g. product_total (j + 1) xs + g)
            (other_product x.product j (reading - x.last) (omega arith))
            ∙ omega arith)
      ]

  pub kept_read : AreKept (with_last p n reading xs) cells
      (set sums k (get_or sums k 0 + (reading - x.last)))
  kept_read = record {
    nozzles = nozzles_read;
    places = places_stay p n (read_at reading) xs cells (read_keeps_name reading) kept.places;
    totals = totals_read;
  }

-- a replacement changes no place and no total
pub kept_replaced : (xs : List Nozzle) (cells : List (Option ℕ)) (sums : List ℕ) (p n reading : ℕ)
    → AreKept xs cells sums → times_replaced p n xs < REPLACEMENT_LIMIT → reading ≤ GREATEST_READING
    → AreKept (with_meter p n reading xs) cells sums
kept_replaced xs cells sums p n reading kept fewer high = record {
  nozzles = record {
    few = omega (arith, length-with_nozzle p n (replaced_at reading) xs, kept.nozzles.few);
    each = replaces xs p n reading kept.nozzles.each fewer high;
  };
  places = places_stay p n (replaced_at reading) xs cells (meter_keeps_name reading) kept.places;
  totals = λ k product. kept.totals k product
      ∙ sym (meter_keeps (product_alone (k + 1)) p n reading xs);
}

-- a site that opens has metered nothing
pub kept_opened : (points : List PointEntry) (xs : List Nozzle) (cells : List (Option ℕ))
    → xs ≡ nozzles_of_points points → AreNozzles xs → ArePlaces xs cells
    → AreKept xs cells (replicate PRODUCT_CELLS 0)
kept_opened points xs cells are nozzles places = record {
  nozzles = nozzles;
  places = places;
  totals = λ k product. get_or-replicate PRODUCT_CELLS k 0 0 product
      ∙ sym (ap (product_total (k + 1)) are ∙ open_nothing (product_alone (k + 1)) points);
}
