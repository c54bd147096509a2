-- Each nozzle stays within its bounds, so that a site can meter only so much.
use Rattle.std.proofs.Common.{◌≡◌, ℕ, Bool, true, false, cond, ◌*◌, ◌<◌, ◌≤◌, List, [], ◌∷◌, ◌++◌}
use Rattle.std.proofs.Common.{length, Some, refl, sym, ap, subst, ◌∙◌, ◌==◌, arith}
use Rattle.meters.specs.declared.meter.TheConstants.{REPLACEMENT_LIMIT}
use Rattle.site_base.specs.declared.amounts.TheConstants.{GREATEST_READING}
use Rattle.meters.specs.Nozzles.{Nozzle, is_nozzle, nozzle_of, last_of, times_replaced, with_nozzle}
use Rattle.meters.specs.Nozzles.{with_last, with_meter, read_at, replaced_at, IsMetered}
use Rattle.meters.specs.Nozzles.{EachMetered, AreNozzles}
use Rattle.meters.specs.MeteredVolumes.{volume_metered, most_of_a_nozzle, most_of_a_site}
use Rattle.meters.specs.MeteredVolumes.{product_total}
use Rattle.meters.specs.MeteredVolumes.{metered_by, every_product}
use Rattle.meters.specs.Laws.{StaysWithinBounds, TotalsAreMetered}
use Rattle.meters.proofs.Lookups.{told, times_is}

-- ---- each nozzle

pub each_found : (p n : ℕ) (xs : List Nozzle) (x : Nozzle) → EachMetered xs
    → nozzle_of p n xs ≡ Some x → IsMetered x
each_found p n [] x each is = cc
each_found p n (y ∷ ys) x each is = by_test (is_nozzle p n y) refl (each_found p n ys x each.1)
  where
    by_test : (b : Bool) → is_nozzle p n y ≡ b
        → (nozzle_of p n ys ≡ Some x → IsMetered x) → IsMetered x
    by_test true at behind =
        let first : nozzle_of p n (y ∷ ys) ≡ Some y = rw at refl in
        let same : y ≡ x = (let both : Some y ≡ Some x = sym first ∙ is in cc) in
        subst IsMetered same each.0
    by_test false at behind =
        let later : nozzle_of p n (y ∷ ys) ≡ nozzle_of p n ys = rw at refl in
        behind (sym later ∙ is)

pub each_changed : (p n : ℕ) (change : Nozzle → Nozzle) (xs : List Nozzle) → EachMetered xs
    → ((x : Nozzle) → nozzle_of p n xs ≡ Some x → IsMetered x → IsMetered (change x))
    → EachMetered (with_nozzle p n change xs)
each_changed p n change [] each stays = tt
each_changed p n change (y ∷ ys) each stays =
    by_test (is_nozzle p n y) refl (each_changed p n change ys each.1)
  where
    by_test : (b : Bool) → is_nozzle p n y ≡ b
        → (((x : Nozzle) → nozzle_of p n ys ≡ Some x → IsMetered x → IsMetered (change x))
        → EachMetered (with_nozzle p n change ys))
        → EachMetered (with_nozzle p n change (y ∷ ys))
    by_test true at behind =
        let first : nozzle_of p n (y ∷ ys) ≡ Some y = rw at refl in
        rw at (stays y first each.0, each.1)
    by_test false at behind =
        let later : nozzle_of p n (y ∷ ys) ≡ nozzle_of p n ys = rw at refl in
        rw at (each.0, behind (λ x is. stays x (later ∙ is)))

pub each_joined : (xs ys : List Nozzle) → EachMetered xs → EachMetered ys → EachMetered (xs ++ ys)
each_joined [] ys each rest = rest
each_joined (x ∷ xs) ys each rest = (each.0, each_joined xs ys each.1 rest)

pub read_within : (x : Nozzle) (reading : ℕ) → IsMetered x → x.last ≤ reading
    → reading ≤ GREATEST_READING → IsMetered (read_at reading x)
read_within x reading is above high =
    record { risen = omega (arith, is.risen); within = high; few = is.few; earlier = is.earlier }

pub replaced_within : (x : Nozzle) (reading : ℕ) → IsMetered x → x.replaced < REPLACEMENT_LIMIT
    → reading ≤ GREATEST_READING → IsMetered (replaced_at reading x)
replaced_within x reading is fewer high = record {
  risen = omega arith;
  within = high;
  few = omega arith;
  earlier = omega (arith, is.earlier, is.within, is.risen);
}

pub reads : (xs : List Nozzle) (p n reading last : ℕ)
    → EachMetered xs → last_of p n xs ≡ Some last → last ≤ reading → reading ≤ GREATEST_READING
    → EachMetered (with_last p n reading xs)
reads xs p n reading last each at above high =
    let found = told (nozzle_of p n xs) (λ x. x.last) last at in
    each_changed p n (read_at reading) xs each (λ x is within.
    let same : found.nozzle ≡ x = (let both : Some found.nozzle ≡ Some x = sym found.is
    ∙ is in cc) in
    let last_is : x.last ≡ last = ap (λ (y : Nozzle). y.last) (sym same) ∙ found.told in
    read_within x reading within (omega (arith, last_is)) high)

pub replaces : (xs : List Nozzle) (p n reading : ℕ)
    → EachMetered xs → times_replaced p n xs < REPLACEMENT_LIMIT → reading ≤ GREATEST_READING
    → EachMetered (with_meter p n reading xs)
replaces xs p n reading each fewer high =
    each_changed p n (replaced_at reading) xs each (λ x is within.
    let times : times_replaced p n xs ≡ x.replaced = times_is p n xs x is in
    replaced_within x reading within (omega (arith, times)) high)

pub stays_within_bounds : StaysWithinBounds
stays_within_bounds = record { reads = reads; replaces = replaces }

-- ---- what a site can meter

part : (b : Bool) (volume : ℕ) → cond b 1 0 * volume ≤ volume
part true volume = omega arith
part false volume = omega arith

among_all : (q : ℕ) (xs : List Nozzle) → product_total q xs ≤ metered_by every_product xs
among_all q [] = omega arith
among_all q (x ∷ xs) =
    let here : cond (x.product == q) 1 0 * volume_metered x ≤ volume_metered x =
    part (x.product == q) (volume_metered x) in
    let rest : product_total q xs ≤ metered_by every_product xs = among_all q xs in
    omega (arith, here, rest)

most : (x : Nozzle) → IsMetered x → volume_metered x ≤ most_of_a_nozzle
most x is = omega (arith, is.risen, is.within, is.few, is.earlier)

by_count : (xs : List Nozzle) → EachMetered xs
    → metered_by every_product xs ≤ length xs * most_of_a_nozzle
by_count [] each = omega arith
by_count (x ∷ xs) each =
    let rest : metered_by every_product xs ≤ length xs * most_of_a_nozzle = by_count xs each.1 in
    omega (arith, most x each.0, rest)

pub bound : (xs : List Nozzle) → AreNozzles xs → metered_by every_product xs ≤ most_of_a_site
bound xs are = omega (arith, by_count xs are.each, are.few)

pub total_bound : (q : ℕ) (xs : List Nozzle) → AreNozzles xs → product_total q xs ≤ most_of_a_site
total_bound q xs are = omega (arith, among_all q xs, bound xs are)

pub totals_are_metered : TotalsAreMetered
totals_are_metered = record { among_all = among_all; bound = bound }
