-- Worked reports, by computing the definitions: on a site of the points 2 and 3, each with a nozzle
-- of product 1 at 0 and one of product 2 at 1000, and on the greatest site.
use Rattle.std.proofs.Common.{◌≡◌, ℕ, zero, suc, ◌+◌, ◌*◌, List, [], ◌∷◌, map, Option, Some, None}
use Rattle.std.proofs.Common.{Result, Ok, Err, refl}
use Rattle.std.specs.List.{range_with_len}
use Rattle.site_base.specs.declared.limits.TheConstants.{NOZZLES, POINTS}
use Rattle.site_base.specs.declared.amounts.TheConstants.{GROWTH_LIMIT}
use Rattle.site_base.specs.declared.refusal.Refusal.{Refusal}
use Rattle.site_base.specs.declared.refusal.Refusal.TheVariants.{MeterGap, MeterBack, MeterJump}
use Rattle.site_base.specs.declared.config.PointEntry.{PointEntry}
use Rattle.meters.specs.declared.report.Report.{Report}
use Rattle.meters.specs.declared.report.Report.TheVariants.{Still, Growing}
use Rattle.meters.specs.Nozzles.{Nozzle, nozzles_of_points, product_of, last_of, reading_of}
use Rattle.meters.specs.Nozzles.{replacements_of, with_meter}
use Rattle.meters.specs.MeteredVolumes.{product_total, metered_by, every_product}
use Rattle.meters.specs.Reports.{report_refusal, growth_of, after_report}

-- what a report is told
abbrev growth_or : Option Refusal → ℕ → Result ℕ Refusal
growth_or None growth = Ok growth
growth_or (Some refusal) growth = Err refusal

-- a report: its point, its nozzle there, its kind and its reading
record Reported : Type 0 where
  point : ℕ
  nozzle : ℕ
  kind : Report
  reading : ℕ

abbrev grows : ℕ → ℕ → ℕ → Reported
grows p n reading = record { point = p; nozzle = n; kind = Growing; reading = reading }

abbrev stays : ℕ → ℕ → ℕ → Reported
stays p n reading = record { point = p; nozzle = n; kind = Still; reading = reading }

abbrev after : Reported → List Nozzle → List Nozzle
after r xs = after_report r.kind r.point r.nozzle r.reading xs

abbrev after_all : List Reported → List Nozzle → List Nozzle
after_all [] xs = xs
after_all (r ∷ rs) xs = after_all rs (after r xs)

-- what these reports are told, one after another
abbrev told : List Reported → List Nozzle → List (Result ℕ Refusal)
told [] xs = []
told (r ∷ rs) xs =
    let last = reading_of r.point r.nozzle xs in
    growth_or (report_refusal r.kind last r.reading) (growth_of last r.reading)
    ∷ told rs (after r xs)

-- ---- two points

abbrev two_nozzles : ℕ → PointEntry
two_nozzles p = record {
  number = p;
  nozzles = record { product = 1; reading = 0 } ∷ record { product = 2; reading = 1000 } ∷ [];
}

abbrev two_points : List Nozzle
two_points = nozzles_of_points (two_nozzles 2 ∷ two_nozzles 3 ∷ [])

growing_reports : told
    (grows 3 1 5000
    ∷ grows 3 1 4999
    ∷ grows 3 1 1005001
    ∷ grows 3 1 1005000
    ∷ grows 3 1 1005000
    ∷ [])
    two_points
    ≡ Ok 5000
    ∷ Err (MeterBack 5000)
    ∷ Err MeterJump
    ∷ Ok 1000000
    ∷ Ok 0
    ∷ []
growing_reports = refl

refused_reports_move_nothing : last_of 3 1
    (after_all (grows 3 1 5000 ∷ grows 3 1 4999 ∷ grows 3 1 1005001 ∷ []) two_points)
    ≡ Some 5000
refused_reports_move_nothing = refl

still_reports : told
    (grows 3 1 5000
    ∷ stays 3 1 5003
    ∷ stays 3 1 5000
    ∷ [])
    two_points
    ≡ Ok 5000
    ∷ Err (MeterGap 5000)
    ∷ Ok 0
    ∷ []
still_reports = refl

-- three nozzles have grown
abbrev grown : List Nozzle
grown = after_all (grows 2 1 700 ∷ grows 3 1 40 ∷ grows 3 2 1005 ∷ []) two_points

each_growth : told (grows 2 1 700 ∷ grows 3 1 40 ∷ grows 3 2 1005 ∷ []) two_points
    ≡ Ok 700 ∷ Ok 40 ∷ Ok 5 ∷ []
each_growth = refl

totals : map (λ (q : ℕ). product_total q grown) (1 ∷ 2 ∷ 3 ∷ []) ≡ 740 ∷ 5 ∷ 0 ∷ []
totals = refl

metered_of_all : metered_by every_product grown ≡ 745
metered_of_all = refl

first_product : product_of 2 1 grown ≡ Some 1
first_product = refl

second_product : product_of 3 2 grown ≡ Some 2
second_product = refl

no_third_nozzle : product_of 2 3 grown ≡ None
no_third_nozzle = refl

no_first_point : product_of 1 1 grown ≡ None
no_first_point = refl

last_unmoved : last_of 2 2 grown ≡ Some 1000
last_unmoved = refl

last_of_none : last_of 2 3 grown ≡ None
last_of_none = refl

last_at_no_point : last_of 1 1 grown ≡ None
last_at_no_point = refl

-- ---- a replaced meter

-- the meter that reads 40 is replaced by one that begins with 7
abbrev replaced_at_7 : List Nozzle
replaced_at_7 = with_meter 3 1 7 grown

begins_with_7 : last_of 3 1 replaced_at_7 ≡ Some 7
begins_with_7 = refl

replaced_once : map (λ (n : ℕ). replacements_of 3 n replaced_at_7) (1 ∷ 2 ∷ 3 ∷ [])
    ≡ Some 1 ∷ Some 0 ∷ None ∷ []
replaced_once = refl

metered_as_before : map (λ (q : ℕ). product_total q replaced_at_7) (1 ∷ 2 ∷ 3 ∷ [])
    ≡ 740 ∷ 5 ∷ 0 ∷ []
metered_as_before = refl

new_reading_alone : told
    (stays 3 1 40
    ∷ stays 3 1 7
    ∷ grows 3 1 6
    ∷ grows 3 1 1000008
    ∷ grows 3 1 107
    ∷ [])
    replaced_at_7
    ≡ Err (MeterGap 7)
    ∷ Ok 0
    ∷ Err (MeterBack 7)
    ∷ Err MeterJump
    ∷ Ok 100
    ∷ []
new_reading_alone = refl

metered_by_both : product_total 1 (after (grows 3 1 107) replaced_at_7) ≡ 840
metered_by_both = refl

-- the meter of nozzle 1 of point 3 is replaced so many times
replaced_times : ℕ → List Nozzle → List Nozzle
replaced_times zero xs = xs
replaced_times (suc times) xs = replaced_times times (with_meter 3 1 times xs)

ninety_nine : replacements_of 3 1 (replaced_times 99 grown) ≡ Some 99
unfolding replaced_times
ninety_nine = refl

all_metered : product_total 1 (replaced_times 99 grown) ≡ 740
unfolding replaced_times
all_metered = refl

-- ---- the greatest site

-- the numbers from 1 to this one
abbrev up_to : ℕ → List ℕ
up_to count = range_with_len 1 count

-- as many nozzles of product 1 as point p may have
abbrev all_nozzles : ℕ → PointEntry
all_nozzles p = record {
  number = p;
  nozzles = map (λ (n : ℕ). record { product = 1; reading = p * 100 + n }) (up_to NOZZLES);
}

abbrev greatest_site : List Nozzle
greatest_site = nozzles_of_points (map all_nozzles (up_to POINTS))

-- the reading of the last nozzle that is as much above its opening one as a report may be
abbrev highest : ℕ
highest = POINTS * 100 + NOZZLES + GROWTH_LIMIT

abbrev the_last_grown : List Nozzle
the_last_grown = after (grows POINTS NOZZLES highest) greatest_site

greatest_growth : told (grows POINTS NOZZLES highest ∷ []) greatest_site ≡ Ok 1000000 ∷ []
greatest_growth = refl

greatest_last : last_of POINTS NOZZLES the_last_grown ≡ Some highest
greatest_last = refl

greatest_product : product_of POINTS NOZZLES the_last_grown ≡ Some 1
greatest_product = refl

greatest_total : product_total 1 the_last_grown ≡ 1000000
greatest_total = refl
