-- What a report adds to what is metered, however the products are weighed, and that a replacement
-- adds nothing.
use Rattle.std.proofs.Common.{◌≡◌, ℕ, Bool, true, false, not, cond, ◌==◌, nat_le, ◌+◌, ◌-◌, ◌*◌}
use Rattle.std.proofs.Common.{◌≤◌, List, [], ◌∷◌, ◌++◌, Option, Some, None, refl, sym, ap, ◌∙◌}
use Rattle.std.proofs.Common.{arith}
use Rattle.std.proofs.Math.Nat.{mul-add, mul-zero}
use Rattle.std.proofs.lemmas.Bool.Decides.{nat_tests}
use Rattle.site_base.specs.declared.config.NozzleEntry.{NozzleEntry}
use Rattle.site_base.specs.declared.amounts.TheConstants.{GROWTH_LIMIT}
use Rattle.site_base.specs.declared.refusal.Refusal.{Refusal}
use Rattle.site_base.specs.declared.refusal.Refusal.TheVariants.{MeterGap, MeterBack, MeterJump}
use Rattle.site_base.specs.declared.config.PointEntry.{PointEntry}
use Rattle.meters.specs.declared.report.Report.{Report}
use Rattle.meters.specs.declared.report.Report.TheVariants.{Still, Growing}
use Rattle.meters.specs.Nozzles.{Nozzle, is_nozzle, nozzle_of, number_nozzles, nozzles_of_point}
use Rattle.meters.specs.Nozzles.{nozzles_of_points, product_of, reading_of, with_nozzle, with_last}
use Rattle.meters.specs.Nozzles.{with_meter, read_at, replaced_at, EachMetered}
use Rattle.meters.specs.MeteredVolumes.{volume_metered, metered_by, product_total, product_alone}
use Rattle.meters.specs.Reports.{report_refusal, growth_of, unless_refused}
use Rattle.meters.specs.Laws.{GrowthRaisesOneTotal, ReportsAreMetered}
use Rattle.meters.proofs.Lookups.{told, reading_is}
use Rattle.meters.proofs.Bounds.{each_found}

-- ---- a site that opens

opened_nothing : (w : ℕ → ℕ) (p n : ℕ) (es : List NozzleEntry)
    → metered_by w (number_nozzles p n es) ≡ 0
opened_nothing w p n [] = refl
opened_nothing w p n (e ∷ es) =
    let none : w e.product * ((e.reading - e.reading) + 0) ≡ 0 =
    ap (λ (k : ℕ). w e.product * k)
    (let apart : (e.reading - e.reading) + 0 ≡ 0 = omega arith in apart)
    ∙ mul-zero (w e.product) in
    omega (arith, none, opened_nothing w p (n + 1) es)

both : (w : ℕ → ℕ) (xs ys : List Nozzle)
    → metered_by w (xs ++ ys) ≡ metered_by w xs + metered_by w ys
both w [] ys = omega arith
both w (x ∷ xs) ys =
    let rest : metered_by w (xs ++ ys) ≡ metered_by w xs + metered_by w ys = both w xs ys in
    omega (arith, rest)

pub open_nothing : (w : ℕ → ℕ) (cs : List PointEntry) → metered_by w (nozzles_of_points cs) ≡ 0
open_nothing w [] = refl
open_nothing w (c ∷ cs) =
    both w (nozzles_of_point c) (nozzles_of_points cs)
    ∙ omega (arith, opened_nothing w c.number 1 c.nozzles, open_nothing w cs)

-- ---- a change of one nozzle

grown_product : (v m v' m' weight volume growth rest : ℕ) → v ≡ weight → m ≡ volume + growth
    → v' ≡ weight → m' ≡ volume → v * m + rest ≡ (v' * m' + rest) + weight * growth
grown_product v m v' m' weight volume growth rest a b a' b' =
    let after : v * m ≡ weight * (volume + growth) = cc in
    let before : v' * m' ≡ weight * volume = cc in
    omega (arith, after, before, mul-add weight volume growth)

-- a change that adds so much to what the nozzle has metered
pub raised : (w : ℕ → ℕ) (p n growth : ℕ) (change : Nozzle → Nozzle) (x : Nozzle) (xs : List Nozzle)
    → nozzle_of p n xs ≡ Some x → (change x).product ≡ x.product
    → volume_metered (change x) ≡ volume_metered x + growth
    → metered_by w (with_nozzle p n change xs) ≡ metered_by w xs + w x.product * growth
raised w p n growth change x [] there same grown = cc
raised w p n growth change x (y ∷ ys) there same grown =
    by_test (is_nozzle p n y) refl (λ is. raised w p n growth change x ys is same grown)
  where
    by_test : (b : Bool) → is_nozzle p n y ≡ b
        → (nozzle_of p n ys ≡ Some x
        → metered_by w (with_nozzle p n change ys) ≡ metered_by w ys + w x.product * growth)
        → metered_by w (with_nozzle p n change (y ∷ ys))
        ≡ metered_by w (y ∷ ys) + w x.product * growth
    by_test true is behind =
        let first : nozzle_of p n (y ∷ ys) ≡ Some y = rw is refl in
        let at : y ≡ x = (let found : Some y ≡ Some x = sym first ∙ there in cc) in
        let moved : with_nozzle p n change (y ∷ ys) ≡ change y ∷ ys = rw is refl in
        ap (metered_by w) moved
        ∙ grown_product (w (change y).product) (volume_metered (change y)) (w y.product)
        (volume_metered y)
        (w x.product) (volume_metered x) growth (metered_by w ys)
        (ap (λ (z : Nozzle). w (change z).product) at ∙ ap w same)
        (ap (λ (z : Nozzle). volume_metered (change z)) at ∙ grown)
        (ap (λ (z : Nozzle). w z.product) at) (ap volume_metered at)
    by_test false is behind =
        let later : nozzle_of p n (y ∷ ys) ≡ nozzle_of p n ys = rw is refl in
        let moved : with_nozzle p n change (y ∷ ys) ≡ y ∷ with_nozzle p n change ys = rw is refl in
        ap (metered_by w) moved ∙ omega (arith, behind (sym later ∙ there))

-- a change that adds nothing to what any nozzle has metered
pub unmoved : (w : ℕ → ℕ) (p n : ℕ) (change : Nozzle → Nozzle) (xs : List Nozzle)
    → ((x : Nozzle) → (change x).product ≡ x.product)
    → ((x : Nozzle) → volume_metered (change x) ≡ volume_metered x)
    → metered_by w (with_nozzle p n change xs) ≡ metered_by w xs
unmoved w p n change [] same kept = refl
unmoved w p n change (y ∷ ys) same kept =
    by_test (is_nozzle p n y) refl (unmoved w p n change ys same kept)
  where
    by_test : (b : Bool) → is_nozzle p n y ≡ b
        → metered_by w (with_nozzle p n change ys) ≡ metered_by w ys
        → metered_by w (with_nozzle p n change (y ∷ ys)) ≡ metered_by w (y ∷ ys)
    by_test true is rest =
        let moved : with_nozzle p n change (y ∷ ys) ≡ change y ∷ ys = rw is refl in
        ap (metered_by w) moved
        ∙ ap (λ (k : ℕ). w k * volume_metered (change y) + metered_by w ys) (same y)
        ∙ ap (λ (k : ℕ). w y.product * k + metered_by w ys) (kept y)
    by_test false is rest =
        let moved : with_nozzle p n change (y ∷ ys) ≡ y ∷ with_nozzle p n change ys = rw is refl in
        ap (metered_by w) moved ∙ omega (arith, rest)

-- a reading that isn't below the last one
pub read_raises : (w : ℕ → ℕ) (p n reading : ℕ) (x : Nozzle) (xs : List Nozzle) → EachMetered xs
    → nozzle_of p n xs ≡ Some x → x.last ≤ reading
    → metered_by w (with_last p n reading xs) ≡ metered_by w xs
    + w x.product * growth_of x.last reading
read_raises w p n reading x xs each is above =
    raised w p n (reading - x.last) (read_at reading) x xs is refl
    (omega (arith, (each_found p n xs x each is).risen))

-- a replacement
pub meter_keeps : (w : ℕ → ℕ) (p n reading : ℕ) (xs : List Nozzle)
    → metered_by w (with_meter p n reading xs) ≡ metered_by w xs
meter_keeps w p n reading xs =
    unmoved w p n (replaced_at reading) xs (λ x. refl) (λ x. omega arith)

-- ---- a report

alone : (b : Bool) (volume : ℕ) → cond b 1 0 * volume ≡ cond b volume 0
alone true volume = omega arith
alone false volume = omega arith

pub growth_raises_one_total : GrowthRaisesOneTotal
growth_raises_one_total xs p n reading last product q each at of above =
    let found = told (nozzle_of p n xs) (λ x. x.last) last at in
    let sells = told (nozzle_of p n xs) (λ x. x.product) product of in
    let same : sells.nozzle ≡ found.nozzle =
    (let both : Some sells.nozzle ≡ Some found.nozzle = sym sells.is ∙ found.is in cc) in
    let product_is : found.nozzle.product ≡ product =
    ap (λ (y : Nozzle). y.product) (sym same) ∙ sells.told in
    read_raises (product_alone q) p n reading found.nozzle xs each found.is
    (omega (arith, found.told))
    ∙ ap (λ (k : ℕ). product_total q xs + product_alone q k * growth_of found.nozzle.last reading)
    product_is
    ∙ ap (λ (k : ℕ). product_total q xs + product_alone q product * growth_of k reading) found.told
    ∙ ap (λ (k : ℕ). product_total q xs + k) (alone (product == q) (growth_of last reading))

-- what is accepted isn't below the last reading
pub accepted_above : (report : Report) (last reading : ℕ)
    → report_refusal report last reading ≡ None → last ≤ reading
accepted_above Still last reading accepted = still (reading == last) refl accepted
  where
    still : (b : Bool) → (reading == last) ≡ b → cond (not b) (Some (MeterGap last)) None ≡ None
        → last ≤ reading
    still true is accepted = grind (arith, nat_tests)
    still false is accepted = cc
accepted_above Growing last reading accepted = growing (nat_le last reading) refl accepted
  where
    growing : (b : Bool) → nat_le last reading ≡ b
        → cond (not b) (Some (MeterBack last))
        (cond (not (nat_le reading (last + GROWTH_LIMIT))) (Some MeterJump) None)
        ≡ None
        → last ≤ reading
    growing true is accepted = grind (arith, nat_tests)
    growing false is accepted = cc

accepted_raises : (w : ℕ → ℕ) (report : Report) (p n reading product : ℕ) (xs : List Nozzle)
    → EachMetered xs → product_of p n xs ≡ Some product
    → report_refusal report (reading_of p n xs) reading ≡ None
    → metered_by w (with_last p n reading xs)
    ≡ metered_by w xs + w product * growth_of (reading_of p n xs) reading
accepted_raises w report p n reading product xs each of accepted =
    let sells = told (nozzle_of p n xs) (λ x. x.product) product of in
    let read : reading_of p n xs ≡ sells.nozzle.last = reading_is p n xs sells.nozzle sells.is in
    let above : reading_of p n xs ≤ reading =
    accepted_above report (reading_of p n xs) reading accepted in
    read_raises w p n reading sells.nozzle xs each sells.is (omega arith)
    ∙ ap (λ (k : ℕ). metered_by w xs + w k * growth_of sells.nozzle.last reading) sells.told
    ∙ ap (λ (k : ℕ). metered_by w xs + w product * growth_of k reading) (sym read)

pub reports_are_metered : ReportsAreMetered
reports_are_metered = record {
  opens = λ w c. open_nothing w c.points;
  accepted = λ w report p n reading product xs each of accepted.
      ap (λ (o : Option Refusal). metered_by w (unless_refused o p n reading xs)) accepted
      ∙ accepted_raises w report p n reading product xs each of accepted;
  refused = λ report p n reading refusal xs refused.
      ap (λ (o : Option Refusal). unless_refused o p n reading xs) refused;
  replaced = meter_keeps;
}
