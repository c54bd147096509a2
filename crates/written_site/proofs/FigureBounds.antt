-- Every figure fits in 64 bits: the cents of a sale are at most 11 times its
-- millilitres, and all sales are within what the meters have counted.
use Rattle.std.proofs.Common.{◌≡◌, ℕ, zero, suc, ◌+◌, ◌-◌, ◌*◌, ◌^◌, ◌≤◌, ◌<◌, ◌==◌, ◌&&◌, Bool}
use Rattle.std.proofs.Common.{true, false, cond, List, [], ◌∷◌, replicate, Option, Some, None}
use Rattle.std.proofs.Common.{is_some, unwrap_or, refl, sym, ap, subst, ◌∙◌, arith}
use Rattle.std.proofs.Math.Nat.{div-le_of_le-mul, mul-le-mul_left}
use Rattle.std.proofs.lemmas.Bool.Decides.{nat_tests}
use Rattle.std.proofs.lemmas.List.Sums.{sum_by-cons}
use Rattle.std.specs.List.{range_with_len, slice_get, sum_by}
use Rattle.site_base.specs.declared.limits.TheConstants.{PRODUCT_CELLS, TILLS}
use Rattle.site_base.specs.declared.amounts.TheConstants.{GREATEST_PRICE}
use Rattle.site_base.specs.Amounts.{amount}
use Rattle.site_base.specs.Members.{member}
use Rattle.site_base.proofs.Numbering.{numbered_place, numbered_there}
use Rattle.meters.specs.MeteredVolumes.{every_product, most_of_a_site}
use Rattle.transaction_buffer.specs.declared.standing.Standing.{Standing}
use Rattle.transaction_buffer.specs.declared.standing.Standing.TheVariants.{Payable, LockedBy}
use Rattle.transaction_buffer.specs.declared.standing.Standing.TheVariants.{ClearedBy}
use Rattle.transaction_buffer.specs.Clears.{FitsOneClear}
use Rattle.transaction_buffer.specs.Sales.{Key, Sale, Sales, sale_of, is_unpaid, with_sale}
use Rattle.transaction_buffer.specs.Sums.{product_cents, sum_of, volume_in}
use Rattle.transaction_buffer.proofs.Summing.{added_sum, alike_sum, replaced_sum}
use Rattle.written_site.specs.FigureSteps.{DoFiguresFit, AreFiguresInRange}
use Rattle.written_site.specs.ShiftFigures.{shift_drawn, is_cleared_by, is_cleared_in, tills}
use Rattle.written_site.specs.SiteState.{SiteState, nothing_drawn}
use Rattle.written_site.specs.Sound.{IsPrice, IsSaleSound, Sound}
use Rattle.written_site.specs.Volumes.{sold_by}
use Rattle.written_site.proofs.BoundedSums.{bounded_sum, none_sum, times_sum}
use Rattle.written_site.proofs.ClearFigures.{IsOfCleared, figure_where, unpaid_fails}
use Rattle.written_site.proofs.SoundTables.{itself}
use Rattle.written_site.proofs.SoundSums.{adds_up, figure_drawn}
use Rattle.written_site.proofs.SoundUses.{everything_within}

-- ---- one sale

-- the cents of a millilitre at least, at a price in range, are at most 11 times its millilitres
amount_within : (volume price : ℕ) → 1 ≤ volume → IsPrice price → amount volume price ≤ 11 * volume
amount_within volume price some in_range =
    let dear : volume * price ≤ volume * GREATEST_PRICE = mul-le-mul_left volume in_range.high in
    div-le_of_le-mul 10000 (omega (arith, dear))

cents_within : (x : Sale) → IsSaleSound x → x.cents ≤ 11 * x.volume
cents_within x is = subst (λ (c : ℕ). c ≤ 11 * x.volume) (sym is.cents)
    (amount_within x.volume x.price is.something is.price)

-- ---- all sales

abbrev one : Sale → ℕ
one x = 1

abbrev volume : Sale → ℕ
volume x = x.volume

abbrev cents : Sale → ℕ
cents x = x.cents

-- the millilitres of all sales are within what a site can meter
volumes_within : (s : SiteState) → Sound s → sum_of volume s.sales ≤ most_of_a_site
volumes_within s sound =
    let all = everything_within s sound in
    let same : sold_by every_product s.sales ≡ sum_of volume s.sales =
    alike_sum (λ x. 1 * x.volume) volume (λ x. omega arith) s.sales in
    omega (arith, all, same)

-- so is their number
count_within : (s : SiteState) → Sound s → sum_of one s.sales ≤ most_of_a_site
count_within s sound =
    let each = bounded_sum one volume s.sales (λ k x is. (sound.sales k x is).something) in
    omega (arith, each, volumes_within s sound)

-- and their cents are within 11 times of it
pub all_cents_within : (s : SiteState) → Sound s → sum_of cents s.sales ≤ 11 * most_of_a_site
all_cents_within s sound =
    let each = bounded_sum cents (λ x. 11 * x.volume) s.sales
    (λ k x is. cents_within x (sound.sales k x is)) in
    omega (arith, each, times_sum 11 volume s.sales, volumes_within s sound)

cents_fit : 11 * most_of_a_site < 2 ^ 64
cents_fit = omega arith

-- ---- one clear more

part_of : (b : Bool) (n : ℕ) → cond b n 0 ≤ n
part_of true n = omega arith
part_of false n = omega arith

-- a figure of the sales that are cleared so, with one more that isn't cleared, is within all sales
one_more_within : (test : Standing → Bool) (value : Sale → ℕ) (y : Standing) (k : Key) (x : Sale)
    (sales : Sales) → IsOfCleared test value → test y ≡ true → sale_of k sales ≡ Some x
    → is_unpaid x.standing ≡ true
    → sum_of (figure_where test value) sales + value x ≤ sum_of value sales
one_more_within test value y k x sales of_cleared passes there unpaid =
    let new : Sale = record x { standing = y } in
    let moved = replaced_sum (figure_where test value) k x new sales there in
    let kept = replaced_sum value k x new sales there in
    let before : figure_where test value x ≡ 0 =
    ap (λ (b : Bool). cond b (value x) 0) (unpaid_fails test value x.standing of_cleared unpaid) in
    let after : figure_where test value new ≡ value x =
    ap (λ (b : Bool). cond b (value new) 0) passes ∙ of_cleared.fixed x y in
    let same : value new ≡ value x = of_cleared.fixed x y in
    let within = bounded_sum (figure_where test value) value (with_sale k new sales)
    (λ j z is. part_of (test z.standing) (value z)) in
    omega (arith, moved, kept, before, after, same, within)

both_true : (a b : Bool) → a ≡ true → b ≡ true → (a && b) ≡ true
both_true a b p q = rw (p, q) refl

volume_of_own : (x : Sale) → volume_in x.product x ≡ x.volume
volume_of_own x = ap (λ (b : Bool). cond b x.volume 0) (itself x.product)

cents_of_own : (x : Sale) → product_cents x.product x ≡ x.cents
cents_of_own x = ap (λ (b : Bool). cond b x.cents 0) (itself x.product)

-- the cents of a product's sales are within those of all sales
product_cents_within : (q : ℕ) (sales : Sales) → sum_of (product_cents q) sales ≤ sum_of cents sales
product_cents_within q sales =
    bounded_sum (product_cents q) cents sales (λ k x is. part_of (x.product == q) x.cents)

pub clear_fits : (s : SiteState) (t h : ℕ) (k : Key) (x : Sale) → Sound s
    → sale_of k s.sales ≡ Some x → is_unpaid x.standing ≡ true → FitsOneClear h t x s.sales
clear_fits s t h k x sound there unpaid =
    let in_shift : (is_cleared_in h (ClearedBy t h) && is_cleared_by t (ClearedBy t h)) ≡ true =
    both_true (h == h) (t == t) (itself h) (itself t) in
    let by_till_in : Standing → Bool = λ y. is_cleared_in h y && is_cleared_by t y in
    let count = count_within s sound in
    let all_cents = all_cents_within s sound in
    let volumes = volumes_within s sound in
    let of_product = bounded_sum (volume_in x.product) volume s.sales
    (λ j y is. part_of (y.product == x.product) y.volume) in
    let clears = one_more_within by_till_in one (ClearedBy t h) k x s.sales
    (record { free = refl; locked = λ u. refl; fixed = λ y z. refl }) in_shift there unpaid in
    let its_cents = one_more_within by_till_in cents (ClearedBy t h) k x s.sales
    (record { free = refl; locked = λ u. refl; fixed = λ y z. refl }) in_shift there unpaid in
    let cleared = one_more_within (is_cleared_in h) (volume_in x.product) (ClearedBy t h) k x
    s.sales
    (record { free = refl; locked = λ u. refl; fixed = λ y z. refl }) (itself h) there unpaid in
    let of_its_product = one_more_within (is_cleared_in h) (product_cents x.product) (ClearedBy t h)
    k x s.sales
    (record { free = refl; locked = λ u. refl; fixed = λ y z. refl }) (itself h) there unpaid in
    let cents_of_product = product_cents_within x.product s.sales in
    let clears_of_till = one_more_within (is_cleared_by t) one (ClearedBy t h) k x s.sales
    (record { free = refl; locked = λ u. refl; fixed = λ y z. refl }) (itself t) there unpaid in
    let cents_of_till = one_more_within (is_cleared_by t) cents (ClearedBy t h) k x s.sales
    (record { free = refl; locked = λ u. refl; fixed = λ y z. refl }) (itself t) there unpaid in
    record {
      clears = omega (arith, clears, count, cents_fit);
      cents = omega (arith, its_cents, all_cents, cents_fit);
      cleared = omega (arith, cleared, of_product, volumes, volume_of_own x, cents_fit);
      product_cents =
          omega (arith, of_its_product, cents_of_product, all_cents, cents_of_own x, cents_fit);
      all_clears = omega (arith, clears_of_till, count, cents_fit);
      all_cents = omega (arith, cents_of_till, all_cents, cents_fit);
    }

-- ---- all tills together

-- among these numbers u stands once at most
apart_from : (b : Bool) (u v a n : ℕ) → u < a
    → sum_by (λ t. cond (b && u == t) v 0) (range_with_len a n) ≡ 0
apart_from b u v a zero less = refl
apart_from b u v a (suc n) less =
    let other : cond (b && u == a) v 0 ≡ 0 = none b (u == a) (below u a less) in
    let rest = apart_from b u v (a + 1) n (omega (arith, less)) in
    omega (
      arith,
      sum_by-cons (λ t. cond (b && u == t) v 0) a (range_with_len (a + 1) n),
      other,
      rest,
    )
  where
    below : (m k : ℕ) → m < k → (m == k) ≡ false
    below m k under = grind (arith, nat_tests)

    none : (c d : Bool) → d ≡ false → cond (c && d) v 0 ≡ 0
    none true d is = ap (λ (e : Bool). cond e v 0) is
    none false d is = refl

once_among : (b : Bool) (u v a n : ℕ)
    → sum_by (λ t. cond (b && u == t) v 0) (range_with_len a n) ≤ v
once_among b u v a zero = omega arith
once_among b u v a (suc n) = by_test (u == a) refl (once_among b u v (a + 1) n)
  where
    first : sum_by (λ t. cond (b && u == t) v 0) (range_with_len a (suc n))
        ≡ cond (b && u == a) v 0 + sum_by (λ t. cond (b && u == t) v 0) (range_with_len (a + 1) n)
    first = sum_by-cons (λ t. cond (b && u == t) v 0) a (range_with_len (a + 1) n)

    here : (u == a) ≡ true → u < a + 1
    here at = grind (arith, nat_tests)

    none : (c d : Bool) → d ≡ false → cond (c && d) v 0 ≡ 0
    none true d is = ap (λ (e : Bool). cond e v 0) is
    none false d is = refl

    by_test : (c : Bool) → (u == a) ≡ c
        → sum_by (λ t. cond (b && u == t) v 0) (range_with_len (a + 1) n) ≤ v
        → sum_by (λ t. cond (b && u == t) v 0) (range_with_len a (suc n)) ≤ v
    by_test true at rest =
        let later = apart_from b u v (a + 1) n (here at) in
        omega (arith, first, later, part_of (b && u == a) v)
    by_test false at rest =
        let nothing = none b (u == a) at in
        omega (arith, first, nothing, rest)

-- figures summed over tills, then over sales
pub swapped : (f : ℕ → Sale → ℕ) (ts : List ℕ) (sales : Sales)
    → sum_by (λ t. sum_of (f t) sales) ts ≡ sum_of (λ x. sum_by (λ t. f t x) ts) sales
swapped f [] sales = sym (none_sum sales)
swapped f (t ∷ ts) sales =
    sum_by-cons (λ u. sum_of (f u) sales) t ts
    ∙ ap (λ (n : ℕ). sum_of (f t) sales + n) (swapped f ts sales)
    ∙ sym (added_sum (f t) (λ x. sum_by (λ u. f u x) ts) sales)
    ∙ alike_sum (λ x. f t x + sum_by (λ u. f u x) ts) (λ x. sum_by (λ u. f u x) (t ∷ ts))
    (λ x. sym (sum_by-cons (λ u. f u x) t ts)) sales

by_one_in : (h v : ℕ) (y : Standing)
    → sum_by (λ t. cond (is_cleared_in h y && is_cleared_by t y) v 0) tills ≤ v
by_one_in h v Payable = once_among false 0 v 1 TILLS
by_one_in h v (LockedBy u) = once_among false 0 v 1 TILLS
by_one_in h v (ClearedBy u g) = once_among (g == h) u v 1 TILLS

by_one : (v : ℕ) (y : Standing) → sum_by (λ t. cond (is_cleared_by t y) v 0) tills ≤ v
by_one v Payable = once_among false 0 v 1 TILLS
by_one v (LockedBy u) = once_among false 0 v 1 TILLS
by_one v (ClearedBy u g) = once_among true u v 1 TILLS

-- ---- each figure

-- a number that has a member is 1 at least
number_low : (q : ℕ) (row : List ℕ) (v : ℕ) → member q row ≡ Some v → 1 ≤ q
number_low zero row v is = cc
number_low (suc q) row v is = omega arith

-- where nothing is drawn, no product has a figure
zeros : (n i : ℕ) → unwrap_or (slice_get (replicate {A = ℕ} n 0) i) 0 ≡ 0
zeros zero i = refl
zeros (suc n) zero = refl
zeros (suc n) (suc i) = zeros n i

nothing_there : (q : ℕ) → unwrap_or (member q nothing_drawn) 0 < 2 ^ 64
nothing_there zero = omega arith
nothing_there (suc q) =
    let none : unwrap_or (member (suc q) nothing_drawn) 0 ≡ 0 =
    ap (λ (o : Option ℕ). unwrap_or o 0) (numbered_place (suc q) nothing_drawn (omega arith))
    ∙ zeros PRODUCT_CELLS (suc q - 1) in
    omega (arith, none)

-- a figure of the sales that stand so is within all sales
figure_within : (test : Standing → Bool) (value : Sale → ℕ) (sales : Sales)
    → sum_of (figure_where test value) sales ≤ sum_of value sales
figure_within test value sales =
    bounded_sum (figure_where test value) value sales
    (λ k x is. part_of (test x.standing) (value x))

product_within : (q : ℕ) (sales : Sales) → sum_of (volume_in q) sales ≤ sum_of volume sales
product_within q sales =
    bounded_sum (volume_in q) volume sales (λ k x is. part_of (x.product == q) x.volume)

-- what tests drew of a product in a shift is within what they drew of it
draw_within : (s : SiteState) (h q : ℕ) → Sound s → shift_drawn s h q < 2 ^ 64
draw_within s h q sound = by_row (member h s.drawn) refl
  where
    in_row : (row : List ℕ) → member h s.drawn ≡ Some row → (o : Option ℕ) → member q row ≡ o
        → unwrap_or o 0 < 2 ^ 64
    in_row row is None none = omega arith
    in_row row is (Some v) there =
        let low : 1 ≤ q = number_low q row v there in
        let place = numbered_there q row low (ap is_some there) in
        let figure = figure_drawn s h q row low (omega (arith, place)) is in
        let same : unwrap_or (member q row) 0 ≡ v = ap (λ (o : Option ℕ). unwrap_or o 0) there in
        let sums = adds_up s q sound in
        omega (arith, figure, same, sums.whole, sums.fits)

    by_row : (o : Option (List ℕ)) → member h s.drawn ≡ o
        → unwrap_or (member q (unwrap_or o nothing_drawn)) 0 < 2 ^ 64
    by_row None is = nothing_there q
    by_row (Some row) is = in_row row is (member q row) refl

pub figures_in_range : (s : SiteState) (h : ℕ) → Sound s → AreFiguresInRange s h
figures_in_range s h sound =
    let all_cents = all_cents_within s sound in
    let count = count_within s sound in
    let volumes = volumes_within s sound in
    let takings = bounded_sum
    (λ x. sum_by (λ t. cond (is_cleared_in h x.standing && is_cleared_by t x.standing) x.cents 0)
    tills)
    cents s.sales (λ k x is. by_one_in h x.cents x.standing) in
    let clears = bounded_sum (λ x. sum_by (λ t. cond (is_cleared_by t x.standing) 1 0) tills)
    one s.sales (λ k x is. by_one 1 x.standing) in
    let cents_of_tills =
    bounded_sum (λ x. sum_by (λ t. cond (is_cleared_by t x.standing) x.cents 0) tills)
    cents s.sales (λ k x is. by_one x.cents x.standing) in
    record {
      clears = λ t. omega (
        arith,
        count,
        cents_fit,
        figure_within (λ y. is_cleared_in h y && is_cleared_by t y) one s.sales,
      );
      cents = λ t. omega (
        arith,
        all_cents,
        cents_fit,
        figure_within (λ y. is_cleared_in h y && is_cleared_by t y) cents s.sales,
      );
      cleared = λ q. omega (
        arith,
        volumes,
        cents_fit,
        product_within q s.sales,
        figure_within (is_cleared_in h) (volume_in q) s.sales,
      );
      product_cents = λ q. omega (
        arith,
        all_cents,
        cents_fit,
        product_cents_within q s.sales,
        figure_within (is_cleared_in h) (product_cents q) s.sales,
      );
      drawn = λ q. draw_within s h q sound;
      takings = omega (
        arith,
        takings,
        all_cents,
        cents_fit,
        swapped (λ t x.
            cond (is_cleared_in h x.standing && is_cleared_by t x.standing) x.cents 0) tills
            s.sales,
      );
      all_clears = λ t. omega (
        arith,
        count,
        cents_fit,
        figure_within (is_cleared_by t) one s.sales,
      );
      all_cents = λ t. omega (
        arith,
        all_cents,
        cents_fit,
        figure_within (is_cleared_by t) cents s.sales,
      );
      clears_together = omega (
        arith,
        clears,
        count,
        cents_fit,
        swapped (λ t x. cond (is_cleared_by t x.standing) 1 0) tills s.sales,
      );
      cents_together = omega (
        arith,
        cents_of_tills,
        all_cents,
        cents_fit,
        swapped (λ t x. cond (is_cleared_by t x.standing) x.cents 0) tills
            s.sales,
      );
    }

pub figures_fit : DoFiguresFit
figures_fit = record { fit = figures_in_range; clears = clear_fits }
