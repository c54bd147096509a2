-- Worked amounts, prices and configurations, by computing the definitions.
use Rattle.std.specs.Prelude.{codes}
use Rattle.std.proofs.Common.{◌≡◌, ℕ, zero, suc, true, false, List, [], ◌∷◌, Some, None, Ok, Err}
use Rattle.std.proofs.Common.{refl}
use Rattle.site_base.specs.declared.config.NozzleEntry.{NozzleEntry}
use Rattle.site_base.specs.Amounts.{amount}
use Rattle.site_base.specs.Ranges.{is_between}
use Rattle.site_base.specs.declared.config.PointEntry.{PointEntry}
use Rattle.site_base.specs.declared.config.ProductEntry.{ProductEntry}
use Rattle.site_base.specs.Configured.{Configured, is_site}
use Rattle.site_base.specs.declared.limits.TheConstants.{POINTS, TILLS}
use Rattle.site_base.specs.declared.numbers.TheConstants.{GREATEST_SHIFT}
use Rattle.site_base.specs.declared.answer.Answer.TheVariants.{Flowed, Sold, Drawn}
use Rattle.site_base.specs.declared.refusal.Refusal.TheVariants.{MeterSpent}
use Rattle.site_base.specs.Events.{growth_in_reply, cents_in_reply}
use Rattle.site_base.specs.Refusals.{refusal_number, refusal_detail}
use Rattle.site_base.specs.Table.{row_of, with_row}

-- ---- amounts: millilitres at mills per litre are cents

amount_1 : amount 5000 1799 ≡ 900
amount_1 = refl

amount_2 : amount 1 1 ≡ 0
amount_2 = refl

amount_3 : amount 12345 1799 ≡ 2221
amount_3 = refl

amount_4 : amount 10000 1500 ≡ 1500
amount_4 = refl

amount_5 : amount 4999 1 ≡ 0
amount_5 = refl

amount_6 : amount 5000 1 ≡ 1
amount_6 = refl

amount_7 : amount 0 99999 ≡ 0
amount_7 = refl

amount_8 : amount 999999999999 99999 ≡ 9999899999990
amount_8 = refl

-- ---- the greatest volume for a sum: it isn't above the sum, and a millilitre more is

greatest_1 : amount 13336 1500 ≡ 2000
greatest_1 = refl

above_1 : amount 13337 1500 ≡ 2001
above_1 = refl

greatest_2 : amount 4999 1 ≡ 0
greatest_2 = refl

above_2 : amount 5000 1 ≡ 1
above_2 = refl

greatest_3 : amount 0 99999 ≡ 0
greatest_3 = refl

above_3 : amount 1 99999 ≡ 10
above_3 = refl

greatest_4 : amount 99999000000004999 1 ≡ 9999900000000
greatest_4 = refl

above_4 : amount 99999000000005000 1 ≡ 9999900000001
above_4 = refl

greatest_5 : amount 1000000000000 99999 ≡ 9999900000000
greatest_5 = refl

above_5 : amount 1000000000001 99999 ≡ 9999900000010
above_5 = refl

-- ---- configurations

abbrev product : ℕ → List ℕ → ProductEntry
product number name = record { number = number; name = name; price = 1500 }

abbrev nozzles : ℕ → ℕ → List NozzleEntry
nozzles zero q = []
nozzles (suc n) q = record { product = q; reading = 0 } ∷ nozzles n q

abbrev point : ℕ → List NozzleEntry → PointEntry
point number of = record { number = number; nozzles = of }

-- diesel and petrol-95 at the points 1 and 64, each with eight nozzles of petrol
abbrev fit_site : Configured
fit_site = record {
  rows = 1;
  managers = 1 ∷ 2 ∷ [];
  products = product 1 (codes "diesel") ∷ product 2 (codes "petrol-95") ∷ [];
  points = point 1 (nozzles 8 2) ∷ point 64 (nozzles 8 2) ∷ [];
}

abbrev named : List ℕ → List ℕ → List ProductEntry
named first second = product 1 first ∷ product 2 second ∷ []

fit : is_site fit_site ≡ true
fit = refl

most_rows : is_site (record fit_site { rows = 1000000 }) ≡ true
most_rows = refl

shortest_and_longest_name : is_site
    (record fit_site { products = named (codes "a") (codes "abcdefghij0123456789") }) ≡ true
shortest_and_longest_name = refl

no_rows : is_site (record fit_site { rows = 0 }) ≡ false
no_rows = refl

too_many_rows : is_site (record fit_site { rows = 1000001 }) ≡ false
too_many_rows = refl

manager_twice : is_site (record fit_site { managers = 3 ∷ 3 ∷ [] }) ≡ false
manager_twice = refl

product_twice : is_site (record
    fit_site { products = product 2 (codes "diesel") ∷ product 2 (codes "petrol-95") ∷ [] }) ≡ false
product_twice = refl

name_twice : is_site (record fit_site { products = named (codes "diesel") (codes "diesel") })
    ≡ false
name_twice = refl

no_name : is_site (record fit_site { products = named (codes "diesel") (codes "") }) ≡ false
no_name = refl

capital_letter : is_site (record fit_site { products = named (codes "diesel") (codes "Petrol") })
    ≡ false
capital_letter = refl

space_in_a_name : is_site (record
    fit_site { products = named (codes "diesel") (codes "petrol 95") }) ≡ false
space_in_a_name = refl

name_of_21 : is_site (record fit_site {
  products = named (codes "diesel") (codes "abcdefghij01234567890");
}) ≡ false
name_of_21 = refl

point_twice : is_site (record fit_site {
  points = point 4 (nozzles 8 2) ∷ point 4 (nozzles 8 2) ∷ [];
}) ≡ false
point_twice = refl

product_that_is_not_there : is_site
    (record fit_site { points = point 1 (nozzles 8 3) ∷ point 64 (nozzles 8 3) ∷ [] }) ≡ false
product_that_is_not_there = refl

no_nozzles : is_site (record fit_site { points = point 1 [] ∷ point 64 [] ∷ [] }) ≡ false
no_nozzles = refl

nine_nozzles : is_site (record
    fit_site { points = point 1 (nozzles 9 2) ∷ point 64 (nozzles 9 2) ∷ [] }) ≡ false
nine_nozzles = refl

no_products : is_site (record fit_site { products = [] }) ≡ false
no_products = refl

no_points : is_site (record fit_site { points = [] }) ≡ false
no_points = refl

-- so many points, each with one nozzle
abbrev points : ℕ → List PointEntry
points zero = []
points (suc n) = point (suc n) (nozzles 1 2) ∷ points n

most_points : is_site (record fit_site { points = points 64 }) ≡ true
most_points = refl

too_many_points : is_site (record fit_site { points = points 65 }) ≡ false
too_many_points = refl

-- ---- the last number of each range, and the one behind it

last_point : is_between 1 POINTS 64 ≡ true
last_point = refl

no_point_65 : is_between 1 POINTS 65 ≡ false
no_point_65 = refl

last_till : is_between 1 TILLS 32 ≡ true
last_till = refl

no_till_33 : is_between 1 TILLS 33 ≡ false
no_till_33 = refl

no_shift_0 : is_between 1 GREATEST_SHIFT 0 ≡ false
no_shift_0 = refl

first_shift : is_between 1 GREATEST_SHIFT 1 ≡ true
first_shift = refl

last_shift : is_between 1 GREATEST_SHIFT 999 ≡ true
last_shift = refl

no_shift_1000 : is_between 1 GREATEST_SHIFT 1000 ≡ false
no_shift_1000 = refl

-- ---- what replies tell of fuel and money

growth_of_a_flow : growth_in_reply (Ok (Flowed 12345)) ≡ 12345
growth_of_a_flow = refl

growth_of_a_sale : growth_in_reply (Ok (Sold 1 10000)) ≡ 10000
growth_of_a_sale = refl

growth_of_a_draw : growth_in_reply (Ok (Drawn 20000)) ≡ 20000
growth_of_a_draw = refl

growth_of_a_refused_replacement : growth_in_reply (Err MeterSpent) ≡ 0
growth_of_a_refused_replacement = refl

a_draw_clears_nothing : cents_in_reply (Ok (Drawn 20000)) ≡ 0
a_draw_clears_nothing = refl

refusal_of_a_hundredth_replacement : refusal_number MeterSpent ≡ 25
refusal_of_a_hundredth_replacement = refl

without_detail : refusal_detail MeterSpent ≡ None
without_detail = refl

-- ---- prices: diesel at 1500, petrol at 1799

abbrev prices : List (ℕ × ℕ)
prices = (1, 1500) ∷ (2, 1799) ∷ []

price_of_petrol : row_of 2 prices ≡ Some 1799
price_of_petrol = refl

no_price : row_of 3 prices ≡ None
no_price = refl

new_price : with_row 1 1600 prices ≡ (1, 1600) ∷ (2, 1799) ∷ []
new_price = refl

price_of_nothing : with_row 3 1 prices ≡ prices
price_of_nothing = refl
