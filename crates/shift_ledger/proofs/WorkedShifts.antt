-- Worked figures, by computing the definitions: clears and draws of two shifts.
use Rattle.std.proofs.Common.{◌≡◌, Some, None, false, refl}
use Rattle.shift_ledger.specs.Figures.{till_figures, product_figure, product_cents_figure}
use Rattle.shift_ledger.specs.Figures.{adjusted_figure, empty_figures}
use Rattle.shift_ledger.specs.Shifts.{Shifts, first_shift, open_number, is_last, figures_of}
use Rattle.shift_ledger.specs.Shifts.{after_close, after_clear, after_draw}

-- shift 1: till 1 clears 10,000 ml of diesel for 1,500 cents, the last till 7 ml of the last
-- product for 2 cents, and a test draws 20,000 ml of diesel
abbrev first_day : Shifts
first_day = after_draw 1 20000 (after_clear 32 8 7 2 (after_clear 1 1 10000 1500 first_shift))

-- shift 2: a test draws 5,000 ml of diesel and another 40 ml
abbrev second_day : Shifts
second_day = after_draw 1 40 (after_draw 1 5000 (after_close first_day))

till_1 : till_figures 1 first_day.current ≡ (1, 1500)
till_1 = refl

till_32 : till_figures 32 first_day.current ≡ (1, 2)
till_32 = refl

till_31 : till_figures 31 first_day.current ≡ (0, 0)
till_31 = refl

cleared_of_diesel : product_figure 1 first_day.current ≡ 10000
cleared_of_diesel = refl

cents_of_diesel : product_cents_figure 1 first_day.current ≡ 1500
cents_of_diesel = refl

drawn_of_diesel : adjusted_figure 1 first_day.current ≡ 20000
drawn_of_diesel = refl

cleared_of_the_last_product : product_figure 8 first_day.current ≡ 7
cleared_of_the_last_product = refl

cents_of_the_last_product : product_cents_figure 8 first_day.current ≡ 2
cents_of_the_last_product = refl

drawn_of_the_last_product : adjusted_figure 8 first_day.current ≡ 0
drawn_of_the_last_product = refl

second_is_open : open_number second_day ≡ 2
second_is_open = refl

drawn_in_the_second : adjusted_figure 1 second_day.current ≡ 5040
drawn_in_the_second = refl

nothing_cleared_in_the_second : product_figure 1 second_day.current ≡ 0
nothing_cleared_in_the_second = refl

no_cents_in_the_second : product_cents_figure 1 second_day.current ≡ 0
no_cents_in_the_second = refl

first_stays : figures_of 1 second_day ≡ Some first_day.current
first_stays = refl

third_is_to_come : figures_of 3 second_day ≡ None
third_is_to_come = refl

new_shift_is_empty : figures_of 2 (after_close first_day) ≡ Some empty_figures
new_shift_is_empty = refl

not_the_last : is_last second_day ≡ false
not_the_last = refl
