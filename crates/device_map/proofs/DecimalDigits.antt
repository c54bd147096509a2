-- A number has one spelling in packed decimal digits.
use Rattle.std.specs.Prelude.{◌/◌, ◌%◌, ◌&&◌, ◌≤◌, nat_lt, Option, Some, None}
use Rattle.std.proofs.Common.{◌≡◌, ℕ, ◌+◌, ◌*◌, ◌<◌, true, Ok, refl, ap, ◌∙◌}
use Rattle.std.proofs.Common.{arith}
use Rattle.std.proofs.lemmas.Bool.{and_parts}
use Rattle.std.proofs.lemmas.Bool.Decides.{nat_tests}
use Rattle.site_base.specs.declared.numbers.TheConstants.{GREATEST_SHIFT}
use Rattle.site_base.specs.declared.numbers.TheConstants.{GREATEST_SEQ}
use Rattle.site_base.specs.declared.sale.SaleId.{SaleId}
use Rattle.site_base.specs.Ranges.{is_between}
use Rattle.device_map.specs.declared.decimal.Digits.{Digits}
use Rattle.device_map.specs.declared.decimal.SaleDigits.{SaleDigits}
use Rattle.device_map.specs.declared.fault.MapFault.TheVariants.{BadDecimal}
use Rattle.device_map.specs.Decimal.{is_decimal, two_digits, four_digits, decimal_in, shift_in}
use Rattle.device_map.specs.Decimal.{sale_named}
use Rattle.device_map.specs.Laws.{is_shift_if_named, is_sale}
use Rattle.device_map.specs.Ways.{digits_of, sale_digits, shift_digits}
use Rattle.device_map.proofs.Results.{bind_ok, ok_is, passed}

-- ---- an octet of two digits

octet_decimal : (a b : ℕ) → a < 10 → b < 10 → is_decimal (a * 16 + b) ≡ true
octet_decimal a b tens ones =
    let high : (a * 16 + b) / 16 ≡ a = omega arith in
    let low : (a * 16 + b) % 16 ≡ b = omega arith in
    grind (arith, nat_tests)

octet_number : (a b : ℕ) → a < 10 → b < 10 → two_digits (a * 16 + b) ≡ a * 10 + b
octet_number a b tens ones = omega arith

octet_back : (o : ℕ) → is_decimal o ≡ true
    → (o ≡ two_digits o / 10 * 16 + two_digits o % 10) × (two_digits o < 100)
octet_back o decimal =
    let both = and_parts (nat_lt (o / 16) 10) (nat_lt (o % 16) 10) decimal in
    let tens : o / 16 < 10 = grind (arith, nat_tests) in
    let ones : o % 16 < 10 = grind (arith, nat_tests) in
    (omega arith, omega arith)

-- ---- four digits

pub decimal_there : (greatest n : ℕ) → greatest ≤ 9999 → is_between 1 greatest n ≡ true
    → decimal_in greatest (digits_of n) ≡ Ok n
unfolding decimal_in
decimal_there greatest n most within =
    let small : n ≤ 9999 = grind (arith, nat_tests) in
    let high = octet_decimal (n / 1000 % 10) (n / 100 % 10) (omega arith) (omega arith) in
    let low = octet_decimal (n / 10 % 10) (n % 10) (omega arith) (omega arith) in
    let upper = octet_number (n / 1000 % 10) (n / 100 % 10) (omega arith) (omega arith) in
    let lower = octet_number (n / 10 % 10) (n % 10) (omega arith) (omega arith) in
    let number : four_digits (digits_of n) ≡ n = omega arith in
    rw (high, low, number, within) refl

same_digits : (d e : Digits) → d.high ≡ e.high → d.low ≡ e.low → d ≡ e
same_digits d e high low =
    ap (λ (x : ℕ). record { high = x; low = d.low }) high
    ∙ ap (λ (x : ℕ). record { high = e.high; low = x }) low

pub decimal_back : (greatest n : ℕ) (d : Digits) → decimal_in greatest d ≡ Ok n → d ≡ digits_of n
unfolding decimal_in
decimal_back greatest n d is =
    let test =
    passed (is_decimal d.high && is_decimal d.low && is_between 1 greatest (four_digits d))
    BadDecimal (Ok (four_digits d)) n is in
    let decimal = and_parts _ _ (and_parts _ _ test.0).0 in
    let high = octet_back d.high decimal.0 in
    let low = octet_back d.low decimal.1 in
    let number : four_digits d ≡ n = ok_is (four_digits d) n test.1 in
    same_digits d (digits_of n) (omega arith) (omega arith)

-- ---- the digits of a sale

shift_there : (shift : Option ℕ) → is_shift_if_named shift ≡ true
    → shift_in (shift_digits shift) ≡ Ok shift
shift_there None own = refl
shift_there (Some shift) own = rw (decimal_there GREATEST_SHIFT shift (omega arith) own) refl

shift_back : (digits : Option Digits) (shift : Option ℕ) → shift_in digits ≡ Ok shift
    → digits ≡ shift_digits shift
shift_back None shift is = ap shift_digits (ok_is None shift is)
shift_back (Some digits) shift is =
    let number = bind_ok (decimal_in GREATEST_SHIFT digits) _ shift is in
    ap (λ (d : Digits). Some d) (decimal_back GREATEST_SHIFT number.0 digits number.1)
    ∙ ap shift_digits (ok_is (Some number.0) shift number.2)

pub sale_there : (sale : SaleId) → is_sale sale ≡ true → sale_named (sale_digits sale) ≡ Ok sale
unfolding sale_named
sale_there sale own =
    let both = and_parts (is_shift_if_named sale.shift) (is_between 1 GREATEST_SEQ sale.seq) own in
    rw (
      shift_there sale.shift both.0,
      decimal_there GREATEST_SEQ sale.seq (omega arith) both.1,
    ) refl

pub sale_back : (digits : SaleDigits) (sale : SaleId) → sale_named digits ≡ Ok sale
    → digits ≡ sale_digits sale
unfolding sale_named
sale_back digits sale is =
    let shift = bind_ok (shift_in digits.shift) _ sale is in
    let seq = bind_ok (decimal_in GREATEST_SEQ digits.seq) _ sale shift.2 in
    let named : record { shift = shift.0; seq = seq.0 } ≡ sale =
    ok_is (record { shift = shift.0; seq = seq.0 }) sale seq.2 in
    ap (λ (d : Option Digits). record { shift = d; seq = digits.seq })
    (shift_back digits.shift shift.0 shift.1)
    ∙ ap (λ (d : Digits). record { shift = shift_digits shift.0; seq = d })
    (decimal_back GREATEST_SEQ seq.0 digits.seq seq.1)
    ∙ ap sale_digits named
