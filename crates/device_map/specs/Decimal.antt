-- Numbers of four decimal digits, packed two to an octet.
use Rattle.std.specs.Prelude.{ℕ, ◌+◌, ◌*◌, ◌/◌, ◌%◌, Bool, ◌&&◌, nat_lt, Option, Some, None}
use Rattle.std.specs.Prelude.{Result, Ok, Err, if◌then◌else◌}
use Rattle.site_base.specs.declared.numbers.TheConstants.{GREATEST_SHIFT}
use Rattle.site_base.specs.declared.numbers.TheConstants.{GREATEST_SEQ}
use Rattle.site_base.specs.declared.sale.SaleId.{SaleId}
use Rattle.site_base.specs.Ranges.{is_between}
use Rattle.device_map.specs.declared.decimal.Digits.{Digits}
use Rattle.device_map.specs.declared.decimal.SaleDigits.{SaleDigits}
use Rattle.device_map.specs.declared.fault.MapFault.{MapFault}
use Rattle.device_map.specs.declared.fault.MapFault.TheVariants.{BadDecimal}
use Rattle.device_map.specs.Stages.{◌>>=◌}

-- a number's four digits, as a number of two octets
abbrev pub pack_digits : ℕ → ℕ
pack_digits n = n / 1000 % 10 * 4096 + n / 100 % 10 * 256 + n / 10 % 10 * 16 + n % 10

-- both digits of an octet are decimal
abbrev pub is_decimal : ℕ → Bool
is_decimal octet = nat_lt (octet / 16) 10 && nat_lt (octet % 16) 10

-- the number that the two digits of an octet make
abbrev pub two_digits : ℕ → ℕ
two_digits octet = octet / 16 * 10 + octet % 16

abbrev pub four_digits : Digits → ℕ
four_digits d = two_digits d.high * 100 + two_digits d.low

-- the number that four decimal digits make, from 1 to the greatest
unfoldable pub decimal_in : ℕ → Digits → Result ℕ MapFault
decimal_in greatest d =
    if is_decimal d.high && is_decimal d.low && is_between 1 greatest (four_digits d)
    then Ok (four_digits d)
    else Err BadDecimal

-- the shift of a sale, if its digits are there
abbrev pub shift_in : Option Digits → Result (Option ℕ) MapFault
shift_in None = Ok None
shift_in (Some digits) = do
  shift ← decimal_in GREATEST_SHIFT digits
  Ok (Some shift)

-- the sale that the digits of an address name
unfoldable pub sale_named : SaleDigits → Result SaleId MapFault
sale_named digits = do
  shift ← shift_in digits.shift
  seq ← decimal_in GREATEST_SEQ digits.seq
  Ok (record { shift = shift; seq = seq })
