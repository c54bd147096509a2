-- Digits and octets side by side.
use Rattle.std.specs.Prelude.{◌≡◌, ◌+◌, ◌-◌, ◌*◌, ◌/◌, ◌%◌, ◌<◌, ℕ, Bool, nat_lt, bit_or}
use Rattle.std.specs.Prelude.{bit_xor, Ok}
use Rattle.std.specs.Prelude.{if◌then◌else◌, List, slice_index}
use Rattle.hex.specs.Hex.{lower_digits, pair_value}

-- at most the greatest octet
abbrev pub capped : ℕ → ℕ
capped n = if nat_lt n 256 then n else 255

-- what an octet is as a number, and as a letter; one that is none gives a number that no digit has
abbrev pub number : ℕ → ℕ
number c = bit_xor (capped ((57 + (256 - c)) % 256 + 6)) 15

abbrev pub letter : ℕ → ℕ
letter c = capped ((bit_or c 32 + 159) % 256 + 10)

-- the value of a digit; of each other octet a number that no digit has
abbrev pub digit_value : ℕ → ℕ
digit_value c = if nat_lt (number c) (letter c) then number c else letter c

-- no digit has this value
abbrev pub is_other : ℕ → Bool
is_other value = nat_lt 15 value

-- the values of the two digits of an octet
abbrev pub high_value : ℕ → ℕ
high_value b = b / 16

abbrev pub low_value : ℕ → ℕ
low_value b = b % 16

-- the digit of a value
abbrev pub digit_of : ℕ → ℕ
digit_of value = (value + (if nat_lt 9 value then 87 else 48)) % 256

-- the two digits of an octet
abbrev pub high_digit : ℕ → ℕ
high_digit b = slice_index lower_digits (b / 16)

abbrev pub low_digit : ℕ → ℕ
low_digit b = slice_index lower_digits (b % 16)

-- each of the first n octets is what its two digits are
abbrev pub IsRead : List ℕ → List ℕ → ℕ → Type 0
IsRead text place n = (k : ℕ) → k < n
    → pair_value (slice_index text (2 * k)) (slice_index text (2 * k + 1)) (2 * k)
    ≡ Ok (slice_index place k)

-- the digits of each of the first n octets are written
abbrev pub IsWritten : List ℕ → List ℕ → ℕ → Type 0
IsWritten octets place n = (k : ℕ) → k < n
    → (slice_index place (2 * k) ≡ high_digit (slice_index octets k))
    × (slice_index place (2 * k + 1) ≡ low_digit (slice_index octets k))
