-- The octets of times are ASCII.
use Rattle.std.proofs.Common.{◌≡◌, ◌<◌, ℕ, Bool, true, false, ◌&&◌, ◌==◌, List, [], ◌∷◌}
use Rattle.std.proofs.Common.{arith, nat_lt, refl, IsAscii}
use Rattle.std.proofs.lemmas.Bool.{and_parts}
use Rattle.std.proofs.lemmas.Bool.Decides.{nat_tests}
use Rattle.std.proofs.lemmas.Str.Ascii.{IsAscii-cons, IsAscii-nil}
use Rattle.std.specs.Prelude.{if◌then◌else◌, nat_le}
use Rattle.std.specs.List.{list_all}
use Rattle.stamps.specs.Stamps.{are_formed, is_digit, is_formed, is_stamp, stamp_form}

-- an octet that a form allows is ASCII, if the form is
formed_low : (form octet : ℕ) → nat_lt form 128 ≡ true → is_formed form octet ≡ true → octet < 128
formed_low form octet low formed = by_test (is_digit form) refl formed
  where
    by_test : (digit : Bool) → is_digit form ≡ digit
        → (if digit then nat_le 48 octet && nat_le octet form else octet == form) ≡ true
        → octet < 128
    by_test true is formed = grind (arith, nat_tests, formed, low)
    by_test false is formed = grind (arith, nat_tests, formed, low)

formed_ascii : (form octets : List ℕ) → list_all (λ b. nat_lt b 128) form ≡ true
    → are_formed form octets ≡ true → IsAscii octets
formed_ascii [] [] low formed = IsAscii-nil
formed_ascii [] (b ∷ bs) low formed = absurd (cc formed)
formed_ascii (f ∷ form) [] low formed = IsAscii-nil
formed_ascii (f ∷ form) (b ∷ bs) low formed =
    let lows = and_parts (nat_lt f 128) (list_all (λ b. nat_lt b 128) form) low in
    let both = and_parts (is_formed f b) (are_formed form bs) formed in
    IsAscii-cons b bs (formed_low f b lows.0 both.0) (formed_ascii form bs lows.1 both.1)

pub stamp_ascii : (octets : List ℕ) → is_stamp octets ≡ true → IsAscii octets
stamp_ascii octets is = formed_ascii stamp_form octets refl is
