-- Each database that is asked has one address.
use Rattle.std.specs.Prelude.{slice_index, ◌&&◌, ◌≤◌, Option, Some, None}
use Rattle.std.proofs.Common.{◌≡◌, ℕ, zero, suc, ◌+◌, ◌-◌, ◌<◌, ◌==◌, Bool, true, false, cond}
use Rattle.std.proofs.Common.{List, [], ◌∷◌, length, Ok, Err, refl, ap, ◌∙◌, arith, lit≤}
use Rattle.std.proofs.lemmas.Bool.{and_parts}
use Rattle.std.proofs.lemmas.Bool.Decides.{nat_tests}
use Rattle.site_base.specs.declared.limits.TheConstants.{POINTS, PRODUCTS}
use Rattle.site_base.specs.Ranges.{is_between}
use Rattle.app_message.specs.Telegram.{AreOctets}
use Rattle.device_map.specs.declared.address.Database.{Database}
use Rattle.device_map.specs.declared.address.Database.TheVariants.{Site, Point, Transaction}
use Rattle.device_map.specs.declared.address.Database.TheVariants.{Product}
use Rattle.device_map.specs.declared.decimal.Digits.{Digits}
use Rattle.device_map.specs.declared.decimal.SaleDigits.{SaleDigits}
use Rattle.device_map.specs.declared.fault.MapFault.TheVariants.{BadAddress}
use Rattle.device_map.specs.declared.ids.TheConstants as ids
use Rattle.device_map.specs.Addresses.{database_of_octet, transaction_of, is_point_octet}
use Rattle.device_map.specs.Addresses.{is_product_octet, database_at}
use Rattle.device_map.specs.Addresses.{sale_of_open_shift, sale_of_shift}
use Rattle.device_map.specs.Ways.{address_of, digit_octets, digits_of, shift_digits}
use Rattle.device_map.proofs.Results.{ok_is, passed, first_that, equal, one_is, one_octet}

-- ---- the address is there

-- where events are asked for: the site, a fuelling point in range, a transaction of one, a product
-- in range
abbrev pub IsAsked : Database → Type 0
IsAsked Site = Unit {0}
IsAsked (Point p) = is_between 1 POINTS p ≡ true
IsAsked (Transaction p digits) =
    (is_between 1 POINTS p ≡ true) × AreOctets (digit_octets digits.shift digits.seq)
IsAsked (Product q) = is_between 1 PRODUCTS q ≡ true

more_octets : (a : ℕ) (s : List ℕ) → a < 256 → AreOctets s → AreOctets (a ∷ s)
more_octets a s small rest zero = small
more_octets a s small rest (suc i) = rest i

octets_of : (n : ℕ) (s : List ℕ) → AreOctets s
    → AreOctets ((digits_of n).high ∷ (digits_of n).low ∷ s)
octets_of n s rest =
    more_octets (digits_of n).high ((digits_of n).low ∷ s) (omega arith)
    (more_octets (digits_of n).low s (omega arith) rest)

no_octets : AreOctets []
no_octets i = omega arith

pub sale_octets : (shift : Option ℕ) (seq : ℕ)
    → AreOctets (digit_octets (shift_digits shift) (digits_of seq))
sale_octets None seq =
    more_octets ids.TRANSACTION_FORM ((digits_of seq).high ∷ (digits_of seq).low ∷ []) (omega arith)
    (octets_of seq [] no_octets)
sale_octets (Some shift) seq =
    more_octets ids.SHIFT_FORM
    ((digits_of shift).high ∷ (digits_of shift).low ∷ (digits_of seq).high ∷ (digits_of seq).low
    ∷ [])
    (omega arith)
    (octets_of shift ((digits_of seq).high ∷ (digits_of seq).low ∷ []) (octets_of seq [] no_octets))

within_points : (p : ℕ) → is_between 1 POINTS p ≡ true
    → is_point_octet (ids.POINT_ADDRESS + p) ≡ true
within_points p own = grind (arith, nat_tests)

point_number : (p : ℕ) → ids.POINT_ADDRESS + p - ids.POINT_ADDRESS ≡ p
point_number p = omega arith

within_products : (q : ℕ) → is_between 1 PRODUCTS q ≡ true
    → is_product_octet (ids.PRODUCT_ADDRESS + q) ≡ true
within_products q own = grind (arith, nat_tests)

product_number : (q : ℕ) → ids.PRODUCT_ADDRESS + q - ids.PRODUCT_ADDRESS ≡ q
product_number q = omega arith

transaction_there : (p : ℕ) (shift : Option Digits) (seq : Digits) → is_between 1 POINTS p ≡ true
    → database_at ((ids.POINT_ADDRESS + p) ∷ digit_octets shift seq)
    ≡ Ok (Transaction p (record { shift = shift; seq = seq }))
unfolding database_at
transaction_there p None seq own = rw (within_points p own, point_number p) refl
transaction_there p (Some shift) seq own = rw (within_points p own, point_number p) refl

pub database_there : (d : Database) → IsAsked d → database_at (address_of d) ≡ Ok d
unfolding database_at
database_there Site own = refl
database_there (Point p) own =
    let other : (ids.POINT_ADDRESS + p == ids.SITE_ADDRESS) ≡ false = grind (arith, nat_tests) in
    rw (other, within_points p own, point_number p) refl
database_there (Transaction p digits) own = transaction_there p digits.shift digits.seq own.0
database_there (Product q) own =
    let other : (ids.PRODUCT_ADDRESS + q == ids.SITE_ADDRESS) ≡ false = grind (arith, nat_tests) in
    let no_point : is_point_octet (ids.PRODUCT_ADDRESS + q) ≡ false = grind (arith, nat_tests) in
    rw (other, no_point, within_products q own, product_number q) refl

-- an address with its length, and octets
pub record IsAddress (address : List ℕ) : Type 0 where
  pub least : 1 ≤ length address
  pub most : length address ≤ 8
  pub octets : AreOctets address

transaction_address : (a : ℕ) (shift : Option Digits) (seq : Digits) → a < 256
    → AreOctets (digit_octets shift seq) → IsAddress (a ∷ digit_octets shift seq)
transaction_address a None seq small octets = record {
  least = lit≤ tt;
  most = lit≤ tt;
  octets = more_octets a (digit_octets None seq) small octets;
}
transaction_address a (Some shift) seq small octets = record {
  least = lit≤ tt;
  most = lit≤ tt;
  octets = more_octets a (digit_octets (Some shift) seq) small octets;
}

point_small : (p : ℕ) → is_between 1 POINTS p ≡ true → ids.POINT_ADDRESS + p < 256
point_small p own = grind (arith, nat_tests)

product_small : (q : ℕ) → is_between 1 PRODUCTS q ≡ true → ids.PRODUCT_ADDRESS + q < 256
product_small q own = grind (arith, nat_tests)

pub address_is : (d : Database) → IsAsked d → IsAddress (address_of d)
address_is Site own = record {
  least = lit≤ tt;
  most = lit≤ tt;
  octets = one_octet ids.SITE_ADDRESS (omega arith);
}
address_is (Point p) own = record {
  least = lit≤ tt;
  most = lit≤ tt;
  octets = one_octet (ids.POINT_ADDRESS + p) (point_small p own);
}
address_is (Transaction p digits) own =
    transaction_address (ids.POINT_ADDRESS + p) digits.shift digits.seq (point_small p own.0) own.1
address_is (Product q) own = record {
  least = lit≤ tt;
  most = lit≤ tt;
  octets = one_octet (ids.PRODUCT_ADDRESS + q) (product_small q own);
}

-- ---- there is no other

four_are : (xs : List ℕ) → length xs ≡ 4
    → xs ≡ slice_index xs 0 ∷ slice_index xs 1 ∷ slice_index xs 2 ∷ slice_index xs 3 ∷ []
four_are [] size = absurd (omega (arith, size))
four_are (a ∷ []) size = absurd (omega (arith, size))
four_are (a ∷ b ∷ []) size = absurd (omega (arith, size))
four_are (a ∷ b ∷ c ∷ []) size = absurd (omega (arith, size))
four_are (a ∷ b ∷ c ∷ d ∷ []) size = refl
four_are (a ∷ b ∷ c ∷ d ∷ e ∷ xs) size = absurd (omega (arith, size))

six_are : (xs : List ℕ) → length xs ≡ 6
    → xs ≡ slice_index xs 0 ∷ slice_index xs 1 ∷ slice_index xs 2 ∷ slice_index xs 3
    ∷ slice_index xs 4 ∷ slice_index xs 5 ∷ []
six_are [] size = absurd (omega (arith, size))
six_are (a ∷ []) size = absurd (omega (arith, size))
six_are (a ∷ b ∷ xs) size =
    ap (λ (s : List ℕ). a ∷ b ∷ s) (four_are xs (omega (arith, size)))

octet_is : (a : ℕ) (d : Database) → database_of_octet a ≡ Ok d → a ∷ [] ≡ address_of d
octet_is a d is =
    first_that (a == ids.SITE_ADDRESS) Site _ d _ is
    (λ site named. ap (λ n. n ∷ []) (equal _ _ site) ∙ ap address_of named)
    (λ other left. first_that (is_point_octet a) (Point (a - ids.POINT_ADDRESS)) _ d _ left
    (λ point named. ap (λ n. n ∷ []) (of_point point) ∙ ap address_of named)
    (λ no_point last.
    let product =
    passed (is_product_octet a) BadAddress (Ok (Product (a - ids.PRODUCT_ADDRESS))) d last in
    ap (λ n. n ∷ []) (of_product product.0)
    ∙ ap address_of (ok_is (Product (a - ids.PRODUCT_ADDRESS)) d product.1)))
  where
    of_point : is_point_octet a ≡ true → a ≡ ids.POINT_ADDRESS + (a - ids.POINT_ADDRESS)
    of_point within = grind (arith, nat_tests)

    of_product : is_product_octet a ≡ true → a ≡ ids.PRODUCT_ADDRESS + (a - ids.PRODUCT_ADDRESS)
    of_product within = grind (arith, nat_tests)

transaction_is : (a : ℕ) (digits : SaleDigits) (d : Database) → transaction_of a digits ≡ Ok d
    → a ∷ digit_octets digits.shift digits.seq ≡ address_of d
transaction_is a digits d is =
    let test =
    passed (is_point_octet a) BadAddress (Ok (Transaction (a - ids.POINT_ADDRESS) digits)) d is in
    let within : is_point_octet a ≡ true = test.0 in
    let point : a ≡ ids.POINT_ADDRESS + (a - ids.POINT_ADDRESS) = grind (arith, nat_tests) in
    ap (λ n. n ∷ digit_octets digits.shift digits.seq) point
    ∙ ap address_of (ok_is (Transaction (a - ids.POINT_ADDRESS) digits) d test.1)

-- one of the two forms of a transaction's address
of_form : (a : List ℕ) (size form : ℕ) → (length a == size && slice_index a 1 == form) ≡ true
    → (length a ≡ size) × (slice_index a 1 ≡ form)
of_form a size form is =
    let both = and_parts (length a == size) (slice_index a 1 == form) is in
    (equal (length a) size both.0, equal (slice_index a 1) form both.1)

pub names : (address : List ℕ) (d : Database) → database_at address ≡ Ok d
    → address ≡ address_of d
unfolding database_at
names a d is = by_size (length a == 1) refl
  where
    by_shift : (length a == 1) ≡ false
        → (length a == 4 && slice_index a 1 == ids.TRANSACTION_FORM) ≡ false → a ≡ address_of d
    by_shift other still =
        let left : cond (length a == 6 && slice_index a 1 == ids.SHIFT_FORM)
        (transaction_of (slice_index a 0) (sale_of_shift a)) (Err BadAddress) ≡ Ok d =
        rw (other, still) at is in
        let six = passed (length a == 6 && slice_index a 1 == ids.SHIFT_FORM) BadAddress _ d left in
        let form = of_form a 6 ids.SHIFT_FORM six.0 in
        six_are a form.0
        ∙ ap (λ (n : ℕ). slice_index a 0 ∷ n ∷ slice_index a 2 ∷ slice_index a 3 ∷ slice_index a 4
        ∷ slice_index a 5 ∷ []) form.1
        ∙ transaction_is (slice_index a 0) (sale_of_shift a) d six.1

    by_form : (b : Bool) → (length a == 1) ≡ false
        → (length a == 4 && slice_index a 1 == ids.TRANSACTION_FORM) ≡ b → a ≡ address_of d
    by_form true other named =
        let four : transaction_of (slice_index a 0) (sale_of_open_shift a) ≡ Ok d =
        rw (other, named) at is in
        let form = of_form a 4 ids.TRANSACTION_FORM named in
        four_are a form.0
        ∙ ap (λ (n : ℕ). slice_index a 0 ∷ n ∷ slice_index a 2 ∷ slice_index a 3 ∷ []) form.1
        ∙ transaction_is (slice_index a 0) (sale_of_open_shift a) d four
    by_form false other still = by_shift other still

    by_size : (b : Bool) → (length a == 1) ≡ b → a ≡ address_of d
    by_size true one =
        let octet : database_of_octet (slice_index a 0) ≡ Ok d = rw one at is in
        one_is a (equal _ _ one) ∙ octet_is (slice_index a 0) d octet
    by_size false other =
        by_form (length a == 4 && slice_index a 1 == ids.TRANSACTION_FORM) other refl
