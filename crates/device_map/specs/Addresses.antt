-- The database that an address names.
use Rattle.std.specs.Prelude.{ℕ, ◌+◌, ◌-◌, Bool, List, length, ◌&&◌, ◌==◌, slice_index}
use Rattle.std.specs.Prelude.{Some, None, Result, Ok, Err, if◌then◌else◌}
use Rattle.site_base.specs.declared.limits.TheConstants.{POINTS, PRODUCTS}
use Rattle.site_base.specs.Ranges.{is_between}
use Rattle.device_map.specs.declared.address.Database.{Database}
use Rattle.device_map.specs.declared.address.Database.TheVariants.{Site, Point, Transaction}
use Rattle.device_map.specs.declared.address.Database.TheVariants.{Product}
use Rattle.device_map.specs.declared.decimal.Digits.{Digits}
use Rattle.device_map.specs.declared.decimal.SaleDigits.{SaleDigits}
use Rattle.device_map.specs.declared.fault.MapFault.{MapFault}
use Rattle.device_map.specs.declared.fault.MapFault.TheVariants.{BadAddress}
use Rattle.device_map.specs.declared.ids.TheConstants.{SITE_ADDRESS, POINT_ADDRESS}
use Rattle.device_map.specs.declared.ids.TheConstants.{PRODUCT_ADDRESS}
use Rattle.device_map.specs.declared.ids.TheConstants.{TRANSACTION_FORM, SHIFT_FORM}

-- the octet in which the address of a fuelling point, or of its transactions, begins
abbrev pub is_point_octet : ℕ → Bool
is_point_octet a = is_between (POINT_ADDRESS + 1) (POINT_ADDRESS + POINTS) a

-- the octet that is a product's address
abbrev pub is_product_octet : ℕ → Bool
is_product_octet a = is_between (PRODUCT_ADDRESS + 1) (PRODUCT_ADDRESS + PRODUCTS) a

-- the database of an address of one octet
abbrev pub database_of_octet : ℕ → Result Database MapFault
database_of_octet a =
    if a == SITE_ADDRESS then Ok Site
    else if is_point_octet a then Ok (Point (a - POINT_ADDRESS))
    else if is_product_octet a then Ok (Product (a - PRODUCT_ADDRESS))
    else Err BadAddress

-- four digits as they came, in the octets of this place and the next
abbrev pub digits_at : ℕ → List ℕ → Digits
digits_at place a = record { high = slice_index a place; low = slice_index a (place + 1) }

-- a sale's number alone: it is one of the shift that is open
abbrev pub sale_of_open_shift : List ℕ → SaleDigits
sale_of_open_shift a = record { shift = None; seq = digits_at 2 a }

-- a shift, and the sale's number in it
abbrev pub sale_of_shift : List ℕ → SaleDigits
sale_of_shift a = record { shift = Some (digits_at 2 a); seq = digits_at 4 a }

-- a transaction of the fuelling point whose address begins so
abbrev pub transaction_of : ℕ → SaleDigits → Result Database MapFault
transaction_of a digits =
    if is_point_octet a then Ok (Transaction (a - POINT_ADDRESS) digits) else Err BadAddress

-- the database that an address names
unfoldable pub database_at : List ℕ → Result Database MapFault
database_at a =
    if length a == 1 then database_of_octet (slice_index a 0)
    else if length a == 4 && slice_index a 1 == TRANSACTION_FORM
    then transaction_of (slice_index a 0) (sale_of_open_shift a)
    else if length a == 6 && slice_index a 1 == SHIFT_FORM
    then transaction_of (slice_index a 0) (sale_of_shift a)
    else Err BadAddress
