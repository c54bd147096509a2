-- Sales that were found: what they are called by, and where they stand.
use Rattle.std.specs.Prelude.{◌≡◌, ℕ, Option, Some}
use Rattle.transaction_buffer.specs.declared.found_sale.FoundSale.{FoundSale}
use Rattle.transaction_buffer.specs.Sales.{Key, key, Sales, sales_at}
use Rattle.transaction_buffer.specs.Shelves.{place_in, shifts_of}

-- what a found sale is called by
abbrev pub key_of : FoundSale → Key
key_of found = key found.shift found.point found.number

-- the place of the sale of this name among its point's sales
abbrev pub place_of : Key → Sales → Option ℕ
place_of k s = place_in k.shift k.number (shifts_of (sales_at k.point s))

-- the sale stands where it was found
abbrev pub IsPlaced : FoundSale → Sales → Type 0
IsPlaced found s = place_of (key_of found) s ≡ Some found.place
