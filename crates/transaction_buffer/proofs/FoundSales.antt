-- Where a sale stands that was found.
use Rattle.std.proofs.Common.{◌≡◌, ℕ, ◌+◌, ◌<◌, List, length, get_or, Option, Some, None, is_some}
use Rattle.std.proofs.Common.{refl, sym, ap, ◌∙◌}
use Rattle.transaction_buffer.specs.declared.found_sale.FoundSale.{FoundSale}
use Rattle.transaction_buffer.specs.declared.standing.Standing.TheVariants.{Payable}
use Rattle.transaction_buffer.specs.FoundSales.{IsPlaced}
use Rattle.transaction_buffer.specs.Sales.{Sale, sale_in, sales_at}
use Rattle.transaction_buffer.specs.Shelves.{Shelf, place_in, sales_on, shifts_of}
use Rattle.transaction_buffer.proofs.OnShelves.{sales_there}
use Rattle.transaction_buffer.proofs.Spans.{StandsAt, nowhere, stands}

-- on its point's shelf
pub found_there : (found : FoundSale) (shelves : List Shelf) (i : ℕ) (d : Shelf)
    → i + 1 ≡ found.point → i < length shelves → IsPlaced found (sales_on shelves)
    → StandsAt found.shift found.number (get_or shelves i d).sales found.place
found_there found shelves i d place within placed =
    stands found.shift found.number (get_or shelves i d).sales found.place
    (ap (λ (xs : List Sale). place_in found.shift found.number (shifts_of xs))
    (sym (sales_there shelves i found.point d place within)) ∙ placed)

some_sale : Sale
some_sale = record {
  shift = 0;
  price = 0;
  volume = 0;
  cents = 0;
  prepaid = None;
  product = 0;
  standing = Payable;
}

-- a sale has a place just where it is there
pub place_tells : (h n : ℕ) (xs : List Sale)
    → is_some (place_in h n (shifts_of xs)) ≡ is_some (sale_in h n xs)
place_tells h n xs = by_place (place_in h n (shifts_of xs)) refl
  where
    by_place : (o : Option ℕ) → place_in h n (shifts_of xs) ≡ o
        → is_some o ≡ is_some (sale_in h n xs)
    by_place None is = sym (ap is_some (nowhere h n xs is))
    by_place (Some i) is = sym (ap is_some ((stands h n xs i is).sale some_sale))
