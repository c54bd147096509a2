-- Codes of the sales, by which a model that holds sales tells its values apart.
use Rattle.std.specs.Prelude.{◌≡◌, ℕ, List, Option, Some, None, refl}
use Rattle.std.specs.Coded.{Coded, code_by, coded_ℕ, coded×, coded_list, coded_option}
use Rattle.std.specs.Ordering.{nat_cmp}
use Rattle.std.specs.FinMap as finite
use Rattle.transaction_buffer.specs.declared.standing.Standing.{Standing}
use Rattle.transaction_buffer.specs.declared.standing.Standing.TheVariants.{Payable, LockedBy}
use Rattle.transaction_buffer.specs.declared.standing.Standing.TheVariants.{ClearedBy}
use Rattle.transaction_buffer.specs.Sales.{Sale, Sales}
use Rattle.transaction_buffer.specs.Rooms.{Buffered}

-- a standing as its till, if it names one, and its shift, if it has one
abbrev pub parts_of : Standing → Option (ℕ × Option ℕ)
parts_of Payable = None
parts_of (LockedBy till) = Some (till, None)
parts_of (ClearedBy till shift) = Some (till, Some shift)

abbrev pub by_shift : ℕ → Option ℕ → Standing
by_shift till None = LockedBy till
by_shift till (Some shift) = ClearedBy till shift

abbrev pub standing_from : Option (ℕ × Option ℕ) → Standing
standing_from None = Payable
standing_from (Some p) = by_shift p.0 p.1

pub standing_parts : (x : Standing) → standing_from (parts_of x) ≡ x
standing_parts Payable = refl
standing_parts (LockedBy till) = refl
standing_parts (ClearedBy till shift) = refl

abbrev pub standing_code : Coded Standing
standing_code =
    code_by (Option (ℕ × Option ℕ)) (coded_option (coded× coded_ℕ (coded_option coded_ℕ)))
    parts_of standing_from standing_parts

abbrev pub sale_code : Coded Sale
sale_code =
    code_by (ℕ × (ℕ × (ℕ × (ℕ × (Option ℕ × (ℕ × Standing))))))
    (coded× coded_ℕ (coded× coded_ℕ (coded× coded_ℕ (coded× coded_ℕ
    (coded× (coded_option coded_ℕ) (coded× coded_ℕ standing_code))))))
    (λ x. (x.shift, (x.price, (x.volume, (x.cents, (x.prepaid, (x.product, x.standing)))))))
    (λ p. record {
      shift = p.0;
      price = p.1.0;
      volume = p.1.1.0;
      cents = p.1.1.1.0;
      prepaid = p.1.1.1.1.0;
      product = p.1.1.1.1.1.0;
      standing = p.1.1.1.1.1.1;
    })
    (λ _. refl)

abbrev pub sales_code : Coded Sales
sales_code = finite.code {R = nat_cmp} coded_ℕ (coded_list sale_code)

abbrev pub buffered_code : Coded Buffered
buffered_code =
    code_by (Sales × List ℕ) (coded× sales_code (coded_list coded_ℕ)) (λ b. (b.sales, b.rooms))
    (λ p. record { sales = p.0; rooms = p.1 }) (λ _. refl)
