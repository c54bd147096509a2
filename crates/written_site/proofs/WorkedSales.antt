-- Worked rows of fuellings that end in a sale, and of one without fuel.
use Rattle.std.proofs.Common.{◌≡◌, ℕ, ◌++◌, [], ◌∷◌, Some, None, Ok, Err, refl, arith}
use Rattle.site_base.specs.declared.actor.Actor.TheVariants.{Till, Dispenser}
use Rattle.site_base.specs.declared.answer.Answer.TheVariants.{Done, Calling, Start, Flowed, NoSale}
use Rattle.site_base.specs.declared.answer.Answer.TheVariants.{Sold, PointIs, TransactionIs}
use Rattle.site_base.specs.declared.answer.Answer.TheVariants.{ProductIs}
use Rattle.site_base.specs.declared.event.Event.TheVariants.{SignOn, Open, Close, Release, Prepay}
use Rattle.site_base.specs.declared.event.Event.TheVariants.{ReadPoint, ReadTransaction}
use Rattle.site_base.specs.declared.event.Event.TheVariants.{ReadProduct, Lift, Flow, HangUp}
use Rattle.site_base.specs.declared.refusal.Refusal.TheVariants.{NoSuchTransaction, BadPreset}
use Rattle.site_base.specs.declared.refusal.Refusal.TheVariants.{WrongState, BufferFull}
use Rattle.site_base.specs.declared.sale.SaleId.{SaleId}
use Rattle.site_base.specs.declared.state.PointState.TheVariants as states
use Rattle.site_base.specs.declared.state.Preset.TheVariants.{Unset, Volume}
use Rattle.site_base.specs.Amounts.{amount, IsGreatestVolume}
use Rattle.site_base.specs.Configured.{Configured}
use Rattle.written_site.proofs.WorkedRows.{diesel, petrol, point_with_two, known_site, sold_twice}
use Rattle.written_site.proofs.WorkedRows.{told, t1, d1, d3, point, sale, payable, product}
use Rattle.written_site.proofs.WorkedRows.{AreAnswered}
use Rattle.written_site.proofs.WorkedReplies.{answered, kit}

-- the sale with this number in shift h
abbrev sale_of_shift : ℕ → ℕ → SaleId
sale_of_shift h n = record { shift = Some h; seq = n }

-- a calling point is released, and petrol flows: a sale of 12,345 ml and 2,221 cents
petrol_sold : AreAnswered known_site
    (t1 SignOn (Ok Done)
    ∷ t1 (Open 3) (Ok Done)
    ∷ d3 (Lift 3 2 1000) (Ok Calling)
    ∷ t1 (Release 3 Unset) (Ok Done)
    ∷ d3 (Flow 3 2 13345) (Ok (Flowed 12345))
    ∷ t1 (ReadPoint 3) (Ok (PointIs (record (point states.Fuelling (Some 1)) {
      out = Some 2;
      price = 1799;
      volume = 12345;
    })))
    ∷ t1 (ReadProduct 2) (Ok (ProductIs (record (product 1799 12345) { running = 12345 })))
    ∷ d3 (HangUp 3 2 13345) (Ok (Sold 1 0))
    ∷ t1 (ReadTransaction 3 (sale 1)) (Ok (TransactionIs (payable 1799 12345 2221 2)))
    ∷ t1 (ReadTransaction 3 (sale_of_shift 1 1)) (Ok (TransactionIs (payable 1799 12345 2221 2)))
    ∷ t1 (ReadTransaction 3 (sale_of_shift 2 1)) (Err NoSuchTransaction)
    ∷ t1 (ReadProduct 2) (Ok (ProductIs (record (product 1799 12345) { payable = 12345 })))
    ∷ t1 (ReadProduct 1) (Ok (ProductIs (product 1500 0)))
    ∷ t1 (ReadPoint 3) (Ok (PointIs (point states.Idle None)))
    ∷ [])
petrol_sold = answered (simp kit)

-- what volumes cost: 5,000 ml at 1,799 mills are 900 cents, and 1 ml at 1 mill is 0
cents_of_5_litres : amount 5000 1799 ≡ 900
cents_of_5_litres = refl

cents_of_a_millilitre : amount 1 1 ≡ 0
cents_of_a_millilitre = refl

-- what money buys: 2,000 cents at 1,500 mills
bought : IsGreatestVolume 2000 1500 13336
bought = record { affordable = omega arith; greatest = λ n within. omega arith }

-- point 1 of the known site, and diesel at 1 mill
abbrev cheap_site : Configured
cheap_site = record {
  rows = 1000;
  managers = [];
  products = diesel 1 ∷ petrol 1799 ∷ [];
  points = point_with_two 1 ∷ [];
}

-- a millilitre at 1 mill is sold for 0 cents, and 5,000 ml at 1,799 mills for 900
cheap_sold : AreAnswered cheap_site
    (t1 SignOn (Ok Done)
    ∷ t1 (Open 1) (Ok Done)
    ∷ t1 (Release 1 Unset) (Ok Done)
    ∷ d1 (Lift 1 1 0) (Ok (Start Unset 1))
    ∷ d1 (HangUp 1 1 1) (Ok (Sold 1 1))
    ∷ t1 (ReadTransaction 1 (sale 1)) (Ok (TransactionIs (payable 1 1 0 1)))
    ∷ t1 (Release 1 Unset) (Ok Done)
    ∷ d1 (Lift 1 2 1000) (Ok (Start Unset 1799))
    ∷ d1 (HangUp 1 2 6000) (Ok (Sold 2 5000))
    ∷ t1 (ReadTransaction 1 (sale 2)) (Ok (TransactionIs (payable 1799 5000 900 2)))
    ∷ [])
cheap_sold = answered (simp kit)

-- no fuel, no sale: the hold ends, and there is no transaction
nothing_sold : AreAnswered known_site
    (t1 SignOn (Ok Done)
    ∷ t1 (Open 1) (Ok Done)
    ∷ t1 (Release 1 Unset) (Ok Done)
    ∷ d1 (Lift 1 1 0) (Ok (Start Unset 1500))
    ∷ d1 (HangUp 1 1 0) (Ok NoSale)
    ∷ t1 (ReadPoint 1) (Ok (PointIs (point states.Idle None)))
    ∷ t1 (ReadTransaction 1 (sale 1)) (Err NoSuchTransaction)
    ∷ [])
nothing_sold = answered (simp kit)

-- with two unpaid sales a point isn't released; a preset and its state are looked at first
buffer_full : AreAnswered known_site
    (sold_twice ++
    t1 (Release 1 Unset) (Err BufferFull)
    ∷ t1 (Prepay 1 1) (Err BufferFull)
    ∷ t1 (Release 1 (Volume 0)) (Err BadPreset)
    ∷ t1 (Close 1) (Ok Done)
    ∷ t1 (Release 1 Unset) (Err (WrongState states.Closed))
    ∷ t1 (Prepay 1 1) (Err (WrongState states.Closed))
    ∷ [])
buffer_full = answered (simp kit)

-- the last point alone, with a nozzle of diesel
abbrev last_point : Configured
last_point = record {
  rows = 1000;
  managers = 1 ∷ [];
  products = diesel 1500 ∷ [];
  points = record { number = 64; nozzles = record { product = 1; reading = 0 } ∷ [] } ∷ [];
}

-- the last point sells, and the last till asks for it
last_point_sold : AreAnswered last_point
    (told (Till 32) SignOn (Ok Done)
    ∷ told (Till 32) (Open 64) (Ok Done)
    ∷ told (Till 32) (Release 64 Unset) (Ok Done)
    ∷ told (Dispenser 64) (Lift 64 1 0) (Ok (Start Unset 1500))
    ∷ told (Dispenser 64) (HangUp 64 1 10) (Ok (Sold 1 10))
    ∷ told (Till 32) (ReadTransaction 64 (sale 1)) (Ok (TransactionIs (payable 1500 10 2 1)))
    ∷ [])
last_point_sold = answered (simp kit)
