-- The words of the worked rows: the known site, rows of who asks what and is told what, and that
-- this is what the site replies.
use Rattle.std.proofs.Common.{◌≡◌, ℕ, List, [], ◌∷◌, false, Option, None, Result, Ok}
use Rattle.site_base.specs.declared.actor.Actor.{Actor}
use Rattle.site_base.specs.declared.actor.Actor.TheVariants.{Till, Dispenser}
use Rattle.site_base.specs.declared.answer.Answer.{Answer}
use Rattle.site_base.specs.declared.answer.Answer.TheVariants.{Done, Start, Flowed, Sold}
use Rattle.site_base.specs.declared.event.Event.{Event}
use Rattle.site_base.specs.declared.event.Event.TheVariants.{SignOn, Open, Assign, Release, Lift}
use Rattle.site_base.specs.declared.event.Event.TheVariants.{Flow, HangUp}
use Rattle.site_base.specs.declared.refusal.Refusal.{Refusal}
use Rattle.site_base.specs.declared.row.Row.{Row}
use Rattle.site_base.specs.declared.sale.SaleId.{SaleId}
use Rattle.site_base.specs.declared.state.PointState.{PointState}
use Rattle.site_base.specs.declared.state.Preset.TheVariants.{Unset}
use Rattle.site_base.specs.declared.state.Status.TheVariants.{Payable}
use Rattle.site_base.specs.declared.view.PointView.{PointView}
use Rattle.site_base.specs.declared.view.ProductView.{ProductView}
use Rattle.site_base.specs.declared.view.TransactionView.{TransactionView}
use Rattle.site_base.specs.declared.config.PointEntry.{PointEntry}
use Rattle.site_base.specs.declared.config.ProductEntry.{ProductEntry}
use Rattle.site_base.specs.Configured.{Configured}
use Rattle.written_site.specs.SiteState.{opening}
use Rattle.written_site.specs.SiteRun.{replies_to, events_of, replies_of}

-- product 1, diesel, at this price
abbrev pub diesel : ℕ → ProductEntry
diesel price = record {
  number = 1;
  name = 100 ∷ 105 ∷ 101 ∷ 115 ∷ 101 ∷ 108 ∷ [];
  price = price;
}

-- product 2, petrol, at this price
abbrev pub petrol : ℕ → ProductEntry
petrol price = record {
  number = 2;
  name = 112 ∷ 101 ∷ 116 ∷ 114 ∷ 111 ∷ 108 ∷ [];
  price = price;
}

-- a point with nozzle 1 of diesel, from reading 0, and nozzle 2 of petrol, from reading 1000
abbrev pub point_with_two : ℕ → PointEntry
point_with_two p = record {
  number = p;
  nozzles = record { product = 1; reading = 0 } ∷ record { product = 2; reading = 1000 } ∷ [];
}

-- the known site: diesel at 1500 mills, petrol at 1799, points 1 to 5, till 1 a manager
abbrev pub known_site : Configured
known_site = record {
  rows = 1000000;
  managers = 1 ∷ [];
  products = diesel 1500 ∷ petrol 1799 ∷ [];
  points =
      point_with_two 1
      ∷ point_with_two 2
      ∷ point_with_two 3
      ∷ point_with_two 4
      ∷ point_with_two 5
      ∷ [];
}

-- a row: an actor's event, and what it is told
abbrev pub told : Actor → Event → Result Answer Refusal → Row
told actor event reply = record { actor = actor; event = event; reply = reply }

-- a row of till 1
abbrev pub t1 : Event → Result Answer Refusal → Row
t1 event reply = told (Till 1) event reply

-- a row of till 2
abbrev pub t2 : Event → Result Answer Refusal → Row
t2 event reply = told (Till 2) event reply

-- a row of till 3
abbrev pub t3 : Event → Result Answer Refusal → Row
t3 event reply = told (Till 3) event reply

-- a row of the dispenser of point 1
abbrev pub d1 : Event → Result Answer Refusal → Row
d1 event reply = told (Dispenser 1) event reply

-- a row of the dispenser of point 2
abbrev pub d2 : Event → Result Answer Refusal → Row
d2 event reply = told (Dispenser 2) event reply

-- a row of the dispenser of point 3
abbrev pub d3 : Event → Result Answer Refusal → Row
d3 event reply = told (Dispenser 3) event reply

-- a point in this state with this holder, and nothing else to show
abbrev pub point : PointState → Option ℕ → PointView
point state holder = record {
  state = state;
  out = None;
  holder = holder;
  ending = false;
  test = false;
  preset = Unset;
  prepaid = None;
  price = 0;
  volume = 0;
}

-- the sale with this number in the open shift
abbrev pub sale : ℕ → SaleId
sale n = record { shift = None; seq = n }

-- a payable sale of this price, volume, amount and product, which wasn't prepaid
abbrev pub payable : ℕ → ℕ → ℕ → ℕ → TransactionView
payable price volume cents product = record {
  price = price;
  volume = volume;
  cents = cents;
  prepaid = None;
  status = Payable;
  till = None;
  product = product;
}

-- a product at this price, of which this was metered; its other volumes are 0
abbrev pub product : ℕ → ℕ → ProductView
product price metered = record {
  price = price;
  metered = metered;
  running = 0;
  payable = 0;
  locked = 0;
  cleared = 0;
  adjusted = 0;
}

-- 5,000 ml of diesel flow at point 1
abbrev pub flowing : List Row
flowing =
    t1 SignOn (Ok Done)
    ∷ t1 (Open 1) (Ok Done)
    ∷ t1 (Release 1 Unset) (Ok Done)
    ∷ d1 (Lift 1 1 0) (Ok (Start Unset 1500))
    ∷ d1 (Flow 1 1 5000) (Ok (Flowed 5000))
    ∷ []

-- diesel is sold twice at point 1, and both sales are unpaid
abbrev pub sold_twice : List Row
sold_twice =
    t1 SignOn (Ok Done)
    ∷ t1 (Open 1) (Ok Done)
    ∷ t1 (Release 1 Unset) (Ok Done)
    ∷ d1 (Lift 1 1 0) (Ok (Start Unset 1500))
    ∷ d1 (HangUp 1 1 1000) (Ok (Sold 1 1000))
    ∷ t1 (Release 1 Unset) (Ok Done)
    ∷ d1 (Lift 1 1 1000) (Ok (Start Unset 1500))
    ∷ d1 (HangUp 1 1 3000) (Ok (Sold 2 2000))
    ∷ []

-- the tills 1 and 2 sign on and take a point each, and point 3 is opened
abbrev pub at_work : List Row
at_work =
    t1 SignOn (Ok Done)
    ∷ t2 SignOn (Ok Done)
    ∷ t1 (Assign 1) (Ok Done)
    ∷ t2 (Assign 2) (Ok Done)
    ∷ t1 (Open 3) (Ok Done)
    ∷ []

-- these are the site's replies to the events of these rows, one after another, from its opening on
pub record AreAnswered (c : Configured) (rows : List Row) : Type 0 where
  pub replies : replies_to (opening c) (events_of rows) ≡ replies_of rows
